use Rattle.std.proofs.Common.{◌≡◌, ℕ, ◌+◌, List, ◌∷◌, ◌++◌, length, sym, ap, append_assoc, arith, rules}
use Rattle.lent_bytes.specs.Numbers.{be4, be8}
use Rattle.lent_bytes.proofs.Writes.{wrote_then}
use Rattle.model.specs.Tree.{Entry'}
use Rattle.calls.specs.Format.{encode_reply}
use Rattle.service.proofs.Saying.{said_in}
use Rattle.service.proofs.answering.say_entry.Goals as goal

pub returns : goal.returns
unfolding encode_reply
returns c =
    let h = c.args.seen.head in
    let v = c.args.seen.value.now in
    let numbers = be8 h.version.0 ++ (be8 h.made.0 ++ (be8 h.changed.0 ++ (be8 h.kids.0 ++ be8 h.owner.0))) in
    let wrote = wrote_then c.bytes.ensures.wrote (wrote_then c.u32.ensures.wrote (wrote_then c.bytes-2.ensures.wrote (wrote_then c.u64.ensures.wrote
    (wrote_then c.u64-2.ensures.wrote (wrote_then c.u64-3.ensures.wrote (wrote_then c.u64-4.ensures.wrote c.u64-5.ensures.wrote)))))) in
    let says = said_in (Entry' v h.version.0 h.made.0 h.changed.0 h.kids.0 h.owner.0) c.new-answer.result (2 ∷ (be4 (length v) ++ (v ++ numbers))) c.u64-5.new.self c.new-answer.ensures.used wrote
    (omega (arith, c.requires.room, c.new-answer.ensures.used, ap length c.new-answer.ensures.now, c.bytes.ensures.used, c.u32.ensures.used, c.bytes-2.ensures.used, c.u64.ensures.used, c.u64-2.ensures.used, c.u64-3.ensures.used, c.u64-4.ensures.used, c.u64-5.ensures.used))
    (ap (λ (l : List ℕ). 2 ∷ l) (sym (append_assoc (be4 (length v)) v numbers))) in
    search rules
