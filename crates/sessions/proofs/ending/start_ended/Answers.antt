use Rattle.std.proofs.Common.{◌≡◌, ℕ, ◌<◌, List, ◌++◌, length, sym, ap, ◌∙◌, arith, rules}
use Rattle.lent_bytes.specs.Numbers.{be32, be64, be4, be8}
use Rattle.lent_bytes.proofs.Writes.{and_then, the_same}
use Rattle.cells.specs.Layout.{prelude_of, sessions_in, state_of}
use Rattle.drafts.proofs.Grows.{begun}
use Rattle.cells.proofs.Preludes.{length_numbers}
use Rattle.sessions.specs.Ending.{ended, numbers_bytes, others}
use Rattle.sessions.proofs.Ends.{ended_begins}
use Rattle.sessions.proofs.Opens.{begins_count}
use Rattle.sessions.proofs.ending.start_ended.Goals as goal

pub returns : goal.returns
returns c =
    let mem = c.args.tree.bytes.now in
    let ps = c.args.tree.places.now in
    let s = state_of mem ps in
    let pre = c.prelude-prelude.result.bytes.now in
    let is = c.prelude-prelude.ensures.value in
    let ys = others c.args.session.0 s.sessions in
    let n = c.args.changes.0 in
    let ln : n < 18446744073709551616 = search rules in
    let lt : c.top.result.0 < 18446744073709551616 = search rules in
    let lt' : s.top < 18446744073709551616 = omega (arith, c.top.ensures) in
    let last : c.last_session.result.0 ≡ s.last_session = c.last_session.ensures ∙ ap (λ (bs : List ℕ). be64 bs 16) is in
    let lx : s.last_session < 18446744073709551616 = omega (arith, last, c.last_session.type_inv) in
    let count : c.count_others.result ≡ length ys = c.count_others.ensures.count ∙ ap (λ (bs : List ℕ). length (others c.args.session.0 (sessions_in bs))) is in
    let lk : length ys < 4294967296 = omega (arith, count, c.count_others.type_inv) in
    let first = begins_count mem ps c.args.tree.holds in
    let sessions : be32 pre 24 ≡ length s.sessions = ap (λ (bs : List ℕ). be32 bs 24) is ∙ sym (length_numbers (be32 (prelude_of mem ps) 24) (prelude_of mem ps) 28) in
    let added = the_same _ (ended n s.top s.last_session ys) (λ i. (((be8 n ++ be8 (c.top.ensures i)) ++ be8 (last i)) ++ be4 (count i)) ++ numbers_bytes (others c.args.session.0 (sessions_in (is i))))
    (and_then (and_then (and_then (and_then c.append_u64-a.ensures.added c.append_u64-b.ensures.added) c.append_u64-c.ensures.added) c.append_u32-d.ensures.added) c.append_others-used.ensures.added) in
    record {
      begun = begun _ _ _ _ _ (ended_begins n s.top s.last_session ys ln lt' lx lk) added c.requires.more (omega (arith, added.long, c.append_others-used.ensures.end));
      used = omega (arith, c.append_others-used.ensures.end);
    }
