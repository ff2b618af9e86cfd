use Rattle.std.proofs.Common.{◌+◌, ◌<◌, length, drop, ap, ◌∙◌, arith, rules}
use Rattle.std.proofs.lemmas.List.{take_rest}
use Rattle.lent_bytes.proofs.Writes.{and_then, the_same}
use Rattle.cells.specs.Layout.{prelude_of, state_of}
use Rattle.drafts.proofs.Grows.{begun}
use Rattle.sessions.specs.Opening.{opened}
use Rattle.sessions.proofs.Opens.{opened_begins, opened_long, begins_count, others_long}
use Rattle.sessions.proofs.opening.start_opened.Goals as goal

pub returns : goal.returns
returns c =
    let mem = c.args.tree.bytes.now in
    let ps = c.args.tree.places.now in
    let s = state_of mem ps in
    let k = length s.sessions in
    let others = drop 28 (prelude_of mem ps) in
    let x = c.args.session.0 in
    let n = c.args.changes.0 in
    let ln : n < 18446744073709551616 = search rules in
    let lx : x < 18446744073709551616 = search rules in
    let lt : c.top.result.0 < 18446744073709551616 = search rules in
    let lt' : s.top < 18446744073709551616 = omega (arith, c.top.ensures) in
    let rest = take_rest c.prelude.result.bytes.now 28 ∙ ap (drop 28) c.prelude.ensures.value in
    let long = others_long mem ps c.args.tree.holds in
    let first = begins_count mem ps c.args.tree.holds in
    let all = opened_long n s.top x (k + 1) others ln lt' lx (omega arith) in
    let added = the_same _ (opened n s.top x (k + 1) others) (λ i. opened n (c.top.ensures i) x (c.session_count.ensures i + 1) (rest i))
    (and_then (and_then (and_then (and_then (and_then c.append_u64-a.ensures.added c.append_u64-b.ensures.added) c.append_u64-c.ensures.added) c.append_u32-d.ensures.added) c.append_bytes-e.ensures.added) c.append_u64-used.ensures.added) in
    record {
      begun = begun _ _ _ _ _ (opened_begins n s.top x (k + 1) others ln lt' lx (omega arith) (omega arith)) added c.requires.more (omega (arith, added.ends, added.long));
      used = omega (arith, added.ends);
    }
