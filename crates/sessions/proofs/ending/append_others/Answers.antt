use Rattle.std.proofs.Common.{ℕ, ◌+◌, ◌*◌, [], ◌∷◌, ◌++◌, sym, ap, ◌∙◌, arith}
use Rattle.std.proofs.lemmas.List.{length_push}
use Rattle.lent_bytes.specs.Numbers.{be32}
use Rattle.lent_bytes.proofs.Writes.{and_then, the_same}
use Rattle.cells.specs.Layout.{sessions_in}
use Rattle.cells.specs.Walks.{sessions_left}
use Rattle.cells.proofs.Preludes.{length_numbers}
use Rattle.sessions.specs.Ending.{numbers_bytes, others}
use Rattle.sessions.proofs.Others.{passed_skip, passed_more, passed_all, passed_few, bytes_push, length_bytes, added_none}
use Rattle.sessions.proofs.ending.append_others.Goals as goal

pub loop-open-init : goal.loop-open-init
loop-open-init c = ([], ap (others c.args.session.0) (sym c.sessions-open-items.ensures ∙ sym (ap sessions_left c.into_iter-open-iterator.ensures.into_iter_gives)), added_none _ _)

pub append_u64-end-requires : goal.append_u64-end-requires
append_u64-end-requires c =
    let pre = c.args.prelude.bytes.now in
    let p = c.loop-open.invariant in
    let more = passed_more c.args.session.0 (sessions_in pre) p.0 _ p.1 _ _ c.in-Some.ensures.steps c.if-session-open.true in
    omega (arith, p.2.ends, p.2.long, passed_few _ _ _ _ more, length_push p.0 c.in-Some.open.0, length_bytes p.0, length_numbers (be32 pre 24) pre 28, c.requires)

pub loop-open-preserved-then-session-open : goal.loop-open-preserved-then-session-open
loop-open-preserved-then-session-open c =
    let pre = c.args.prelude.bytes.now in
    let p = c.loop-open.invariant in
    (p.0 ++ (c.in-Some.open.0 ∷ []), passed_more c.args.session.0 (sessions_in pre) p.0 _ p.1 _ _ c.in-Some.ensures.steps c.if-session-open.true, the_same _ _ (sym (bytes_push p.0 c.in-Some.open.0)) (and_then p.2 c.append_u64-end.ensures.added))

pub loop-open-preserved : goal.loop-open-preserved
loop-open-preserved c =
    let pre = c.args.prelude.bytes.now in
    let p = c.loop-open.invariant in
    (p.0, passed_skip c.args.session.0 (sessions_in pre) p.0 _ p.1 _ _ c.in-Some.ensures.steps c.if-session-open.false, p.2)

pub returns : goal.returns
returns c =
    let pre = c.args.prelude.bytes.now in
    let p = c.loop-open.invariant in
    let all = passed_all c.args.session.0 (sessions_in pre) p.0 _ c.in-None.ensures.steps.0 p.1 in
    record {
      end = omega (arith, p.2.ends, passed_few _ _ _ _ p.1, length_bytes p.0, length_numbers (be32 pre 24) pre 28);
      added = the_same _ _ (sym (ap numbers_bytes all)) p.2;
    }
