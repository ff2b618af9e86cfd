use Rattle.std.proofs.Common.{ℕ, ◌+◌, [], ◌∷◌, ◌++◌, length, sym, ap, ◌∙◌, arith}
use Rattle.std.proofs.lemmas.List.{length_push}
use Rattle.lent_bytes.specs.Numbers.{be32}
use Rattle.cells.specs.Layout.{sessions_in}
use Rattle.cells.specs.Walks.{sessions_left}
use Rattle.cells.proofs.Preludes.{length_numbers}
use Rattle.sessions.specs.Ending.{others}
use Rattle.sessions.proofs.Others.{passed_skip, passed_more, passed_all, others_few}
use Rattle.sessions.proofs.ending.count_others.Goals as goal

pub loop-open-init : goal.loop-open-init
loop-open-init c =
    let pre = c.args.prelude.bytes.now in
    let all = c.sessions-open-items.ensures in
    let same = ap sessions_left c.into_iter-open-iterator.ensures.into_iter_gives in
    ([], ap (others c.args.session.0) (sym (same ∙ all)), omega (arith, ap length (same ∙ all), length_numbers (be32 pre 24) pre 28, c.session_count-left.ensures))

pub overflow_sub-left : goal.overflow_sub-left
overflow_sub-left c = let p = c.loop-open.invariant in omega (arith, p.2, ap length c.in-Some.ensures.steps)

pub loop-open-preserved-then-session-open : goal.loop-open-preserved-then-session-open
loop-open-preserved-then-session-open c =
    let p = c.loop-open.invariant in
    (p.0, passed_skip c.args.session.0 (sessions_in c.args.prelude.bytes.now) p.0 _ p.1 _ _ c.in-Some.ensures.steps c.if-session-open.true, omega (arith, p.2, ap length c.in-Some.ensures.steps))

pub loop-open-preserved : goal.loop-open-preserved
loop-open-preserved c =
    let p = c.loop-open.invariant in
    (p.0 ++ (c.in-Some.open.0 ∷ []), passed_more c.args.session.0 (sessions_in c.args.prelude.bytes.now) p.0 _ p.1 _ _ c.in-Some.ensures.steps c.if-session-open.false, omega (arith, p.2, ap length c.in-Some.ensures.steps, length_push p.0 c.in-Some.open.0))

pub returns : goal.returns
returns c =
    let pre = c.args.prelude.bytes.now in
    let p = c.loop-open.invariant in
    let none = c.in-None.ensures.steps.0 in
    let all = ap length (passed_all c.args.session.0 (sessions_in pre) p.0 _ none p.1) in
    record { count = omega (arith, p.2, ap length none, all); few = omega (arith, p.2, ap length none, all, others_few c.args.session.0 (sessions_in pre), length_numbers (be32 pre 24) pre 28) }
