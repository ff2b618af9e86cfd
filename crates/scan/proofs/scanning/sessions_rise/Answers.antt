use Rattle.std.proofs.Common.{ℕ, List, sym, ap, ◌∙◌, arith}
use Rattle.cells.specs.Layout.{sessions_in}
use Rattle.cells.specs.Fits.{rising}
use Rattle.cells.specs.Walks.{sessions_left}
use Rattle.scan.proofs.Rises.{rises_not, rises_on, rises_all}
use Rattle.scan.proofs.scanning.sessions_rise.Goals as goal

pub returns-then-session-low : goal.returns-then-session-low
returns-then-session-low c =
    let last = c.last_session-last.result.0 in
    sym (ap (rising 0 (sessions_in c.args.prelude.bytes.now)) (sym c.last_session-last.ensures) ∙ c.loop-session.invariant ∙ rises_not last c.loop-session.low _ _ _ c.in-Some.ensures.steps c.if-session-low.true)

pub loop-session-preserved : goal.loop-session-preserved
loop-session-preserved c = c.loop-session.invariant ∙ rises_on c.last_session-last.result.0 c.loop-session.low _ _ _ c.in-Some.ensures.steps c.if-session-low.false

pub returns : goal.returns
returns c =
    let last = c.last_session-last.result.0 in
    sym (ap (rising 0 (sessions_in c.args.prelude.bytes.now)) (sym c.last_session-last.ensures) ∙ c.loop-session.invariant ∙ rises_all last c.loop-session.low _ c.in-None.ensures.steps.0)
