use Rattle.std.proofs.Common.{◌≡◌, ℕ, ◌+◌, List, length}
use Rattle.cells.specs.Layout.{sessions_in}
use Rattle.cells.specs.Walks.{sessions_left}
use Rattle.sessions.proofs.Others.{Passed}
use Rattle.sessions.proofs.ending.count_others.Given as goal

abbrev pub invariant-loop-open : goal.invariant-loop-open
invariant-loop-open l =
    (done : List ℕ) × Passed l.session.0 (sessions_in l.prelude.bytes.now) done (sessions_left l.open-iterator) × (l.left ≡ length done + length (sessions_left l.open-iterator))
