use Rattle.std.proofs.Common.{◌≡◌}
use Rattle.cells.specs.Layout.{sessions_in}
use Rattle.cells.specs.Fits.{rising}
use Rattle.cells.specs.Walks.{sessions_left}
use Rattle.scan.proofs.scanning.sessions_rise.Given as goal

-- that all rise is that those left do
abbrev pub invariant-loop-session : goal.invariant-loop-session
invariant-loop-session l = rising 0 (sessions_in l.prelude.bytes.now) l.last ≡ rising l.low (sessions_left l.session-iterator) l.last
