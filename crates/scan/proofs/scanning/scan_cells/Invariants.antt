use Rattle.std.proofs.Common.{◌-◌, length}
use Rattle.scan.proofs.Scans.{Walk}
use Rattle.scan.proofs.scanning.scan_cells.Given as goal

abbrev pub invariant-loop-at : goal.invariant-loop-at
invariant-loop-at l = Walk l.bytes l.at l.count l.places

abbrev pub decreases-loop-at : goal.decreases-loop-at
decreases-loop-at l = length l.bytes - l.at
