use Rattle.std.proofs.Common.{◌-◌, length}
use Rattle.lent_bytes.proofs.Walks.{Fronts}
use Rattle.lent_bytes.proofs.paths.check_path.Given as goal

abbrev pub invariant-loop-at : goal.invariant-loop-at
invariant-loop-at l = Fronts l.path l.at l.count

abbrev pub decreases-loop-at : goal.decreases-loop-at
decreases-loop-at l = length l.path - l.at
