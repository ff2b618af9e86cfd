use Rattle.std.proofs.Common.{◌-◌, length}
use Rattle.lent_bytes.proofs.Lasts.{Names}
use Rattle.lent_bytes.proofs.paths.Path.last_name.Given as goal

abbrev pub invariant-loop-end : goal.invariant-loop-end
invariant-loop-end l = Names l.names l.at l.end

abbrev pub decreases-loop-end : goal.decreases-loop-end
decreases-loop-end l = length l.names - l.end
