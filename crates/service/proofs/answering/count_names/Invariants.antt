use Rattle.std.proofs.Common.{length}
use Rattle.service.proofs.Saying.{Counted}
use Rattle.service.proofs.answering.count_names.Given as goal

abbrev pub invariant-loop-n : goal.invariant-loop-n
invariant-loop-n l = Counted l.path.names.now l.names l.count

abbrev pub decreases-loop-n : goal.decreases-loop-n
decreases-loop-n l = length l.names
