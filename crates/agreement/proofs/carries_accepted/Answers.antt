use Rattle.agreement.specs.Sums.{sums}
use Rattle.agreement.proofs.Carried.{carries_accepted}
use Rattle.agreement.proofs.carries_accepted.Goals as goal

pub returns : goal.returns
returns c = carries_accepted sums
