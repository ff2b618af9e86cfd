use Rattle.agreement.specs.Sums.{sums}
use Rattle.agreement.proofs.Runs.{to_others}
use Rattle.agreement.proofs.speaks_to_others.Goals as goal

pub returns : goal.returns
returns c = to_others sums
