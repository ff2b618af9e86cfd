use Rattle.agreement.specs.Sums.{sums}
use Rattle.agreement.proofs.Runs.{one_line}
use Rattle.agreement.proofs.one_line.Goals as goal

pub returns : goal.returns
returns c = one_line sums
