use Rattle.agreement.specs.Sums.{sums}
use Rattle.agreement.proofs.History.{all_agree}
use Rattle.agreement.proofs.agreement_holds.Goals as goal

pub returns : goal.returns
returns c = all_agree sums
