use Rattle.agreement.specs.Sums.{sums}
use Rattle.agreement.proofs.Clients.{hands_back}
use Rattle.agreement.proofs.Sums.{lawful_sums}
use Rattle.agreement.proofs.hands_back.Goals as goal

pub returns : goal.returns
returns c = hands_back sums lawful_sums
