use Rattle.agreement.specs.Sums.{sums}
use Rattle.agreement.proofs.Clients.{answered_once}
use Rattle.agreement.proofs.answered_once.Goals as goal

pub returns : goal.returns
returns c = answered_once sums
