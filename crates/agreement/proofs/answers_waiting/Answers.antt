use Rattle.agreement.specs.Sums.{sums}
use Rattle.agreement.proofs.Clients.{answers_waiting}
use Rattle.agreement.proofs.answers_waiting.Goals as goal

pub returns : goal.returns
returns c = answers_waiting sums
