use Rattle.agreement.proofs.Sums.{steady_sums}
use Rattle.agreement.proofs.small_service_is_steady.Goals as goal

pub returns : goal.returns
returns c = steady_sums
