use Rattle.agreement.proofs.Sums.{lawful_sums}
use Rattle.agreement.proofs.small_service_is_lawful.Goals as goal

pub returns : goal.returns
returns c = lawful_sums
