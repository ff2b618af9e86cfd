use Rattle.agreement.specs.Sums.{sums}
use Rattle.agreement.proofs.Clients.{whole_is_member}
use Rattle.agreement.proofs.whole_is_member.Goals as goal

pub returns : goal.returns
returns c = whole_is_member sums
