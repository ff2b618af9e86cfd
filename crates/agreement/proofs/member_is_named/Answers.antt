use Rattle.agreement.specs.Sums.{sums}
use Rattle.agreement.proofs.Runs.{member_is_named}
use Rattle.agreement.proofs.member_is_named.Goals as goal

pub returns : goal.returns
returns c = member_is_named sums
