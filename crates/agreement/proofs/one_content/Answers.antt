use Rattle.agreement.specs.Sums.{sums}
use Rattle.agreement.proofs.Contents.{one_content}
use Rattle.agreement.proofs.one_content.Goals as goal

pub returns : goal.returns
returns c = one_content sums
