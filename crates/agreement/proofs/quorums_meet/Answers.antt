use Rattle.agreement.proofs.Quorum.{quorums}
use Rattle.agreement.proofs.quorums_meet.Goals as goal

pub returns : goal.returns
returns c = quorums
