use Rattle.agreement.specs.Sums.{sums}
use Rattle.agreement.proofs.Linear.{like_aRoom}
use Rattle.agreement.proofs.Sums.{lawful_sums}
use Rattle.agreement.proofs.like_a_room.Goals as goal

pub returns : goal.returns
returns c = like_aRoom sums lawful_sums
