use Rattle.agreement.proofs.Linear.{like_aRoom}
use Rattle.agreement.proofs.Clients.{hands_back, answers_waiting}
use Rattle.agreement.proofs.Progress.{answers_and_heals}
use Rattle.service.specs.Service.{calls}
use Rattle.service.proofs.Lawfulness.{calls_lawful}
use Rattle.service.proofs.Steadiness.{calls_steady}
use Rattle.service.proofs.laws.tree_is_whole.Goals as goal

pub returns : goal.returns
unfolding calls_steady
returns c room =
    let sv = calls room in
    let law = calls_lawful room in
    (like_aRoom sv law, hands_back sv law, answers_waiting sv, answers_and_heals sv (calls_steady room))
