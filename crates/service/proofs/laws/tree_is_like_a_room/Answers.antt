use Rattle.agreement.proofs.Linear.{like_aRoom}
use Rattle.agreement.proofs.Clients.{hands_back, answers_waiting}
use Rattle.service.specs.Service.{lines, calls}
use Rattle.service.proofs.Lawfulness.{lines_lawful, calls_lawful}
use Rattle.service.proofs.laws.tree_is_like_a_room.Goals as goal

pub returns : goal.returns
returns c = record {
  calls = λ room. (like_aRoom (calls room) (calls_lawful room), hands_back (calls room) (calls_lawful room), answers_waiting (calls room));
  lines = λ room. (like_aRoom (lines room) (lines_lawful room), hands_back (lines room) (lines_lawful room), answers_waiting (lines room));
}
