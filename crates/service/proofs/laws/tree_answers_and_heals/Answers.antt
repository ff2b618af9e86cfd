use Rattle.agreement.proofs.Progress.{answers_and_heals}
use Rattle.service.specs.Service.{lines, calls}
use Rattle.service.proofs.Steadiness.{lines_steady, calls_steady}
use Rattle.service.proofs.laws.tree_answers_and_heals.Goals as goal

pub returns : goal.returns
unfolding lines_steady calls_steady
returns c room = (answers_and_heals (calls room) (calls_steady room), answers_and_heals (lines room) (lines_steady room))
