use Rattle.model.proofs.Weighing.{room_kept}
use Rattle.model.proofs.room_is_kept.Goals as goal

pub returns : goal.returns
returns c = room_kept
