use Rattle.model.proofs.Histories.{stays_sound}
use Rattle.model.proofs.stays_a_tree.Goals as goal

pub returns : goal.returns
returns c = stays_sound
