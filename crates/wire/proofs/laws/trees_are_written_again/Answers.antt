use Rattle.wire.proofs.TreesBack.{tree_back}
use Rattle.wire.proofs.laws.trees_are_written_again.Goals as goal

pub returns : goal.returns
returns c = tree_back
