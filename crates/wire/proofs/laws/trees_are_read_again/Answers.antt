use Rattle.wire.proofs.TreesAgain.{tree_again}
use Rattle.wire.proofs.laws.trees_are_read_again.Goals as goal

pub returns : goal.returns
returns c = tree_again
