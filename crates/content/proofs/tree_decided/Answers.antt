use Rattle.content.proofs.Decided.{tree_decided}
use Rattle.content.proofs.tree_decided.Goals as goal

pub returns : goal.returns
returns c = tree_decided
