use Rattle.std.proofs.Common.{refl}
use Rattle.cells.specs.Walks.{cells_left}
use Rattle.cells.proofs.held.Tree.cells.Goals as goal

pub returns : goal.returns
unfolding cells_left
returns c = refl
