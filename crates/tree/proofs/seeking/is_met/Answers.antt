use Rattle.std.proofs.Common.{rules}
use Rattle.model.specs.Tree.{meets}
use Rattle.tree.proofs.seeking.is_met.Goals as goal

pub returns-in-Any : goal.returns-in-Any
unfolding meets
returns-in-Any c = search rules

pub returns-in-Exactly : goal.returns-in-Exactly
unfolding meets
returns-in-Exactly c = search rules
