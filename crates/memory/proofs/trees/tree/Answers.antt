use Rattle.memory.specs.Keeps.{standing, left_side, right_side}
use Rattle.memory.proofs.Sides.{right_stands, left_stands, held_side}
use Rattle.memory.proofs.trees.tree.Goals as goal

pub returns-in-Left : goal.returns-in-Left
returns-in-Left c =
    let k = c.args.kept in
    let m = c.args.memory.now in
    held_side k.room (standing k m) (left_side k m) _ _ (left_stands k m c.in-Left.is) c.requires c.tree_in.ensures.bytes c.tree_in.ensures.places

pub returns-in-Right : goal.returns-in-Right
returns-in-Right c =
    let k = c.args.kept in
    let m = c.args.memory.now in
    held_side k.room (standing k m) (right_side k m) _ _ (right_stands k m c.in-Right.is) c.requires c.tree_in-in-Right.ensures.bytes c.tree_in-in-Right.ensures.places
