-- The two rooms for trees. Assumes nothing.
use Rattle.memory.specs.declared.lent.Side.{Side}
use Rattle.memory.specs.declared.lent.Side.TheVariants.{Left, Right}

abbrev pub other_side : Side → Side
other_side Left = Right
other_side Right = Left
