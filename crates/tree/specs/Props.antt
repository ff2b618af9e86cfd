-- That what makes a state ready for an act has one proof at most, as a ghost field wants it. Assumes nothing.
use Rattle.std.specs.Prelude.{ℕ}
use Rattle.std.proofs.Props.{props}
use Rattle.model.specs.Tree.{State}
use Rattle.cells.specs.Fits.{CountsTo}
use Rattle.cells.specs.Props.{AllByRecursion-prop, CountsTo-prop}
use Rattle.tree.specs.Steps.{Ready}

pub Ready-prop : (room : ℕ) (s : State) → IsProp (Ready room s)
Ready-prop room s = Prim.hlevel (props, AllByRecursion-prop (CountsTo-prop 18446744073709551614) s.entries)
