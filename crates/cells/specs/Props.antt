-- That the facts which types keep have one proof at most, as a ghost field wants it. Assumes nothing.
use Rattle.std.specs.Prelude.{ℕ, ◌*◌, List, [], ◌∷◌}
use Rattle.std.specs.Coded.{×_prop, Unit-prop}
use Rattle.std.specs.List.{AllByRecursion}
use Rattle.std.proofs.Props.{props}
use Rattle.model.specs.Tree.{Entry, State}
use Rattle.cells.specs.Layout.{Formed, Holds, cut}
use Rattle.cells.specs.Fits.{CountsTo, Fits}

pub AllByRecursion-prop : {A : Type 0} {P : A → Type 0} → ((x : A) → IsProp (P x)) → (xs : List A) → IsProp (AllByRecursion P xs)
AllByRecursion-prop one [] = Unit-prop
AllByRecursion-prop one (x ∷ xs) = ×_prop (one x) (AllByRecursion-prop one xs)

pub Formed-prop : (c : List ℕ) → IsProp (Formed c)
Formed-prop c = Prim.hlevel props

pub Holds-prop : (mem ps : List ℕ) → IsProp (Holds mem ps)
Holds-prop mem ps = Prim.hlevel (props, AllByRecursion-prop Formed-prop (cut mem ps))

pub CountsTo-prop : (limit : ℕ) (e : Entry) → IsProp (CountsTo limit e)
CountsTo-prop limit e = Prim.hlevel props

pub Fits-prop : (room : ℕ) (s : State) → IsProp (Fits room s)
Fits-prop room s = Prim.hlevel (props, AllByRecursion-prop (CountsTo-prop (64 * s.changes)) s.entries)
