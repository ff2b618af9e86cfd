-- What is refused changes nothing, whichever calls are built. Assumes nothing.
use mathlib.Core.Path.{◌≡◌, refl}
use mathlib.Core.Bool.{Bool, true, false, cond}
use Prim.Native.Nat.{ℕ}
use Rattle.model.specs.Tree.{Call, State, No, does}
use Rattle.model.proofs.Refusals.{refusals_keep}
use Rattle.promise.specs.Promise.{RefusedChangesNothing}

-- built or not
keeps : (room : ℕ) (c : Call) (s : State) (n k : ℕ) (b : Bool) → cond b (does room c s).reply (No 0 12) ≡ No n k → cond b (does room c s).state s ≡ s
keeps room c s n k true e = refusals_keep room c s n k e
keeps room c s n k false e = refl

pub refused_changes_nothing : RefusedChangesNothing
refused_changes_nothing room can c s n k e = keeps room c s n k (can c) e
