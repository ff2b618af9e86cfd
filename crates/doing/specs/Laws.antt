-- What every call keeps. Assumes nothing.
use Rattle.std.specs.Prelude.{◌≡◌, ℕ}
use Rattle.model.specs.Tree.{State, Call, No, does}
use Rattle.cells.specs.Fits.{Fits, Calm}

-- A STATE THAT FITS A ROOM STILL DOES AFTER EVERY CALL: its entries weigh at most the room, so the lent memory suffices, and no count wraps
abbrev pub FitsStays : Type 0
FitsStays = (room : ℕ) (c : Call) (s : State) → Calm s → Fits room s → Fits room (does room c s).state

-- WHAT IS REFUSED CHANGES NOTHING, whatever the call
abbrev pub RefusedKeeps : Type 0
RefusedKeeps = (room : ℕ) (c : Call) (s : State) (n k : ℕ) → (does room c s).reply ≡ No n k → (does room c s).state ≡ s
