-- Bytes alone: where their cells begin, what they mean, and which are a tree. Assumes nothing.
use Rattle.std.specs.Prelude.{◌≡◌, ℕ, zero, suc, ◌+◌, ◌<◌, ◌≤◌, List, [], ◌∷◌, length, take, drop, Some, None, Option}
use Rattle.model.specs.Tree.{State}
use Rattle.lent_bytes.specs.Numbers.{be32}
use Rattle.cells.specs.Layout.{Holds, begins_at, state_of}
use Rattle.cells.specs.Fits.{Fits}

-- how long the cell is with which bytes begin
abbrev pub cell_long : List ℕ → ℕ
cell_long bs = 48 + be32 bs 4 + be32 bs 0

-- the places of cells, at most so many: from the first on, each behind the one before
unfoldable pub walked : ℕ → ℕ → List ℕ → List ℕ
walked zero at rest = at ∷ []
walked (suc k) at [] = at ∷ []
walked (suc k) at (b ∷ bs) = at ∷ walked k (at + cell_long (b ∷ bs)) (drop (cell_long (b ∷ bs)) (b ∷ bs))

unfoldable pub places_of : List ℕ → List ℕ
places_of bytes = walked (length bytes) (begins_at bytes) (drop (begins_at bytes) bytes)

-- ONE RUN OF BYTES HAS ONE MEANING
abbrev pub meaning : List ℕ → State
meaning bytes = state_of bytes (places_of bytes)

-- bytes are those of a tree that fits a room
pub record IsTree (room : ℕ) (bytes : List ℕ) : Type 0 where
  pub holds : Holds bytes (places_of bytes)
  pub fits : Fits room (meaning bytes)

-- what a walk over the cells answers: their places, or that there are none, or more than there is room for
abbrev pub CellsAt : List ℕ → List ℕ → Option ℕ → Type 0
CellsAt bytes ps None = (qs : List ℕ) → Holds bytes qs → length ps < length qs
CellsAt bytes ps (Some n) = (n + 1 ≤ length ps) × Holds bytes (take (n + 1) ps)

-- what a scan answers: the places of a tree, or that the bytes are none, or are too many, or the places too few
abbrev pub Scanned : ℕ → List ℕ → List ℕ → Option ℕ → Type 0
Scanned room bytes ps None = IsTree room bytes → length bytes < 4294967296 → length (places_of bytes) ≤ length ps → ⊥
Scanned room bytes ps (Some n) = (n + 1 ≤ length ps) × (take (n + 1) ps ≡ places_of bytes) × IsTree room bytes

abbrev pub HoldsUnique : Type 0
HoldsUnique = (bytes ps : List ℕ) → Holds bytes ps → ps ≡ places_of bytes
