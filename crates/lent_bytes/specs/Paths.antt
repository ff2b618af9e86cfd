-- Names and paths as bytes: each name is its length (one byte) and its bytes, a path is its names. Assumes nothing.
use Rattle.std.specs.Prelude.{◌≡◌, ℕ, zero, suc, ◌+◌, ◌<◌, List, [], ◌∷◌, ◌++◌, length, take, drop}
use Rattle.model.specs.Tree as Tree
use Rattle.model.specs.Tree.{Name, Path}

abbrev pub name_bytes : Name → List ℕ
name_bytes n = length n ∷ n

unfoldable pub path_bytes : Path → List ℕ
path_bytes [] = []
path_bytes (n ∷ ns) = name_bytes n ++ path_bytes ns

-- the names that bytes have, at most so many
unfoldable pub names_of : ℕ → List ℕ → Path
names_of zero bs = []
names_of (suc k) [] = []
names_of (suc k) (n ∷ bs) = take n bs ∷ names_of k (drop n bs)

unfoldable pub path_of : List ℕ → Path
path_of bs = names_of (length bs) bs

-- bytes that are those of a path, and nothing else
abbrev pub Spells : List ℕ → Type 0
Spells bs = path_bytes (path_of bs) ≡ bs

-- the last name of a path begins there
pub record LastAt (path : List ℕ) (at : ℕ) : Type 0 where
  pub within : at < length path
  pub above : path_of (take at path) ≡ Tree.above (path_of path)
  pub spells : Spells (take at path)
  pub last : drop (at + 1) path ≡ Tree.last_name (path_of path)
