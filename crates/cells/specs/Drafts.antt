-- A tree that is being written, always at its end. Assumes nothing.
use Rattle.std.specs.Prelude.{◌≡◌, ℕ, ◌+◌, ◌≤◌, List, [], ◌∷◌, ◌++◌, length, take, drop}
use Rattle.model.specs.Tree.{Entry, State}
use Rattle.cells.specs.declared.draft.Size.{Size}
use Rattle.cells.specs.Layout.{Holds, entries_of, prelude_of, state_of}

-- the bytes and places that were written so far
abbrev pub bytes_in : List ℕ → Size → List ℕ
bytes_in out s = take s.used out

abbrev pub places_in : List ℕ → Size → List ℕ
places_in ps s = take (s.count + 1) ps

abbrev pub drafted : List ℕ → List ℕ → Size → List Entry
drafted out ps s = entries_of (bytes_in out s) (places_in ps s)

-- the state that was written
abbrev pub drafting : List ℕ → List ℕ → Size → State
drafting out ps s = state_of (bytes_in out s) (places_in ps s)

pub record Drafts (out ps : List ℕ) (s : Size) : Type 0 where
  pub holds : Holds (bytes_in out s) (places_in ps s)
  pub inside : s.used ≤ length out
  pub counted : s.count + 1 ≤ length ps

-- entries of so many bytes were added
pub record Grown (out ps : List ℕ) (s : Size) (es : List Entry) (bytes : ℕ) (out' ps' : List ℕ) (s' : Size) : Type 0 where
  pub drafts : Drafts out' ps' s'
  pub used : s'.used ≡ s.used + bytes
  pub count : s'.count ≡ s.count + length es
  pub prelude : prelude_of (bytes_in out' s') (places_in ps' s') ≡ prelude_of (bytes_in out s) (places_in ps s)
  pub entries : drafted out' ps' s' ≡ drafted out ps s ++ es

-- a tree with no entries yet
pub record Begun (pre out ps : List ℕ) (s : Size) : Type 0 where
  pub drafts : Drafts out ps s
  pub used : s.used ≡ length pre
  pub count : s.count ≡ 0
  pub prelude : prelude_of (bytes_in out s) (places_in ps s) ≡ pre
  pub entries : drafted out ps s ≡ []

abbrev pub replaced : ℕ → Entry → List Entry → List Entry
replaced i e es = take i es ++ e ∷ drop (i + 1) es

-- the next tree, with these entries
pub record Next (pre : List ℕ) (es : List Entry) (out ps : List ℕ) (s : Size) : Type 0 where
  pub drafts : Drafts out ps s
  pub prelude : prelude_of (bytes_in out s) (places_in ps s) ≡ pre
  pub entries : drafted out ps s ≡ es
