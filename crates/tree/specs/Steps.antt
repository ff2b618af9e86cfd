-- One act in parts: what refuses it, what it weighs, and the count of changes that the tree has afterwards. Assumes nothing.
use Rattle.std.specs.Prelude.{◌≡◌, ℕ, ◌<◌, ◌≤◌, Bool, cond, not, ◌&&◌, length, Ok, Err, Result, nat_lt}
use Rattle.model.specs.Tree.{Path, State, Expect, Step, Bad, Good, unless, meets, version_of, find, at, there, weight, weight_of, path_ok}
use Rattle.cells.specs.Fits.{Below}
use Rattle.cells.specs.Searches.{First}
use Rattle.tree.specs.declared.refusal.Refusal.{Refusal}
use Rattle.tree.specs.Answers.{reason}

-- more than there is room for, and more than before
abbrev pub overweight : (room before after : ℕ) → Bool
overweight room before after = nat_lt room after && nat_lt before after

-- a step, refused where it makes the tree too heavy
abbrev pub weighed : ℕ → State → Step → Step
weighed room s (Bad k) = Bad k
weighed room s (Good qs t) = cond (overweight room (weight s) (weight t)) (Bad 9) (Good qs t)

-- the same state with another count of changes
abbrev pub at_count : ℕ → State → State
at_count c s = record { changes = c; top = s.top; entries = s.entries; sessions = s.sessions; last_session = s.last_session }

abbrev pub counting : ℕ → Step → Step
counting c (Bad k) = Bad k
counting c (Good qs t) = Good qs (at_count c t)

-- what put, drop and check are refused by: out of range, not there, of another version
abbrev pub sought : Bool → Path → Expect → State → Step → Step
sought bad p x s o = unless 1 bad (unless 2 (not (there p s)) (unless 4 (not (meets x (version_of (find (at p) s.entries)))) o))

-- what looking for an entry of an expected version answers: a refusal, or its place
abbrev pub Sought : Path → Expect → State → Result ℕ Refusal → Type 0
Sought p x s (Err k) = (o : Step) → sought (not (path_ok p)) p x s o ≡ Bad (reason k)
Sought p x s (Ok i) = ((o : Step) → sought (not (path_ok p)) p x s o ≡ o) × First (at p) s.entries i

-- a state to which an act may be done: it fits the room, and each count can go up by one
pub record Ready (room : ℕ) (s : State) : Type 0 where
  pub weighs : weight_of s.entries ≤ room
  pub few : length s.sessions ≤ 4096
  pub changes : s.changes < 18446744073709551615
  pub counts : Below 18446744073709551614 s
