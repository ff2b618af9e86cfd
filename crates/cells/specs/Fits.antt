-- What of a state makes the lent memory suffice, and its counts never wrap. Assumes nothing.
use Rattle.std.specs.Prelude.{◌≡◌, ℕ, ◌+◌, ◌*◌, ◌/◌, ◌<◌, ◌≤◌, Bool, true, ◌&&◌, List, [], ◌∷◌, length, nat_le, nat_lt}
use Rattle.std.specs.List.{AllByRecursion}
use Rattle.model.specs.Tree.{Entry, State, weight_of}

-- each number above the one before, from `low` on, and none above `last`
unfoldable pub rising : ℕ → List ℕ → ℕ → Bool
rising low [] last = nat_le low last
rising low (x ∷ xs) last = nat_lt low x && rising x xs last

-- an entry's counts are at most so high
pub record CountsTo (limit : ℕ) (e : Entry) : Type 0 where
  pub version : e.version ≤ limit
  pub kids : e.kids ≤ limit

-- the counts of a state are
pub record Below (limit : ℕ) (s : State) : Type 0 where
  pub top : s.top ≤ limit
  pub entries : AllByRecursion (CountsTo limit) s.entries

-- A state that fits a room. A call has at most 64 acts, and each raises a count by one at most: so counts are at most 64 times the changes, and none wraps before 2^56 changes.
pub record Fits (room : ℕ) (s : State) : Type 0 where
  pub weighs : weight_of s.entries ≤ room
  pub few : length s.sessions ≤ 4096
  pub rises : rising 0 s.sessions s.last_session ≡ true
  pub opened : s.last_session ≤ s.changes
  pub early : s.changes ≤ 72057594037927936
  pub counts : Below (64 * s.changes) s

-- there may be another change
abbrev pub Calm : State → Type 0
Calm s = s.changes < 72057594037927936

-- lent memory that is long enough for every state that fits a room
pub record Suits (room : ℕ) (out places : List ℕ) : Type 0 where
  pub bytes : room + 32796 ≤ length out
  pub small : length out < 4294967296
  pub words : room / 1280 + 1 ≤ length places
