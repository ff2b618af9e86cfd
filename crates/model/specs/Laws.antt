-- Laws of the tree's definitions. Each is a type; a proof of the type is the theorem.
-- Assumes nothing.
use Rattle.std.specs.Prelude.{◌≡◌, ℕ, ◌+◌, ◌≤◌, Bool, true, false, not, ◌&&◌, ◌||◌, T, ◌⊎◌, List, [], ◌∷◌, ◌++◌, ◌==◌, ◌≢◌, nat_eq, nat_le, nat_lt}
use mathlib.Core.List.{Memᴰ}
use Rattle.model.specs.Tree.{Path, Entry, State, blank, some, every, above, last_name, renamed, digits, count_at, same_path, at, none, Act, Make, Call, Do, Look, Kids, Open, End, No, Done, does, path_ok, weight_of, acts, Good, kid_names, true_name}

-- The tree stays a tree: each path once, each but those at the top under one that is there, nothing under what goes with a session.
unfoldable pub paths_once : List Entry → Bool
paths_once [] = true
paths_once (e ∷ es) = not (some (at e.path) es) && paths_once es

abbrev pub entry_ok : State → Entry → Bool
entry_ok s e =
    path_ok e.path && (none (above e.path) || some (λ (u : Entry). same_path (above e.path) u.path && u.owner == 0) s.entries) && (e.owner == 0 || some (nat_eq e.owner) s.sessions) &&
    nat_le e.made e.changed && nat_le e.changed s.changes

abbrev pub Sound : State → Type 0
Sound s = T (paths_once s.entries) × T (every (entry_ok s) s.entries) × T (every (λ (x : ℕ). nat_lt 0 x) s.sessions)

abbrev pub StaysSound : Type 0
StaysSound = (room : ℕ) (c : Call) (s : State) → Sound s → Sound (does room c s).state

-- All or none: what is refused leaves the tree as it was.
abbrev pub AllOrNone : Type 0
AllOrNone = (room : ℕ) (as' : List Act) (s : State) (n k : ℕ) → (does room (Do as') s).reply ≡ No n k → (does room (Do as') s).state ≡ s

-- Whatever is refused, of every kind of call, leaves the tree as it was.
abbrev pub RefusalsKeep : Type 0
RefusalsKeep = (room : ℕ) (c : Call) (s : State) (n k : ℕ) → (does room c s).reply ≡ No n k → (does room c s).state ≡ s

-- Looking, and asking for names, leaves the tree as it was.
abbrev pub reads : Call → Bool
reads (Do as') = false
reads (Look p) = true
reads (Kids p) = true
reads Open = false
reads (End k) = false

abbrev pub ReadsKeep : Type 0
ReadsKeep = (room : ℕ) (c : Call) (s : State) → reads c ≡ true → (does room c s).state ≡ s

-- Any other call that is not refused is one change.
abbrev pub OneChange : Type 0
OneChange = (room : ℕ) (c : Call) (s : State) → reads c ≡ false → ((n k : ℕ) → (does room c s).reply ≢ No n k) → (does room c s).state.changes ≡ s.changes + 1

-- The entries never weigh more than the room, so memory of a stated size suffices. (Sessions weigh too, and opening one is never refused for that.)
abbrev pub RoomKept : Type 0
RoomKept = (room : ℕ) (c : Call) (s : State) → weight_of s.entries ≤ room → weight_of (does room c s).state.entries ≤ room

-- Names come in the order in which they were made: a making adds its name behind those that were under the same entry.
abbrev pub KidsInOrder : Type 0
KidsInOrder =
    (p : Path) (v : List ℕ) (numbered : Bool) (o : ℕ) (s t : State) (ps : List Path) → acts (Make p v numbered o) s ≡ Good ps t → kid_names (above p) t ≡ kid_names (above p) s ++ (last_name (true_name p numbered s) ∷ [])

-- A numbered name bears how many were made there before, and each making counts: so none is given twice, and they rise.
pub data Run (room : ℕ) : State → State → Type 0 where
  still : {s : State} → Run room s s
  onward : {s t : State} (c : Call) → Run room s t → Run room s (does room c t).state

abbrev pub CountsRise : Type 0
CountsRise =
    (room : ℕ) (s t : State) → Run room blank s → Run room s t → (p : Path) (e f : Entry) → Memᴰ e s.entries → e.path ≡ p → Memᴰ f t.entries → f.path ≡ p → e.made ≡ f.made → e.kids ≤ f.kids

abbrev pub TopRises : Type 0
TopRises = (room : ℕ) (s t : State) → Run room s t → s.top ≤ t.top

abbrev pub Numbered : Type 0
Numbered =
    (room : ℕ) (s : State) (p q : Path) (v : List ℕ) (o : ℕ) → Run room blank s → (does room (Do (Make p v true o ∷ [])) s).reply ≡ Done (q ∷ []) →
    (q ≡ renamed p (last_name p ++ digits 10 (count_at (above p) s))) × (count_at (above p) (does room (Do (Make p v true o ∷ [])) s).state ≡ count_at (above p) s + 1)

-- None is given twice under one making of what is above (the top is never made again): two numbered makings of one path, with anything between them, get different names.
abbrev pub SameMaking : Path → State → State → Type 0
SameMaking p s t = (none p ≡ true) ⊎ ((e f : Entry) × Memᴰ e s.entries × Memᴰ f t.entries × (e.path ≡ p) × (f.path ≡ p) × (e.made ≡ f.made))

abbrev pub NumbersDiffer : Type 0
NumbersDiffer =
    (room : ℕ) (s t : State) (p q r : Path) (v w : List ℕ) (o u : ℕ) → Run room blank s → (does room (Do (Make p v true o ∷ [])) s).reply ≡ Done (q ∷ []) → Run room (does room (Do (Make p v true o ∷ [])) s).state t →
    (does room (Do (Make p w true u ∷ [])) t).reply ≡ Done (r ∷ []) → SameMaking (above p) (does room (Do (Make p v true o ∷ [])) s).state t → q ≢ r

-- A version tells all: as long as an entry's making and version are the same, so is its value.
abbrev pub VersionsTell : Type 0
VersionsTell =
    (room : ℕ) (s t : State) → Run room blank s → Run room s t → (e f : Entry) → Memᴰ e s.entries → Memᴰ f t.entries → e.path ≡ f.path → e.made ≡ f.made → e.version ≡ f.version → e.value ≡ f.value
