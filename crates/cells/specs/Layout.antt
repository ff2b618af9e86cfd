-- How a tree lies in memory: what stands before the entries, then their cells one behind the other, and the places where they begin. Assumes nothing.
use Rattle.std.specs.Prelude.{◌≡◌, ℕ, zero, suc, ◌+◌, ◌*◌, ◌<◌, ◌≤◌, true, List, [], ◌∷◌, ◌++◌, map, length, take, drop, slice_index, slice_index_or}
use Rattle.std.specs.List.{between, AllByRecursion}
use Rattle.model.specs.Tree.{Entry, State, path_ok}
use Rattle.lent_bytes.specs.Numbers.{be32, be64, be4, be8}
use Rattle.lent_bytes.specs.Paths.{path_of, Spells}
use Rattle.cells.specs.declared.cell.Head.{Head}

-- A cell: value's length (4), path's length (4), version, made, changed, kids, owner (8 each), path, value.
abbrev pub head_of : List ℕ → Head
head_of c = record {
  value_len = be32 c 0;
  path_len = be32 c 4;
  version = record { 0 = be64 c 8 };
  made = record { 0 = be64 c 16 };
  changed = record { 0 = be64 c 24 };
  kids = record { 0 = be64 c 32 };
  owner = record { 0 = be64 c 40 };
}

unfoldable pub head_bytes : Head → List ℕ
head_bytes h = be4 h.value_len ++ be4 h.path_len ++ be8 h.version.0 ++ be8 h.made.0 ++ be8 h.changed.0 ++ be8 h.kids.0 ++ be8 h.owner.0

abbrev pub path_part : List ℕ → List ℕ
path_part c = between 48 (48 + be32 c 4) c

-- the entry that a cell is
unfoldable pub entry_of : List ℕ → Entry
entry_of c = record { path = path_of (path_part c); value = drop (48 + be32 c 4) c; version = be64 c 8; made = be64 c 16; changed = be64 c 24; kids = be64 c 32; owner = be64 c 40 }

-- bytes are a cell
pub record Formed (c : List ℕ) : Type 0 where
  pub long : length c ≡ 48 + be32 c 4 + be32 c 0
  pub short : be32 c 0 ≤ 65536
  pub spells : Spells (path_part c)
  pub names : path_ok (path_of (path_part c)) ≡ true

unfoldable pub cell_bytes : Head → List ℕ → List ℕ → List ℕ
cell_bytes h p v = head_bytes h ++ p ++ v

-- the entry that a head, a path and a value make
abbrev pub entry_from : Head → List ℕ → List ℕ → Entry
entry_from h p v = record { path = path_of p; value = v; version = h.version.0; made = h.made.0; changed = h.changed.0; kids = h.kids.0; owner = h.owner.0 }

-- the cells that places cut out of memory: each from one place to the next
unfoldable pub cut : List ℕ → List ℕ → List (List ℕ)
cut mem [] = []
cut mem (o ∷ []) = []
cut mem (o ∷ e ∷ ps) = between o e mem ∷ cut mem (e ∷ ps)

abbrev pub entries_of : List ℕ → List ℕ → List Entry
entries_of mem ps = map entry_of (cut mem ps)

unfoldable pub last_of : List ℕ → ℕ
last_of [] = 0
last_of (o ∷ []) = o
last_of (o ∷ e ∷ ps) = last_of (e ∷ ps)

-- where the entries begin: behind changes, top, last session (8 each), how many sessions (4), sessions (8 each)
abbrev pub begins_at : List ℕ → ℕ
begins_at mem = 28 + 8 * be32 mem 24

-- places that cut memory into cells of entries, from where they begin to its end
pub record Holds (mem ps : List ℕ) : Type 0 where
  pub some : 0 < length ps
  pub begins : slice_index_or ps 0 0 ≡ begins_at mem
  pub ends : last_of ps ≡ length mem
  pub rises : (i : ℕ) → i + 1 < length ps → slice_index ps i ≤ slice_index ps (i + 1)
  pub within : (i : ℕ) → i < length ps → slice_index ps i ≤ length mem
  pub good : AllByRecursion Formed (cut mem ps)

-- so many numbers of eight bytes, from a place on
unfoldable pub numbers_at : ℕ → List ℕ → ℕ → List ℕ
numbers_at zero bs i = []
numbers_at (suc k) bs i = be64 bs i ∷ numbers_at k bs (i + 8)

abbrev pub sessions_in : List ℕ → List ℕ
sessions_in pre = numbers_at (be32 pre 24) pre 28

abbrev pub state_from : List ℕ → List Entry → State
state_from pre es = record { changes = be64 pre 0; top = be64 pre 8; entries = es; sessions = sessions_in pre; last_session = be64 pre 16 }

abbrev pub prelude_of : List ℕ → List ℕ → List ℕ
prelude_of mem ps = take (slice_index ps 0) mem

-- WHAT MEMORY MEANS: the state that bytes and places stand for
abbrev pub state_of : List ℕ → List ℕ → State
state_of mem ps = state_from (prelude_of mem ps) (entries_of mem ps)

-- what stands before the entries with another count of changes and of those at the top
abbrev pub prelude_with : ℕ → ℕ → List ℕ → List ℕ
prelude_with changes top pre = be8 changes ++ (be8 top ++ drop 16 pre)

-- a head's numbers are of its widths
pub record FitHead (h : Head) : Type 0 where
  pub value : h.value_len < 4294967296
  pub path : h.path_len < 4294967296
  pub version : h.version.0 < 18446744073709551616
  pub made : h.made.0 < 18446744073709551616
  pub changed : h.changed.0 < 18446744073709551616
  pub kids : h.kids.0 < 18446744073709551616
  pub owner : h.owner.0 < 18446744073709551616
