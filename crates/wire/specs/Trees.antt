-- A tree as bytes: those that it has in memory, computed from the tree. Assumes nothing.
use Rattle.std.specs.Prelude.{◌≡◌, ℕ, ◌<◌, ◌≤◌, true, List, ◌++◌, length}
use Rattle.std.specs.List.{AllByRecursion}
use Rattle.model.specs.Tree.{Entry, State, path_ok}
use Rattle.lent_bytes.specs.Numbers.{be4, be8}
use Rattle.lent_bytes.specs.Paths.{path_bytes}
use Rattle.calls.specs.Format.{many_written}
use Rattle.cells.specs.declared.cell.Head.{Head}
use Rattle.cells.specs.Layout.{cell_bytes}
use Rattle.cells.specs.Fits.{Fits}

abbrev pub entry_head : Entry → Head
entry_head e = record {
  value_len = length e.value;
  path_len = length (path_bytes e.path);
  version = record { 0 = e.version };
  made = record { 0 = e.made };
  changed = record { 0 = e.changed };
  kids = record { 0 = e.kids };
  owner = record { 0 = e.owner };
}

abbrev pub entry_bytes : Entry → List ℕ
entry_bytes e = cell_bytes (entry_head e) (path_bytes e.path) e.value

-- what stands before the entries
unfoldable pub prelude_bytes : State → List ℕ
prelude_bytes s = be8 s.changes ++ (be8 s.top ++ (be8 s.last_session ++ (be4 (length s.sessions) ++ many_written be8 s.sessions)))

-- THE BYTES OF A TREE
unfoldable pub tree_bytes : State → List ℕ
tree_bytes s = prelude_bytes s ++ many_written entry_bytes s.entries

-- an entry whose path, value and numbers have bytes
pub record TidyEntry (e : Entry) : Type 0 where
  pub named : path_ok e.path ≡ true
  pub short : length e.value ≤ 65536
  pub made : e.made < 18446744073709551616
  pub changed : e.changed < 18446744073709551616
  pub owner : e.owner < 18446744073709551616

-- The entries of a state are such. Its other numbers have 64 bits where it fits a room.
pub record Tidy (s : State) : Type 0 where
  pub entries : AllByRecursion TidyEntry s.entries

-- A state that can be sent: it is what its bytes are read as.
pub record Sendable (room : ℕ) (s : State) : Type 0 where
  pub fits : Fits room s
  pub tidy : Tidy s
