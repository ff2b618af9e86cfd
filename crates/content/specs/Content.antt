-- A test, computed from bytes alone, for being a tree that fits a room; and the state that such bytes stand for. Assumes nothing.
use Rattle.std.specs.Prelude.{◌≡◌, ℕ, ◌+◌, ◌*◌, ◌≤◌, Bool, true, false, cond, ◌&&◌, List, length, take, Some, None, Decides, Option, ◌==◌, nat_le}
use Rattle.model.specs.Tree.{Entry, State, every, same_name, path_ok, weight_of}
use Rattle.lent_bytes.specs.Numbers.{be32}
use Rattle.lent_bytes.specs.Paths.{path_bytes, path_of}
use Rattle.cells.specs.Layout.{cut, last_of, path_part}
use Rattle.cells.specs.Fits.{rising}
use Rattle.scan.specs.Scans.{places_of, meaning, IsTree}

-- bytes are a cell
unfoldable pub is_cell : List ℕ → Bool
is_cell c = length c == 48 + be32 c 4 + be32 c 0 && (nat_le (be32 c 0) 65536 && (same_name (path_bytes (path_of (path_part c))) (path_part c) && path_ok (path_of (path_part c))))

-- their cells end where the bytes do
unfoldable pub is_held : List ℕ → Bool
is_held bytes = last_of (places_of bytes) == length bytes && every is_cell (cut bytes (places_of bytes))

abbrev pub counts_fit : ℕ → Entry → Bool
counts_fit limit e = nat_le e.version limit && nat_le e.kids limit

-- a state fits a room
unfoldable pub does_fit : ℕ → State → Bool
does_fit room s =
    nat_le (weight_of s.entries) room && (nat_le (length s.sessions) 4096 && (rising 0 s.sessions s.last_session && (nat_le s.last_session s.changes && (nat_le s.changes 72057594037927936 &&
    (nat_le s.top (64 * s.changes) && every (counts_fit (64 * s.changes)) s.entries)))))

-- BYTES ARE A TREE THAT FITS A ROOM
unfoldable pub is_tree : ℕ → List ℕ → Bool
is_tree room bytes = is_held bytes && does_fit room (meaning bytes)

-- the state that bytes stand for, if they are a tree
abbrev pub tree_at : ℕ → List ℕ → Option State
tree_at room bytes = cond (is_tree room bytes) (Some (meaning bytes)) None

abbrev pub TreeDecided : Type 0
TreeDecided = (room : ℕ) (bytes : List ℕ) → Decides (is_tree room bytes) (IsTree room bytes)

-- what accepting bytes answers: no tree, or the places of one
abbrev pub Accepted : ℕ → List ℕ → List ℕ → Option ℕ → Type 0
Accepted room bytes ps None = is_tree room bytes ≡ false
Accepted room bytes ps (Some n) = (is_tree room bytes ≡ true) × (n + 1 ≤ length ps) × (take (n + 1) ps ≡ places_of bytes) × IsTree room bytes
