-- What is left of a tree that is gone through entry by entry, and of its sessions. Assumes nothing.
use Rattle.std.specs.Prelude.{ℕ, List, drop}
use Rattle.cells.specs.declared.cell.Cell.{Cell}
use Rattle.cells.specs.declared.held.Cells.{Cells}
use Rattle.cells.specs.declared.prelude.Sessions.{Sessions}
use Rattle.lent_bytes.specs.declared.counts.Session.{Session}
use Rattle.cells.specs.Layout.{cut, numbers_at}

abbrev pub bytes_of : Cell → List ℕ
bytes_of c = c.bytes.now

-- the bytes of each entry that is still to come
unfoldable pub cells_left : Cells → List (List ℕ)
cells_left c = drop c.at (cut c.tree.bytes.now c.tree.places.now)

abbrev pub number_of : Session → ℕ
number_of s = s.0

-- the numbers of the sessions that are still to come
unfoldable pub sessions_left : Sessions → List ℕ
sessions_left s = numbers_at s.left s.bytes.now s.at
