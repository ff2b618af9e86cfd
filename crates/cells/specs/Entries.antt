-- What the types of lent memory stand for: a cell is an entry, a tree is a state. Assumes nothing.
use Rattle.std.specs.Prelude.{List}
use Rattle.model.specs.Tree.{Entry, State}
use Rattle.cells.specs.declared.cell.Cell.{Cell}
use Rattle.cells.specs.declared.held.Tree.{Tree}
use Rattle.cells.specs.Layout.{entries_of, entry_of, state_of}

abbrev pub cell_entry : Cell → Entry
cell_entry c = entry_of c.bytes.now

abbrev pub tree_state : Tree → State
tree_state t = state_of t.bytes.now t.places.now

abbrev pub tree_entries : Tree → List Entry
tree_entries t = entries_of t.bytes.now t.places.now
