use Rattle.std.proofs.Common.{length}
use Rattle.lent_bytes.specs.Paths.{path_of}
use Rattle.cells.specs.Layout.{entries_of}
use Rattle.tree.proofs.Looks.{Listing}
use Rattle.tree.proofs.looking.kids.Given as goal

abbrev pub invariant-loop-cell : goal.invariant-loop-cell
invariant-loop-cell l = Listing (path_of l.path.names.now) (entries_of l.tree.bytes.now l.tree.places.now) (length l.yielded) l.out l.listed
