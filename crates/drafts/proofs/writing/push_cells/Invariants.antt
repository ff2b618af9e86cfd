use Rattle.std.proofs.Common.{◌-◌, get_or}
use Rattle.std.specs.List.{between}
use Rattle.cells.specs.Layout.{entries_of}
use Rattle.cells.specs.Drafts.{Grown}
use Rattle.drafts.proofs.writing.push_cells.Given as goal

abbrev pub invariant-loop-i : goal.invariant-loop-i
invariant-loop-i l =
    Grown l.initial.out l.initial.places l.initial.next (between l.from l.i (entries_of l.tree.bytes.now l.tree.places.now)) (get_or l.tree.places.now l.i 0 - get_or l.tree.places.now l.from 0) l.out l.places l.next
