use Rattle.std.proofs.Common.{◌+◌, ◌-◌, ◌≤◌, not, eqb, length, get_or, take}
use Rattle.model.specs.Tree.{Entry, keep}
use Rattle.cells.specs.Layout.{entries_of}
use Rattle.cells.specs.Drafts.{Grown}
use Rattle.sessions.proofs.ending.push_unowned.Given as goal

abbrev pub invariant-loop-cell : goal.invariant-loop-cell
invariant-loop-cell l =
    let n = length l.yielded in
    Grown l.initial.out l.initial.places l.initial.next (keep (λ (e : Entry). not (eqb l.session.0 e.owner)) (take n (entries_of l.tree.bytes.now l.tree.places.now))) (l.next.used - l.initial.next.used) l.out l.places l.next
    × (l.next.used + get_or l.tree.places.now 0 0 ≤ l.initial.next.used + get_or l.tree.places.now n 0) × (l.next.count ≤ l.initial.next.count + n)
