use Rattle.std.proofs.Common.{arith}
use Rattle.scan.proofs.Scans.{walk_none, walk_more, walk_all, goes_on, there}
use Rattle.scan.proofs.scanning.scan_cells.Goals as goal

pub loop-at-init : goal.loop-at-init
loop-at-init c = walk_none _ _ _ c.requires.within c.requires.begins c.requires.some

pub returns-in_err-at : goal.returns-in_err-at
returns-in_err-at c = rw c.from_residual.ensures (λ qs h.
    let found = there _ _ _ _ c.loop-at.invariant c.loop-at-test.true qs h in
    absurd (c.in_err-at.ensures found.0 found.1 found.3))

pub returns-then-count-places : goal.returns-then-count-places
returns-then-count-places c = λ qs h. omega (arith, goes_on _ _ _ _ c.loop-at.invariant c.loop-at-test.true qs h)

pub loop-at-preserved : goal.loop-at-preserved
loop-at-preserved c = walk_more _ _ _ _ c.loop-at.invariant c.loop-at-test.true _ c.in_ok-at.ensures.1 c.in_ok-at.ensures.2 (omega arith)
