use Rattle.std.proofs.Common.{length, ap, arith, rules}
use Rattle.cells.specs.Walks.{cells_left}
use Rattle.cells.proofs.Walks.{left_none, left_more}
use Rattle.cells.proofs.held.CellsIterator.next.Goals as goal

pub returns-then-self-len-clause-steps : goal.returns-then-self-len-clause-steps
unfolding cells_left
returns-then-self-len-clause-steps c =
    let t = c.args.self.now.tree in
    let none = left_none t.bytes.now t.places.now c.args.self.now.at (omega (arith, c.len.ensures, c.if-self-len.true)) in
    (none, none)

pub returns-clause-steps : goal.returns-clause-steps
unfolding cells_left
returns-clause-steps c =
    let t = c.args.self.now.tree in
    left_more t.bytes.now t.places.now c.args.self.now.at c.cell-cell.result.bytes.now (omega (arith, c.len.ensures, c.if-self-len.false, c.args.self.now.inside)) c.cell-cell.ensures.cell

pub returns-clause-goes : goal.returns-clause-goes
unfolding cells_left
returns-clause-goes c =
    let t = c.args.self.now.tree in
    let shorter = ap length (left_more t.bytes.now t.places.now c.args.self.now.at c.cell-cell.result.bytes.now (omega (arith, c.len.ensures, c.if-self-len.false, c.args.self.now.inside)) c.cell-cell.ensures.cell) in
    search rules
