use Rattle.std.proofs.Common.{◌+◌, ◌-◌, ◌∷◌, length, ap, refl, sym, ◌∙◌, arith, rules}
use Rattle.cells.specs.Layout.{numbers_at}
use Rattle.cells.specs.Walks.{sessions_left}
use Rattle.cells.proofs.Preludes.{numbers_step, numbers_none}
use Rattle.cells.proofs.prelude.SessionsIterator.next.Goals as goal

pub returns-then-self-eq0-clause-steps : goal.returns-then-self-eq0-clause-steps
unfolding sessions_left
returns-then-self-eq0-clause-steps c =
    let s = c.args.self.now in
    let none = numbers_none s.left s.bytes.now s.at c.if-self-eq0.true in
    (none, none)

pub returns-clause-steps : goal.returns-clause-steps
unfolding sessions_left
returns-clause-steps c =
    let s = c.args.self.now in
    numbers_step s.left (s.left - 1) s.bytes.now s.at (s.at + 8) (omega arith) refl ∙ ap (λ n. n ∷ numbers_at (s.left - 1) s.bytes.now (s.at + 8)) (sym c.read_u64.ensures)

pub returns-clause-goes : goal.returns-clause-goes
unfolding sessions_left
returns-clause-goes c =
    let s = c.args.self.now in
    let shorter = ap length (numbers_step s.left (s.left - 1) s.bytes.now s.at (s.at + 8) (omega arith) refl) in
    search rules
