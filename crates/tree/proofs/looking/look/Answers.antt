use Rattle.std.proofs.Common.{◌≡◌, Some, None, Err, Result, sym, ap, subst, arith}
use Rattle.model.specs.Tree.{at}
use Rattle.lent_bytes.specs.Paths.{path_of}
use Rattle.cells.specs.Layout.{entries_of, state_of}
use Rattle.cells.specs.Searches.{Found}
use Rattle.tree.specs.declared.looking.Seen.{Seen}
use Rattle.tree.specs.declared.refusal.Refusal.{Refusal}
use Rattle.tree.specs.declared.refusal.Refusal.TheVariants.{NotThere}
use Rattle.tree.specs.Looking.{entry_told}
use Rattle.tree.proofs.Looks.{look_range, look_missing, look_found}
use Rattle.tree.proofs.looking.look.Goals as goal

pub returns-then-not-is_ok : goal.returns-then-not-is_ok
returns-then-not-is_ok c = record {
  answer = λ room. look_range room _ (state_of c.args.tree.bytes.now c.args.tree.places.now) (sym c.if-not-is_ok.ensures);
  few = tt;
}

pub returns-in_err-i-clause-answer : goal.returns-in_err-i-clause-answer
returns-in_err-i-clause-answer c = λ room.
    let s = state_of c.args.tree.bytes.now c.args.tree.places.now in
    let none : c.find.result ≡ None = grind arith in
    let is : c.from_residual.result ≡ Err NotThere = grind arith in
    rw is (look_missing room _ s (sym c.if-not-is_ok.ensures) (subst (Found (at (path_of c.args.path.names.now)) s.entries) none c.find.ensures.found))

pub returns-clause-answer : goal.returns-clause-answer
returns-clause-answer c = λ room.
    let s = state_of c.args.tree.bytes.now c.args.tree.places.now in
    let some : c.find.result ≡ Some c.in_ok-i.i = grind arith in
    look_found room _ s (sym c.if-not-is_ok.ensures) c.in_ok-i.i c.cell-cell.result.bytes.now _ c.head.result
    (subst (Found (at (path_of c.args.path.names.now)) s.entries) some c.find.ensures.found) c.cell-cell.ensures.entry c.head.ensures c.value.ensures.value
