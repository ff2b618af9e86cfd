use Rattle.std.proofs.Common.{◌≡◌, Some, None, Err, sym, subst, arith}
use Rattle.model.specs.Tree.{at}
use Rattle.lent_bytes.specs.Paths.{path_of}
use Rattle.cells.specs.Layout.{state_of}
use Rattle.cells.specs.Searches.{Found}
use Rattle.cells.proofs.Firsts.{some_first}
use Rattle.tree.specs.declared.refusal.Refusal.TheVariants.{NotThere}
use Rattle.tree.proofs.Tops.{top_none, top_some}
use Rattle.tree.proofs.Looks.{list_top, list_range, list_missing, list_found}
use Rattle.tree.proofs.looking.check_listed.Goals as goal

pub returns-then-is_empty : goal.returns-then-is_empty
returns-then-is_empty c = λ r. list_top _ (state_of c.args.tree.bytes.now c.args.tree.places.now) r (top_none c.args.path.names.now (grind arith))

pub returns-then-not-is_ok : goal.returns-then-not-is_ok
returns-then-not-is_ok c = λ r.
    list_range _ (state_of c.args.tree.bytes.now c.args.tree.places.now) r (top_some c.args.path.names.now c.args.path.spells (grind arith)) (sym c.if-not-is_ok.ensures)

pub returns-in_err-ok_or : goal.returns-in_err-ok_or
returns-in_err-ok_or c =
    let s = state_of c.args.tree.bytes.now c.args.tree.places.now in
    let p = path_of c.args.path.names.now in
    let none : c.find.result ≡ None = grind arith in
    let is : c.from_residual.result ≡ Err NotThere = grind arith in
    rw is (λ r. list_missing p s r (top_some c.args.path.names.now c.args.path.spells (grind arith)) (sym c.if-not-is_ok.ensures) (subst (Found (at p) s.entries) none c.find.ensures.found))

pub returns : goal.returns
returns c = λ r.
    let s = state_of c.args.tree.bytes.now c.args.tree.places.now in
    let p = path_of c.args.path.names.now in
    let some : c.find.result ≡ Some c.in_ok-ok_or.field-0 = grind arith in
    list_found p s r (top_some c.args.path.names.now c.args.path.spells (grind arith)) (sym c.if-not-is_ok.ensures) (some_first (at p) s.entries _ (subst (Found (at p) s.entries) some c.find.ensures.found))
