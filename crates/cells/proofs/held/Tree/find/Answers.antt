use Rattle.std.proofs.Common.{◌≡◌, None, Some, sym, subst, ◌∙◌, arith, rules}
use Rattle.std.proofs.lemmas.Iterator.Consumers.{YieldsList-from_first}
use Rattle.std.proofs.lemmas.Iterator.Search.{position_from_yields_List}
use Rattle.model.specs.Tree.{at}
use Rattle.lent_bytes.specs.Paths.{path_of}
use Rattle.cells.specs.Layout.{cut, entry_of, entries_of}
use Rattle.cells.specs.Searches.{Found}
use Rattle.cells.specs.Walks.{bytes_of, cells_left}
use Rattle.cells.proofs.Cells.{length_cut}
use Rattle.cells.proofs.Walks.{found_first}
use Rattle.cells.proofs.held.Tree.find.Goals as goal

pub position-requires-clause-fits : goal.position-requires-clause-fits
position-requires-clause-fits c = search (rules, length_cut, c.cells.ensures)

-- where the search of the library stops
pub returns-in_err-place-clause-found : goal.returns-in_err-place-clause-found
returns-in_err-place-clause-found c =
    let mem = c.args.self.bytes.now in
    let ps = c.args.self.places.now in
    let f = at (path_of c.args.path.names.now) in
    let is = position_from_yields_List (λ x. f (entry_of x)) _ _ _ c.position.ensures.ran (YieldsList-from_first bytes_of cells_left (cut mem ps) c.cells.ensures) (λ x b q k. search rules) in
    let none : c.position.result ≡ None = grind arith in
    let out : c.from_residual.result ≡ None = grind arith in
    subst (Found f (entries_of mem ps)) (none ∙ sym out) (subst (Found f (entries_of mem ps)) (sym is) (found_first f entry_of (cut mem ps)))

pub returns-clause-found : goal.returns-clause-found
returns-clause-found c =
    let mem = c.args.self.bytes.now in
    let ps = c.args.self.places.now in
    let f = at (path_of c.args.path.names.now) in
    let is = position_from_yields_List (λ x. f (entry_of x)) _ _ _ c.position.ensures.ran (YieldsList-from_first bytes_of cells_left (cut mem ps) c.cells.ensures) (λ x b q k. search rules) in
    let some : c.position.result ≡ Some c.in_ok-place.place = grind arith in
    let found : Found f (entries_of mem ps) (Some c.in_ok-place.place) = subst (Found f (entries_of mem ps)) some (subst (Found f (entries_of mem ps)) (sym is) (found_first f entry_of (cut mem ps))) in
    record { within = omega (arith, found.within); before = found.before; here = found.here }

pub returns-clause-within : goal.returns-clause-within
returns-clause-within c =
    let some : c.position.result ≡ Some c.in_ok-place.place = grind arith in
    search (rules, length_cut, some, c.position.ensures.bound)
