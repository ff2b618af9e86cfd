use Rattle.std.proofs.Common.{sym, ◌∙◌, rules}
use Rattle.std.proofs.lemmas.Iterator.Consumers.{YieldsList-from_first}
use Rattle.std.proofs.lemmas.Iterator.Search.{any_from_yields_List}
use Rattle.model.specs.Tree.{is_kid}
use Rattle.lent_bytes.specs.Paths.{path_of}
use Rattle.cells.specs.Layout.{cut, entry_of}
use Rattle.cells.specs.Walks.{bytes_of, cells_left}
use Rattle.cells.proofs.Walks.{some_list_any}
use Rattle.cells.proofs.held.Tree.has_kids.Goals as goal

pub returns : goal.returns
returns c =
    let mem = c.args.self.bytes.now in
    let ps = c.args.self.places.now in
    let f = is_kid (path_of c.args.path.names.now) in
    any_from_yields_List (λ x. f (entry_of x)) _ _ _ c.any.ensures.ran (YieldsList-from_first bytes_of cells_left (cut mem ps) c.cells.ensures) (λ x b q k. search rules) ∙ sym (some_list_any f entry_of (cut mem ps))
