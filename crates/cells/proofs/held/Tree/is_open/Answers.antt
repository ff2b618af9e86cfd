use Rattle.std.proofs.Common.{ℕ, eqb, List, sym, ap, ◌∙◌, rules}
use Rattle.std.proofs.lemmas.Iterator.Consumers.{YieldsList-from_first}
use Rattle.std.proofs.lemmas.Iterator.Search.{any_from_yields_List}
use Rattle.model.specs.Tree.{some}
use Rattle.cells.specs.Layout.{sessions_in}
use Rattle.cells.specs.Walks.{number_of, sessions_left}
use Rattle.cells.proofs.Walks.{some_any}
use Rattle.cells.proofs.held.Tree.is_open.Goals as goal

pub returns : goal.returns
returns c =
    let numbers = sessions_in c.prelude.result.bytes.now in
    any_from_yields_List (eqb c.args.session.0) _ _ _ c.any.ensures.ran (YieldsList-from_first number_of sessions_left numbers c.sessions.ensures) (λ x b q k. search rules)
    ∙ sym (some_any (eqb c.args.session.0) numbers)
    ∙ ap (λ (bs : List ℕ). some (eqb c.args.session.0) (sessions_in bs)) c.prelude.ensures.value
