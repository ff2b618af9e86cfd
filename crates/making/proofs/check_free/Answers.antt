use Rattle.std.proofs.Common.{sym, ◌∙◌, subst}
use Rattle.std.proofs.lemmas.Bool.{eq-eqb, ne_eqb, not-true, not-false, not_from_true, not_from_false}
use Rattle.model.specs.Tree as Tree
use Rattle.model.specs.Tree.{at}
use Rattle.lent_bytes.specs.Paths.{path_of}
use Rattle.cells.specs.Layout.{entry_of, state_of}
use Rattle.cells.specs.Searches.{Found}
use Rattle.cells.proofs.Counts.{head_owner}
use Rattle.cells.proofs.Firsts.{found_some}
use Rattle.making.proofs.Makes.{already, no_session, under_session, free, owner_none, owner_found}
use Rattle.making.proofs.check_free.Goals as goal

pub returns-then-is_some : goal.returns-then-is_some
returns-then-is_some c = λ x.
    let s = state_of c.args.tree.bytes.now c.args.tree.places.now in
    already _ s c.args.session.0 x (sym (c.if-is_some.ensures ∙ found_some _ s.entries _ c.find.ensures.found))

pub returns-then-not-may_own : goal.returns-then-not-may_own
returns-then-not-may_own c = λ x.
    let s = state_of c.args.tree.bytes.now c.args.tree.places.now in
    no_session _ s c.args.session.0 x (sym (c.if-is_some.ensures ∙ found_some _ s.entries _ c.find.ensures.found)) (not-false _ (sym c.if-not-may_own.ensures))

pub returns-in-None : goal.returns-in-None
returns-in-None c = λ x.
    let s = state_of c.args.tree.bytes.now c.args.tree.places.now in
    let p = path_of c.args.path.names.now in
    let top = subst (Found (at (Tree.above p)) s.entries) c.in-None.is c.requires.above in
    free p s c.args.session.0 x (sym (c.if-is_some.ensures ∙ found_some _ s.entries _ c.find.ensures.found)) (not-true _ (sym c.if-not-may_own.ensures)) (not_from_true _ (eq-eqb _ 0 (owner_none p s top)))

pub returns-then-head-eq0 : goal.returns-then-head-eq0
returns-then-head-eq0 c = λ x.
    let s = state_of c.args.tree.bytes.now c.args.tree.places.now in
    let p = path_of c.args.path.names.now in
    let cell = c.cell.result.bytes.now in
    let first = subst (Found (at (Tree.above p)) s.entries) c.in-Some.is c.requires.above in
    let owner = owner_found p s c.in-Some.i (entry_of cell) first (c.cell.ensures.entry (entry_of cell)) ∙ sym (head_owner cell _ c.head.ensures) in
    free p s c.args.session.0 x (sym (c.if-is_some.ensures ∙ found_some _ s.entries _ c.find.ensures.found)) (not-true _ (sym c.if-not-may_own.ensures)) (not_from_true _ (eq-eqb _ 0 (owner ∙ c.if-head-eq0.true)))

pub returns-else-head-eq0 : goal.returns-else-head-eq0
returns-else-head-eq0 c = λ x.
    let s = state_of c.args.tree.bytes.now c.args.tree.places.now in
    let p = path_of c.args.path.names.now in
    let cell = c.cell.result.bytes.now in
    let first = subst (Found (at (Tree.above p)) s.entries) c.in-Some.is c.requires.above in
    let owner = owner_found p s c.in-Some.i (entry_of cell) first (c.cell.ensures.entry (entry_of cell)) ∙ sym (head_owner cell _ c.head.ensures) in
    under_session p s c.args.session.0 x (sym (c.if-is_some.ensures ∙ found_some _ s.entries _ c.find.ensures.found)) (not-true _ (sym c.if-not-may_own.ensures)) (not_from_false _ (ne_eqb _ 0 (λ e. c.if-head-eq0.false (sym owner ∙ e))))
