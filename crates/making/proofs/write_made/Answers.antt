use Rattle.std.proofs.Common.{ℕ, ◌+◌, ◌<◌, [], is_some, sym, refl, ap, ◌∙◌, subst, arith, rules}
use Rattle.std.proofs.lemmas.Bool.{not-true, not-false}
use Rattle.model.specs.Tree as Tree
use Rattle.model.specs.Tree.{at}
use Rattle.lent_bytes.specs.Paths.{path_of}
use Rattle.cells.specs.Layout.{entry_of, entry_from, prelude_of, state_of}
use Rattle.cells.specs.Searches.{Found}
use Rattle.making.proofs.Makes.{made_top, made_under}
use Rattle.drafts.proofs.Written.{written, next_push}
use Rattle.making.proofs.write_made.Goals as goal

pub returns-in-None : goal.returns-in-None
returns-in-None c =
    let s = state_of c.args.tree.bytes.now c.args.tree.places.now in
    let p = path_of c.args.path.names.now in
    let e = entry_from c.args.head c.args.path.names.now c.args.value.now in
    let k = c.args.changes.0 in
    let fits : k < 18446744073709551616 = search rules in
    let top = not-false _ (sym c.requires.top ∙ ap is_some c.in-None.is) in
    let found = subst (Found (at (Tree.above p)) s.entries) c.in-None.is c.requires.above in
    record {
      state = written k _ (s.top + 1) (prelude_of c.args.tree.bytes.now c.args.tree.places.now) (next_push c.copy_all-size.ensures.next c.push_entry.ensures) fits (omega (arith, c.requires.tops, c.top.ensures))
          (ap (λ (n : ℕ). n + 1) c.top.ensures) ∙ made_top p s k e top found;
      drafts = c.push_entry.ensures.drafts;
    }

pub returns-in-Some : goal.returns-in-Some
returns-in-Some c =
    let s = state_of c.args.tree.bytes.now c.args.tree.places.now in
    let p = path_of c.args.path.names.now in
    let e = entry_from c.args.head c.args.path.names.now c.args.value.now in
    let k = c.args.changes.0 in
    let fits : k < 18446744073709551616 = search rules in
    let under = not-true _ (sym c.requires.top ∙ ap is_some c.in-Some.is) in
    let first = subst (Found (at (Tree.above p)) s.entries) c.in-Some.is c.requires.above in
    record {
      state = written k s.top s.top (prelude_of c.args.tree.bytes.now c.args.tree.places.now) (next_push c.count_kid-size.ensures.next c.push_entry-in-Some.ensures) fits (omega (arith, c.requires.tops)) refl ∙
          made_under p s k e c.in-Some.i (entry_of []) under first;
      drafts = c.push_entry-in-Some.ensures.drafts;
    }
