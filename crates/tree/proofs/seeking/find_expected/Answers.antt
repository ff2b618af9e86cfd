use Rattle.std.proofs.Common.{◌≡◌, ℕ, ◌+◌, ◌<◌, length, Some, None, Err, Option, sym, ap, ◌∙◌, subst, arith}
use Rattle.std.specs.Option.{IfSome}
use Rattle.model.specs.Tree.{at, meets}
use Rattle.lent_bytes.specs.Paths.{path_of}
use Rattle.tree.specs.declared.refusal.Refusal.TheVariants.{NotThere}
use Rattle.calls.specs.Reading.{expect_of}
use Rattle.cells.specs.Layout.{entry_of, entries_of, state_of}
use Rattle.cells.specs.Searches.{Found}
use Rattle.cells.proofs.Counts.{head_version}
use Rattle.tree.proofs.Seeks.{sought_range, sought_missing, sought_version, sought_found}
use Rattle.tree.proofs.seeking.find_expected.Goals as goal

pub returns-then-not-is_ok : goal.returns-then-not-is_ok
returns-then-not-is_ok c = record {
  sought = sought_range _ _ (state_of c.args.tree.bytes.now c.args.tree.places.now) (sym c.if-not-is_ok.ensures);
  within = tt;
  names = tt;
}

pub returns-in_err-i-clause-sought : goal.returns-in_err-i-clause-sought
returns-in_err-i-clause-sought c =
    let s = state_of c.args.tree.bytes.now c.args.tree.places.now in
    let none : c.find.result ≡ None = grind arith in
    let is : c.from_residual.result ≡ Err NotThere = grind arith in
    rw is (sought_missing _ _ s (sym c.if-not-is_ok.ensures) (subst (Found (at (path_of c.args.path.names.now)) s.entries) none c.find.ensures.found))

pub returns-then-is_met : goal.returns-then-is_met
returns-then-is_met c =
    let cell = c.cell.result.bytes.now in
    let ok = (sym c.if-not-is_ok.ensures) in
    let some : c.find.result ≡ Some c.in_ok-i.i = grind arith in
    let first = subst (Found (at (path_of c.args.path.names.now)) (entries_of c.args.tree.bytes.now c.args.tree.places.now)) some c.find.ensures.found in
    record {
      sought = (
        sought_found _ _ (state_of c.args.tree.bytes.now c.args.tree.places.now) ok c.in_ok-i.i (entry_of cell) first (c.cell.ensures.entry (entry_of cell))
            (sym (c.if-is_met.ensures ∙ ap (meets (expect_of c.args.expected)) (head_version cell _ c.head-head.ensures))),
        first,
      );
      within = subst (λ o. IfSome o (λ i. i + 1 < length c.args.tree.places.now)) some c.find.ensures.within;
      names = ok;
    }

pub returns-else-is_met : goal.returns-else-is_met
returns-else-is_met c =
    let cell = c.cell.result.bytes.now in
    let ok = (sym c.if-not-is_ok.ensures) in
    let some : c.find.result ≡ Some c.in_ok-i.i = grind arith in
    let first = subst (Found (at (path_of c.args.path.names.now)) (entries_of c.args.tree.bytes.now c.args.tree.places.now)) some c.find.ensures.found in
    record {
      sought = sought_version _ _ (state_of c.args.tree.bytes.now c.args.tree.places.now) ok c.in_ok-i.i (entry_of cell) first (c.cell.ensures.entry (entry_of cell))
          (sym (c.if-is_met.ensures ∙ ap (meets (expect_of c.args.expected)) (head_version cell _ c.head-head.ensures)));
      within = tt;
      names = tt;
    }
