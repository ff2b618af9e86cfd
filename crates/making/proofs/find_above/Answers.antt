use Rattle.std.proofs.Common.{◌≡◌, ℕ, ◌+◌, ◌-◌, ◌<◌, false, not, [], length, take, Some, None, Err, Option, sym, refl, ap, ◌∙◌, subst, arith}
use native.Mathlib.Nat.{sub-zero}
use Rattle.std.proofs.lemmas.List.{length-take-le}
use Rattle.std.specs.Option.{IfSome}
use Rattle.tree.specs.declared.refusal.Refusal.TheVariants.{NotThere}
use Rattle.model.specs.Tree as Tree
use Rattle.model.specs.Tree.{Path, at, none, some}
use Rattle.lent_bytes.specs.Paths.{path_of}
use Rattle.cells.specs.Layout.{entries_of, state_of}
use Rattle.cells.specs.Searches.{First, Found}
use Rattle.cells.proofs.Firsts.{some_first}
use Rattle.making.proofs.Makes.{none_at_top, orphan_top, orphan_found, orphan_missing}
use Rattle.tree.proofs.Tops.{top_none, top_some}
use Rattle.making.proofs.find_above.Goals as goal

pub returns-then-n-eq0 : goal.returns-then-n-eq0
unfolding none
returns-then-n-eq0 c =
    let mem = c.args.tree.bytes.now in
    let ps = c.args.tree.places.now in
    let path = c.args.path.names.now in
    let n = c.last_name-n.result in
    let long = length-take-le n path (omega arith) in
    let top : Tree.above (path_of path) ≡ [] = sym c.last_name-n.ensures.above ∙ top_none (take n path) (omega arith) in
    record {
      above = (
        orphan_top (path_of path) (state_of mem ps) top,
        subst (λ (q : Path). some (at q) (entries_of mem ps) ≡ false) (sym top) (none_at_top mem ps c.args.tree.holds),
        ap (λ (q : Path). not (none q)) (sym top),
      );
      within = tt;
    }

pub returns : goal.returns
returns c =
    let mem = c.args.tree.bytes.now in
    let ps = c.args.tree.places.now in
    let path = c.args.path.names.now in
    let n = c.last_name-n.result in
    let is : path_of (take (n - 0) path) ≡ Tree.above (path_of path) = ap (λ (k : ℕ). path_of (take k path)) (sub-zero n) ∙ c.last_name-n.ensures.above in
    let found : c.find.result ≡ Some c.in_ok-i.i = grind arith in
    let first = subst (λ (q : Path). First (at q) (entries_of mem ps) c.in_ok-i.i) is (subst (Found (at (path_of (take (n - 0) path))) (entries_of mem ps)) found c.find.ensures.found) in
    let some_names = top_some (take n path) c.last_name-n.ensures.spells (omega (arith, length-take-le n path (omega arith))) in
    record {
      above = (
        orphan_found (path_of path) (state_of mem ps) (some_first (at (Tree.above (path_of path))) (entries_of mem ps) c.in_ok-i.i first),
        first,
        sym (ap not (ap none (sym c.last_name-n.ensures.above) ∙ some_names)),
      );
      within = subst (λ o. IfSome o (λ i. i + 1 < length ps)) found c.find.ensures.within;
    }

pub returns-in_err-i-clause-above : goal.returns-in_err-i-clause-above
returns-in_err-i-clause-above c =
    let mem = c.args.tree.bytes.now in
    let ps = c.args.tree.places.now in
    let path = c.args.path.names.now in
    let n = c.last_name-n.result in
    let is : path_of (take (n - 0) path) ≡ Tree.above (path_of path) = ap (λ (k : ℕ). path_of (take k path)) (sub-zero n) ∙ c.last_name-n.ensures.above in
    let some_names = top_some (take n path) c.last_name-n.ensures.spells (omega (arith, length-take-le n path (omega arith))) in
    let none_found : c.find.result ≡ None = grind arith in
    let refused : c.from_residual.result ≡ Err NotThere = grind arith in
    rw refused (
      orphan_missing (path_of path) (state_of mem ps) (ap none (sym c.last_name-n.ensures.above) ∙ some_names)
          (subst (λ (q : Path). some (at q) (entries_of mem ps) ≡ false) is (subst (Found (at (path_of (take (n - 0) path))) (entries_of mem ps)) none_found c.find.ensures.found)),
      refl,
    )
