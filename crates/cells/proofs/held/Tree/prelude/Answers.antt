use Rattle.std.proofs.Common.{◌≡◌, ℕ, length, get_or, take, sym, subst}
use native.Mathlib.Nat.{sub-zero}
use Rattle.cells.specs.Layout.{begins_at}
use Rattle.cells.proofs.Preludes.{prelude_long}
use Rattle.cells.proofs.held.Tree.prelude.Goals as goal

pub invariant_of-result : goal.invariant_of-result
invariant_of-result c =
    let mem = c.args.self.bytes.now in
    let ps = c.args.self.places.now in
    record { long = subst (λ (k : ℕ). length (take k mem) ≡ begins_at (take k mem)) (sym (sub-zero (get_or ps 0 0))) (prelude_long mem ps c.args.self.holds) }
