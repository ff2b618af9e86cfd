use Rattle.std.proofs.Common.{ℕ, ◌-◌, length, take, sym, refl, ap, ◌∙◌, arith}
use native.Mathlib.Nat.{sub-zero}
use Rattle.std.proofs.lemmas.List.{take_all}
use Rattle.cells.specs.Layout.{entries_of}
use Rattle.cells.proofs.Cells.{length_entries}
use Rattle.cells.proofs.Pushes.{ends_at, length_span}
use Rattle.drafts.proofs.Grows.{next, next_as}
use Rattle.changing.proofs.acts.copy_all.Goals as goal

pub push_cells-requires : goal.push_cells-requires
push_cells-requires c =
    let ps = c.args.tree.places.now in
    let end = ends_at c.args.tree.bytes.now ps c.len.result c.args.tree.holds c.len.ensures in
    let some = c.args.tree.holds.some in
    let begun = c.start-begun.ensures.begun in
    record { order = omega arith; within = omega arith; drafts = begun.drafts; room = omega (arith, c.args.tree.holds.within 0 some); small = omega arith; more = omega arith }

pub returns : goal.returns
returns c =
    let mem = c.args.tree.bytes.now in
    let ps = c.args.tree.places.now in
    let es = entries_of mem ps in
    let n = c.len.result in
    let many = length_entries mem ps in
    let some = c.args.tree.holds.some in
    let end = ends_at c.args.tree.bytes.now ps c.len.result c.args.tree.holds c.len.ensures in
    let begun = c.start-begun.ensures.begun in
    let grown = c.push_cells.ensures in
    let span = length_span mem ps 0 n (omega arith) in
    record {
      next = next_as _ _ (ap (λ (k : ℕ). take k es) (sub-zero n) ∙ take_all n es (omega arith)) (next refl begun grown);
      used = omega (arith, c.args.tree.holds.within 0 some);
      count = omega arith;
    }
