use Rattle.std.proofs.Common.{◌≡◌, ◌+◌, ◌-◌, [], ◌∷◌, ◌++◌, get_or, sym, ap, ◌∙◌, arith}
use Rattle.std.specs.List.{between}
use Rattle.std.proofs.lemmas.List.Edits.{between_none, between_more, length-between}
use Rattle.cells.specs.Layout.{entry_of, entries_of}
use Rattle.cells.proofs.Cells.{length_entries}
use Rattle.cells.proofs.Pushes.{climb}
use Rattle.drafts.proofs.Grows.{grown_none, grown_then, grown_as}
use Rattle.drafts.proofs.writing.push_cells.Goals as goal

pub loop-i-init : goal.loop-i-init
loop-i-init c = grown_as _ _ 0 _ (sym (between_none (entries_of c.args.tree.bytes.now c.args.tree.places.now) c.args.from)) (omega arith) (grown_none _ _ _ c.requires.drafts)

pub push_cell-next-requires : goal.push_cell-next-requires
push_cell-next-requires c =
    let es = entries_of c.args.tree.bytes.now c.args.tree.places.now in
    let many = length_entries c.args.tree.bytes.now c.args.tree.places.now in
    let count = length-between es c.args.from c.loop-i.i (omega arith) in
    let low = climb _ _ c.args.tree.holds c.args.from c.loop-i.i (omega arith) (omega arith) in
    let high = climb _ _ c.args.tree.holds (c.loop-i.i + 1) c.args.to (omega arith) (omega arith) in
    record { drafts = c.loop-i.invariant.drafts; room = omega arith; small = omega arith; more = omega arith }

pub loop-i-preserved : goal.loop-i-preserved
loop-i-preserved c =
    let es = entries_of c.args.tree.bytes.now c.args.tree.places.now in
    let e = entry_of c.cell.result.bytes.now in
    let many = length_entries c.args.tree.bytes.now c.args.tree.places.now in
    let low = climb _ _ c.args.tree.holds c.args.from c.loop-i.i (omega arith) (omega arith) in
    grown_as _ _ _ _
    (ap (λ x. between c.args.from c.loop-i.i es ++ x ∷ []) (sym (c.cell.ensures.entry e)) ∙ sym (between_more es c.args.from c.loop-i.i e (omega arith) (omega arith)))
    (omega arith)
    (grown_then c.loop-i.invariant c.push_cell-next.ensures)
