use Rattle.std.proofs.lemmas.Slice.Eq.{slice_eq-Decides}
use Rattle.std.proofs.lemmas.Bool.Decides.{Decides-eqb}
use Rattle.cells.proofs.Cells.{at_cell}
use Rattle.cells.proofs.cell.Cell.is_at.Goals as goal

pub returns : goal.returns
returns c = at_cell _ _ _ _ c.path.ensures.value c.path.result.spells c.args.path.spells (slice_eq-Decides Decides-eqb _ _ _ c.eq.ensures)
