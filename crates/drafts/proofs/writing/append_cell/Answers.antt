use Rattle.std.proofs.Common.{rules}
use Rattle.cells.specs.Layout.{cell_bytes}
use Rattle.lent_bytes.proofs.Writes.{and_then}
use Rattle.drafts.proofs.writing.append_cell.Goals as goal

pub returns : goal.returns
unfolding cell_bytes
returns c = record {
  end = search rules;
  added = and_then (and_then c.append_head-a.ensures.added c.append_bytes-b.ensures.added) c.append_bytes.ensures.added;
}
