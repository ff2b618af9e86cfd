use Rattle.std.proofs.Common.{rules}
use Rattle.cells.specs.Layout.{head_bytes}
use Rattle.lent_bytes.proofs.Writes.{and_then}
use Rattle.drafts.proofs.writing.append_head.Goals as goal

pub returns : goal.returns
unfolding head_bytes
returns c = record {
  end = search rules;
  added = and_then (and_then (and_then (and_then (and_then (and_then c.append_u32-a.ensures.added c.append_u32-b.ensures.added) c.append_u64-c.ensures.added) c.append_u64-d.ensures.added)
      c.append_u64-e.ensures.added) c.append_u64-f.ensures.added) c.append_u64.ensures.added;
}
