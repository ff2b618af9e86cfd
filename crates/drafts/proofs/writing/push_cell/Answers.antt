use Rattle.std.proofs.Common.{refl, arith}
use Rattle.drafts.proofs.Grows.{grown}
use Rattle.drafts.proofs.writing.push_cell.Goals as goal

pub returns : goal.returns
returns c = grown _ _ _ _ _ _ c.requires.drafts c.args.cell.formed c.append_bytes-used.ensures.added refl c.requires.more (omega arith)
