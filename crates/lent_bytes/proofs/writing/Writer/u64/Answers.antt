use Rattle.lent_bytes.specs.Numbers.{be8}
use Rattle.lent_bytes.proofs.Writes.{wrote_same}
use Rattle.lent_bytes.proofs.writing.Writer.u64.Goals as goal

pub returns-clause-wrote : goal.returns-clause-wrote
unfolding be8
returns-clause-wrote c = wrote_same _ _ c.to_be_bytes.ensures c.bytes.ensures.wrote
