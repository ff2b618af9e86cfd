use Rattle.wire.proofs.Whole.{said_is_read}
use Rattle.wire.proofs.laws.said_is_read.Goals as goal

pub returns : goal.returns
returns c = said_is_read
