use Rattle.wire.proofs.Whole.{whole_in_bytes}
use Rattle.wire.proofs.laws.whole_in_bytes.Goals as goal

pub returns : goal.returns
returns c = whole_in_bytes
