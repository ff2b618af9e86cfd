use Rattle.wire.proofs.Standing.{memory_writes}
use Rattle.wire.proofs.laws.memory_writes_alike.Goals as goal

pub returns : goal.returns
returns c = memory_writes
