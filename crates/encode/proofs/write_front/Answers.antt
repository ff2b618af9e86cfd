use Rattle.std.proofs.Common.{ℕ, [], ap}
use Rattle.lent_bytes.specs.Numbers.{be8}
use Rattle.lent_bytes.proofs.Writes.{wrote_same}
use Rattle.wire.specs.Messages.{front}
use Rattle.encode.proofs.write_front.Goals as goal

pub returns-clause-wrote : goal.returns-clause-wrote
unfolding be8
returns-clause-wrote c = wrote_same _ _ (ap (λ (k : ℕ). front k []) c.number.ensures) c.bytes.ensures.wrote
