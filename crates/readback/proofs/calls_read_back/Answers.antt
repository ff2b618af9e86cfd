-- The theorem.
use Rattle.readback.proofs.ActsBack.{calls_read_back}
use Rattle.readback.proofs.calls_read_back.Goals as goal

pub returns : goal.returns
returns c = calls_read_back
