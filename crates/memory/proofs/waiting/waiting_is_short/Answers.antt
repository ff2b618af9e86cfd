use Rattle.memory.proofs.Ranges.{waiting_short}
use Rattle.memory.proofs.waiting.waiting_is_short.Goals as goal

pub returns : goal.returns
returns c = waiting_short
