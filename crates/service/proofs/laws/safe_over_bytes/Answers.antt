use Rattle.service.proofs.Over.{safe_over_bytes}
use Rattle.service.proofs.laws.safe_over_bytes.Goals as goal

pub returns : goal.returns
returns c = safe_over_bytes
