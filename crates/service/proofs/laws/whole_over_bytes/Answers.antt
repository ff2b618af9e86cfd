use Rattle.service.proofs.Over.{whole_over_bytes}
use Rattle.service.proofs.laws.whole_over_bytes.Goals as goal

pub returns : goal.returns
returns c = whole_over_bytes
