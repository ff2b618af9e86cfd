use Rattle.scan.proofs.Uniques.{holds_unique}
use Rattle.scan.proofs.scanning.holds_unique.Goals as goal

pub returns : goal.returns
returns c = holds_unique
