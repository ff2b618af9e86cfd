use Rattle.agreement.specs.Sums.{sums}
use Rattle.agreement.proofs.Runs.{said_fits}
use Rattle.agreement.proofs.said_fits.Goals as goal

pub returns : goal.returns
returns c = said_fits sums
