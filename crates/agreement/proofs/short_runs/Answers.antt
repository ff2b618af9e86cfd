use Rattle.agreement.proofs.Table.{short_runs}
use Rattle.agreement.proofs.short_runs.Goals as goal

pub returns : goal.returns
returns c = short_runs
