use Rattle.promise.proofs.Refused.{refused_changes_nothing}
use Rattle.promise.proofs.refusals_change_nothing.Goals as goal

pub returns : goal.returns
returns u = refused_changes_nothing
