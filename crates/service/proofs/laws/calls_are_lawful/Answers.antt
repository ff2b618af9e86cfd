use Rattle.service.proofs.Lawfulness.{calls_lawful}
use Rattle.service.proofs.laws.calls_are_lawful.Goals as goal

pub returns : goal.returns
returns c = calls_lawful
