use Rattle.service.proofs.Lawfulness.{lines_lawful}
use Rattle.service.proofs.laws.lines_are_lawful.Goals as goal

pub returns : goal.returns
returns c = lines_lawful
