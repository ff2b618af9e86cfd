use Rattle.doing.proofs.Refused.{refused_keeps, all_or_none}
use Rattle.doing.proofs.refused_keeps.Goals as goal

pub returns : goal.returns
returns c = (refused_keeps, all_or_none)
