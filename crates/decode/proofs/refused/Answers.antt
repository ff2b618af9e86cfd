use Rattle.std.proofs.Common.{◌∙◌}
use Rattle.decode.proofs.Refusing.{refused_as}
use Rattle.decode.proofs.refused.Goals as goal

pub returns : goal.returns
returns c = c.ok.ensures.value ∙ refused_as c.args.byte c.try_from.result c.requires c.try_from.ensures
