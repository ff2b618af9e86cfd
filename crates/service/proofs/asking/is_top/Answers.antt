use Rattle.std.proofs.Common.{sym, ◌∙◌}
use Rattle.service.proofs.Ranges.{top_empty}
use Rattle.service.proofs.asking.is_top.Goals as goal

pub returns : goal.returns
returns c = c.is_empty.ensures ∙ sym (top_empty c.args.path.names.now c.args.path.spells)
