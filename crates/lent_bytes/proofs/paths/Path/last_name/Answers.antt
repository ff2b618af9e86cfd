use Rattle.lent_bytes.proofs.Lasts.{names_first, names_more, names_end}
use Rattle.lent_bytes.proofs.paths.Path.last_name.Goals as goal

pub loop-end-init : goal.loop-end-init
loop-end-init c = names_first _ c.args.self.spells c.requires

pub loop-end-preserved : goal.loop-end-preserved
loop-end-preserved c = names_more _ _ _ c.loop-end.invariant c.loop-end-test.true

pub returns : goal.returns
returns c = names_end _ _ _ c.loop-end.invariant c.loop-end-test.false
