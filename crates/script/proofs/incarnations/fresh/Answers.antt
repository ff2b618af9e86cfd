-- One more than the highest is new.
use Rattle.script.proofs.Fresh.{one_more_is_new}
use Rattle.script.proofs.incarnations.fresh.Goals as goal

pub returns-clause-new : goal.returns-clause-new
returns-clause-new c = one_more_is_new c.args.drawn.now c.highest_of.result c.checked_add.result c.highest_of.ensures c.checked_add.ensures
