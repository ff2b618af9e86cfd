-- The highest of them, or 0 where there are none.
use Rattle.std.proofs.lemmas.Iterator.{YieldsList-from_slice}
use Rattle.std.proofs.lemmas.Iterator.Consumers.{max_from_yields_List}
use Rattle.script.proofs.Fresh.{highest_from_max}
use Rattle.script.proofs.incarnations.highest_of.Goals as goal

pub returns : goal.returns
returns c =
    highest_from_max c.args.drawn.now c.max.result c.copied.result c.unwrap_or.result (max_from_yields_List c.iter.result c.max.result c.max.ensures.ran (YieldsList-from_slice c.args.drawn.now (cc))) c.copied.ensures c.unwrap_or.ensures
