use Rattle.std.proofs.Common.{◌<◌}
use Rattle.std.proofs.ByRecursion.{All-from_get_or}
use Rattle.service.proofs.Ranges.{value_long}
use Rattle.service.proofs.asking.is_value.Goals as goal

pub returns : goal.returns
returns c = let v = c.args.value.now in value_long v (All-from_get_or (λ b. b < 256) v 0 (λ i l. (c.type_inv.value i).fits))
