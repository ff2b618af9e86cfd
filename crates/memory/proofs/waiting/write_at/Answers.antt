use Rattle.std.proofs.Common.{arith, rules}
use Rattle.std.proofs.lemmas.Slice.{overwrites}
use Rattle.memory.proofs.Waits.{put_at}
use Rattle.memory.proofs.waiting.write_at.Goals as goal

pub returns : goal.returns
returns c = put_at c.args.at _ c.args.out.now _ c.args.bytes.now c.copy_from_slice.ensures.after (omega arith) (omega (arith, c.requires)) (search (rules, overwrites))
