use Rattle.std.proofs.Common.{refl}
use Rattle.model.specs.Tree.{core, one}
use Rattle.lent_bytes.specs.Numbers.{be32, be64}
use Rattle.calls.specs.Format.{many_at}
use Rattle.calls.proofs.laws.screens_worked.Goals as goal

pub returns : goal.returns
unfolding core one be32 be64 many_at
returns c = refl
