use Rattle.std.proofs.Common.{refl}
use Rattle.calls.specs.Format.{encode_reply}
use Rattle.calls.proofs.answers.refused.Goals as goal

pub returns : goal.returns
unfolding encode_reply
returns c = refl
