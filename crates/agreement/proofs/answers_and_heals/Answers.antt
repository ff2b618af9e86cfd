use Rattle.agreement.specs.Sums.{sums}
use Rattle.agreement.proofs.Sums.{steady_sums}
use Rattle.agreement.proofs.Progress.{answers_and_heals}
use Rattle.agreement.proofs.answers_and_heals.Goals as goal

pub returns : goal.returns
unfolding steady_sums
returns c = answers_and_heals sums steady_sums
