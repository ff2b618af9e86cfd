use Rattle.calls.proofs.Again.{calls_again}
use Rattle.calls.proofs.WrittenAgain.{calls_back}
use Rattle.calls.proofs.Acts.{acts_whole}
use Rattle.calls.proofs.laws.calls_round.Goals as goal

pub returns : goal.returns
returns c = record { read = calls_again; written = calls_back; acts = acts_whole }
