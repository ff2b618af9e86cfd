use Rattle.calls.proofs.Again.{replies_again}
use Rattle.calls.proofs.WrittenAgain.{replies_back}
use Rattle.calls.proofs.laws.replies_round.Goals as goal

pub returns : goal.returns
returns c = record { read = replies_again; written = replies_back }
