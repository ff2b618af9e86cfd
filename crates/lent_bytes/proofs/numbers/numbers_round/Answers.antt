use Rattle.lent_bytes.proofs.Rounds.{read_be4, read_be8}
use Rattle.lent_bytes.proofs.numbers.numbers_round.Goals as goal

pub returns : goal.returns
returns c = (read_be4, read_be8)
