use Rattle.model.proofs.Histories.{counts_rise, top_rises, numbered, numbers_differ}
use Rattle.model.proofs.numbers_rise.Goals as goal

pub returns : goal.returns
returns c = record { counts = counts_rise; top = top_rises; numbered = numbered; differ = numbers_differ }
