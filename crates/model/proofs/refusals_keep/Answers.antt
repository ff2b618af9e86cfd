use Rattle.model.proofs.Refusals.{all_or_none, refusals_keep, reads_keep, one_change}
use Rattle.model.proofs.refusals_keep.Goals as goal

pub returns : goal.returns
returns c = record { all_or_none = all_or_none; refusals = refusals_keep; reads = reads_keep; one_change = one_change }
