use Rattle.model.proofs.Weighing.{kids_in_order}
use Rattle.model.proofs.names_in_order.Goals as goal

pub returns : goal.returns
returns c = kids_in_order
