use Rattle.service.proofs.Promised.{one_after_the_other, never_back, one_maker}
use Rattle.service.proofs.laws.clients_can_rely.Goals as goal

pub returns : goal.returns
returns c = record { order = one_after_the_other; back = never_back; maker = one_maker }
