use Rattle.wire.proofs.Sending.{start_sendable, next_sendable}
use Rattle.wire.proofs.laws.states_can_be_sent.Goals as goal

pub returns : goal.returns
returns c = (start_sendable, next_sendable)
