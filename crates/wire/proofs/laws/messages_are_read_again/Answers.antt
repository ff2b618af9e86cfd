use Rattle.wire.proofs.MessagesAgain.{message_again}
use Rattle.wire.proofs.laws.messages_are_read_again.Goals as goal

pub returns : goal.returns
returns c = message_again
