use Rattle.wire.proofs.MessagesBack.{message_back}
use Rattle.wire.proofs.laws.messages_are_written_again.Goals as goal

pub returns : goal.returns
returns c = message_back
