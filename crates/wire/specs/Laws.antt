-- What is written is read again as what it was, and what is read is written again as the same bytes; and every state that a run of the service comes to can be sent. Each is a type; a proof of the type is the theorem.
-- Assumes nothing.
use Rattle.std.specs.Prelude.{◌≡◌, ℕ, true, List, Some}
use Rattle.model.specs.Tree.{State}
use Rattle.scan.specs.Scans.{IsTree, meaning}
use Rattle.content.specs.Content.{tree_at}
use Rattle.calls.specs.Laws.{Bytes}
use Rattle.service.specs.Service.{lines}
use Rattle.agreement.specs.Machine.{Msg, Prepare, Promise, Propose, Alive, Accepted, Join, Forward}
use Rattle.agreement.specs.Said.{FitWord}
use Rattle.wire.specs.declared.types.Message.{Message}
use Rattle.wire.specs.declared.types.Message.TheVariants as message
use Rattle.wire.specs.Trees.{Sendable, tree_bytes}
use Rattle.wire.specs.Messages.{word_bytes, word_at}
use Rattle.wire.specs.Memory.{message_of, message_written}

-- TREES
abbrev pub TreeAgain : Type 0
TreeAgain = (room : ℕ) (s : State) → Sendable room s → tree_at room (tree_bytes s) ≡ Some s

abbrev pub TreeBack : Type 0
TreeBack = (room : ℕ) (bytes : List ℕ) → Bytes bytes → IsTree room bytes → tree_bytes (meaning bytes) ≡ bytes

-- MESSAGES. The state that a message carries, if it carries one, can be sent
abbrev pub CarriesSendable : (room : ℕ) → Msg (lines room) → Type 0
CarriesSendable room (Prepare v) = Unit {0}
CarriesSendable room (Promise v x p) = Sendable room p.content.state
CarriesSendable room (Propose p c) = Sendable room p.content.state
CarriesSendable room (Alive d c x) = Unit {0}
CarriesSendable room (Accepted d x) = Unit {0}
CarriesSendable room (Join q) = Unit {0}
CarriesSendable room (Forward a) = Unit {0}

abbrev pub MessageAgain : Type 0
MessageAgain = (room all : ℕ) (w : Msg (lines room)) → FitWord all w → CarriesSendable room w → word_at room all (word_bytes room w) ≡ Some w

abbrev pub MessageBack : Type 0
MessageBack = (room all : ℕ) (bytes : List ℕ) (w : Msg (lines room)) → Bytes bytes → word_at room all bytes ≡ Some w → word_bytes room w ≡ bytes

-- THE SERVICE: its first state can be sent, and so can what a call makes of one that may be changed
abbrev pub StartSendable : Type 0
StartSendable = (room : ℕ) → Sendable room (lines room).clerk.start

abbrev pub NextSendable : Type 0
NextSendable = (room : ℕ) (call : List ℕ) (s : State) → (lines room).calm s ≡ true → Sendable room s → Sendable room ((lines room).clerk.next call s)

-- IN LENT MEMORY a message is written as the one that it stands for: a proposal's tree goes out as the bytes that it came in.
-- the tree of a message is bytes
abbrev pub TreeOfBytes : Message → Type 0
TreeOfBytes (message.Prepare v) = Unit {0}
TreeOfBytes (message.Promise v x p) = Bytes p.tree.now
TreeOfBytes (message.Propose p c) = Bytes p.tree.now
TreeOfBytes (message.Alive d c x) = Unit {0}
TreeOfBytes (message.Accepted d x) = Unit {0}
TreeOfBytes (message.Join q) = Unit {0}
TreeOfBytes (message.Forward a) = Unit {0}

abbrev pub MemoryWritesAlike : Type 0
MemoryWritesAlike = (room : ℕ) (m : Message) (w : Msg (lines room)) → TreeOfBytes m → message_of room m ≡ Some w → message_written m ≡ word_bytes room w
