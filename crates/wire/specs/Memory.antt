-- Messages in lent memory, with trees and calls as parts of bytes: what they stand for, and the bytes that they are written as. Assumes nothing.
use Rattle.std.specs.Prelude.{◌≡◌, ℕ, ◌+◌, List, ◌∷◌, ◌++◌, length, Some, Option}
use Rattle.lent_bytes.specs.Numbers.{be8}
use Rattle.calls.specs.Format.{and_then, flag_written}
use Rattle.content.specs.Content.{tree_at}
use Rattle.service.specs.Service.{lines}
use Rattle.agreement.specs.Content as Agreed
use Rattle.agreement.specs.Machine.{Msg, Prepare, Promise, Propose, Alive, Accepted, Join, Forward}
use Rattle.wire.specs.Messages as Wire
use Rattle.wire.specs.Messages.{proposed, front, view_bytes, id_bytes, agreed_bytes}
use Rattle.wire.specs.declared.types.Proposal.{Proposal}
use Rattle.wire.specs.declared.types.Message.{Message}
use Rattle.wire.specs.declared.types.Message.TheVariants as message

-- a proposal, if its bytes are a tree that fits the room
abbrev pub proposal_of : (room : ℕ) → Proposal → Option (Agreed.Proposal (lines room))
proposal_of room p = and_then (tree_at room p.tree.now) (λ t. Some (proposed room p.id p.seats t))

-- THE MESSAGE OF THE MACHINE, if the tree's bytes, where it has some, are a tree that fits the room
abbrev pub message_of : (room : ℕ) → Message → Option (Msg (lines room))
message_of room (message.Prepare v) = Some (Prepare v)
message_of room (message.Promise v x p) = and_then (proposal_of room p) (λ q. Some (Promise v x q))
message_of room (message.Propose p c) = and_then (proposal_of room p) (λ q. Some (Propose q c))
message_of room (message.Alive d c x) = Some (Alive d c x)
message_of room (message.Accepted d x) = Some (Accepted d x)
message_of room (message.Join q) = Some (Join q)
message_of room (message.Forward a) = Some (Forward (record { incarnation = a.incarnation; no = a.no; number = a.number; call = a.call.now }))

-- what was read is what the bytes are read as, in every room
abbrev pub ReadProposal : (all : ℕ) → List ℕ → Option Proposal → Type 0
ReadProposal all bs r = (room : ℕ) → and_then r (proposal_of room) ≡ Wire.proposal_at room all bs

abbrev pub ReadBy : ((room : ℕ) → List ℕ → Option (Msg (lines room))) → List ℕ → Option Message → Type 0
ReadBy f bs r = (room : ℕ) → and_then r (message_of room) ≡ f room bs

-- WRITING: the bytes of a message, and how many they are
abbrev pub proposal_written : Proposal → List ℕ
proposal_written p = agreed_bytes p.id p.seats.places p.seats.outcomes ++ p.tree.now

abbrev pub message_written : Message → List ℕ
message_written (message.Prepare v) = front 1 (view_bytes v)
message_written (message.Promise v x p) = front 2 (view_bytes v ++ (be8 x ++ proposal_written p))
message_written (message.Propose p c) = front 3 (flag_written c ∷ proposal_written p)
message_written (message.Alive d c x) = front 4 (id_bytes d ++ (flag_written c ∷ be8 x))
message_written (message.Accepted d x) = front 5 (id_bytes d ++ be8 x)
message_written (message.Join q) = front 6 (be8 q.incarnation ++ be8 q.replaces)
message_written (message.Forward a) = front 7 (be8 a.incarnation ++ (be8 a.no ++ (be8 a.number ++ a.call.now)))

abbrev pub message_long : Message → ℕ
message_long (message.Prepare v) = 27
message_long (message.Promise v x p) = 179 + length p.tree.now
message_long (message.Propose p c) = 155 + length p.tree.now
message_long (message.Alive d c x) = 44
message_long (message.Accepted d x) = 43
message_long (message.Join q) = 26
message_long (message.Forward a) = 34 + length a.call.now
