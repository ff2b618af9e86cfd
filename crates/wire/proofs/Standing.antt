-- A message in lent memory that stands for one of the machine is written as that one's bytes. Assumes nothing.
use Rattle.std.proofs.Common.{◌≡◌, ℕ, List, ◌∷◌, ◌++◌, Some, sym, refl, ap}
use Rattle.lent_bytes.specs.Numbers.{be8}
use Rattle.calls.specs.Format.{flag_written}
use Rattle.calls.specs.Laws.{Bytes}
use Rattle.calls.proofs.Back.{then_some}
use Rattle.content.specs.Content.{tree_at}
use Rattle.service.specs.Service.{lines}
use Rattle.agreement.specs.Content as Agreed
use Rattle.agreement.specs.Machine.{Prepare, Promise, Propose, Alive, Accepted, Join, Forward}
use Rattle.wire.specs.Messages.{front, view_bytes, agreed_bytes, proposal_bytes, proposed, word_bytes}
use Rattle.wire.proofs.MessagesBack.{read_as, tree_takes}
use Rattle.wire.specs.declared.types.Proposal.{Proposal}
use Rattle.wire.specs.declared.types.Message.TheVariants as message
use Rattle.wire.specs.Memory.{proposal_of, proposal_written, message_written}
use Rattle.wire.specs.Laws.{MemoryWritesAlike}

proposal_written_lem : (room : ℕ) (p : Proposal) (q : Agreed.Proposal (lines room)) → Bytes p.tree.now → proposal_of room p ≡ Some q → proposal_written p ≡ proposal_bytes room q
proposal_written_lem room p q small e =
    let r = then_some (tree_at room p.tree.now) (λ t. Some (proposed room p.id p.seats t)) q e in
    read_as (proposed room p.id p.seats r.0) q (λ y. proposal_written p ≡ proposal_bytes room y) r.2
    (ap (λ (l : List ℕ). agreed_bytes p.id p.seats.places p.seats.outcomes ++ l) (sym (tree_takes room p.tree.now r.0 small r.1)))

pub memory_writes : MemoryWritesAlike
unfolding word_bytes
memory_writes room (message.Prepare v) w b e = read_as (Prepare v) w (λ y. front 1 (view_bytes v) ≡ word_bytes room y) e refl
memory_writes room (message.Promise v x p) w b e =
    let r = then_some (proposal_of room p) (λ q. Some (Promise v x q)) w e in
    read_as (Promise v x r.0) w (λ y. message_written (message.Promise v x p) ≡ word_bytes room y) r.2 (ap (λ (l : List ℕ). front 2 (view_bytes v ++ (be8 x ++ l))) (proposal_written_lem room p r.0 b r.1))
memory_writes room (message.Propose p c) w b e =
    let r = then_some (proposal_of room p) (λ q. Some (Propose q c)) w e in
    read_as (Propose r.0 c) w (λ y. message_written (message.Propose p c) ≡ word_bytes room y) r.2 (ap (λ (l : List ℕ). front 3 (flag_written c ∷ l)) (proposal_written_lem room p r.0 b r.1))
memory_writes room (message.Alive d c x) w b e = read_as (Alive d c x) w (λ y. message_written (message.Alive d c x) ≡ word_bytes room y) e refl
memory_writes room (message.Accepted d x) w b e = read_as (Accepted d x) w (λ y. message_written (message.Accepted d x) ≡ word_bytes room y) e refl
memory_writes room (message.Join q) w b e = read_as (Join q) w (λ y. message_written (message.Join q) ≡ word_bytes room y) e refl
memory_writes room (message.Forward a) w b e =
    read_as (Forward (record { incarnation = a.incarnation; no = a.no; number = a.number; call = a.call.now })) w (λ y. message_written (message.Forward a) ≡ word_bytes room y) e refl
