-- Whatever is said in a run is read again: its numbers fit, and the tree that it carries can be sent, since every state of a run is one that calls lead to. So the whole promise holds over these bytes.
use Rattle.std.proofs.Common.{◌≡◌, ℕ, Some, sym, subst}
use Rattle.agreement.specs.Machine.{Msg, Prepare, Promise, Propose, Alive, Accepted, Join, Forward}
use Rattle.agreement.proofs.Runs.{run, said_fits}
use Rattle.agreement.proofs.Slowly.{Follow, LowWord}
use Rattle.agreement.proofs.Bounds.{bounded}
use Rattle.service.specs.Service.{lines}
use Rattle.wire.specs.Trees.{Sendable}
use Rattle.wire.specs.Messages.{word_bytes, word_at}
use Rattle.service.proofs.Over.{whole_over_bytes}
use Rattle.wire.specs.Laws.{CarriesSendable}
use Rattle.wire.specs.Whole.{format, SaidIsRead, WholeInBytes}
use Rattle.wire.proofs.MessagesAgain.{message_again}
use Rattle.wire.proofs.Sending.{start_sendable, next_sendable}

-- every state of a run can be sent
abbrev sending : (room : ℕ) → Follow (lines room)
sending room = record { P = λ b s. Sendable room s; start = start_sendable room; more = λ b c s le a. a; step = λ b o s calm a. next_sendable room o s calm a }

carried : (room n : ℕ) (w : Msg (lines room)) → LowWord (sending room) n w → CarriesSendable room w
carried room n (Prepare v) a = tt
carried room n (Promise v x p) a = a.1.state
carried room n (Propose p c) a = a.state
carried room n (Alive d c x) a = tt
carried room n (Accepted d x) a = tt
carried room n (Join q) a = tt
carried room n (Forward q) a = tt

pub said_is_read : SaidIsRead
said_is_read room all n few es s g i m lt up l d =
    let (h, r) = run all few g in let k : m.agreement.all ≡ all = (r.replicas i m lt up).0.who.all' in
    subst (λ (z : ℕ). word_at room z (word_bytes room l.word) ≡ Some l.word) (sym k) (message_again room all l.word (said_fits (lines room) all n few es s g l d) (carried room n l.word ((bounded (sending room) all g).letters l d)))

pub whole_in_bytes : WholeInBytes
whole_in_bytes room = let (safe, heals) = whole_over_bytes room (format room) (said_is_read room) in (safe.0, safe.1, safe.2, heals)
