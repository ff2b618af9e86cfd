-- The answer to a call that waits, as the machine makes it, written behind the answers of this turn. Assumes nothing.
use Rattle.std.specs.Prelude.{◌≡◌, ℕ, ◌+◌, ◌≤◌, cond, List, length, take, Some, None, Option, slice_index_or}
use Rattle.std.specs.List.{between}
use Rattle.model.specs.Tree.{State}
use Rattle.service.specs.Service.{Outcome, lines}
use Rattle.agreement.specs.Machine.{Mind, reply_to, say_kept}
use Rattle.memory.specs.declared.lent.Memory.{Memory}
use Rattle.memory.specs.declared.lent.Kept.{Kept}
use Rattle.memory.specs.Keeps.{state_in, SameCalls, Sound}

-- what is said to a call: to a read what the clerk says from the state, to a write what is said from what was kept of it, if anything was
abbrev pub reply_from : (room : ℕ) → (call : List ℕ) → State → Option Outcome → Option (List ℕ)
reply_from room call s o = cond ((lines room).is_read call) (Some ((lines room).clerk.reply call s)) (say_kept (lines room) call o)

-- this is the machine's answer
abbrev pub IsMachines : Type 0
IsMachines = (room : ℕ) (call : List ℕ) (m : Mind (lines room)) → reply_from room call m.state (slice_index_or m.outcomes m.agreement.me None) ≡ reply_to call m

-- the first bytes of a buffer are what is said, if anything is
abbrev pub SaidAs : Option (List ℕ) → (out : List ℕ) → Option ℕ → Type 0
SaidAs told out None = told ≡ None
SaidAs told out (Some n) = (n ≤ length out) × (told ≡ Some (take n out))

-- the bytes from a place on are, and they are at most so many
abbrev pub SaidBehind : Option (List ℕ) → (at most : ℕ) → (out : List ℕ) → Option ℕ → Type 0
SaidBehind told at most out None = told ≡ None
SaidBehind told at most out (Some e) = (at ≤ e) × (e ≤ at + most) × (told ≡ Some (between at e out))

-- an answer was written behind those of this turn; all else is as it was
pub record AnsweredIn (k : Kept) (m : Memory) (reply : Option (List ℕ)) (r : Kept) (n : Memory) : Type 0 where
  pub told : reply ≡ Some (between k.replied r.replied n.replies.now)
  pub behind : k.replied ≤ r.replied
  pub short : r.replied ≤ k.replied + (k.room + 65581)
  pub room : r.room ≡ k.room
  pub slot : r.slot ≡ k.slot
  pub outcomes : r.outcomes ≡ k.outcomes
  pub state : state_in r n ≡ state_in k m
  pub calls : SameCalls k m r n
  pub sound : Sound r n

abbrev pub AnsweredAs : Kept → Memory → Option (List ℕ) → Option Kept → Memory → Type 0
AnsweredAs k m told None n = told ≡ None
AnsweredAs k m told (Some r) n = AnsweredIn k m told r n
