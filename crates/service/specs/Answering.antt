-- Answers as bytes at the front of a buffer. Assumes nothing.
use Rattle.std.specs.Prelude.{◌≡◌, ℕ, ◌+◌, ◌<◌, ◌≤◌, List, [], ◌∷◌, length, take, IfSome, Some, None, Option, Ok, Err, Result}
use Rattle.model.specs.Tree.{State, Reply, Act, Do}
use Rattle.cells.specs.declared.draft.Size.{Size}
use Rattle.cells.specs.Drafts.{Drafts, drafting}
use Rattle.cells.specs.Fits.{Fits, Calm, Suits}
use Rattle.scan.specs.Scans.{places_of, meaning, IsTree}
use Rattle.service.specs.declared.clerk.Answered.{Answered}
use Rattle.calls.specs.Screening.{LetIn}
use Rattle.tree.specs.declared.refusal.Refusal.{Refusal}
use Rattle.service.specs.Service.{Outcome, keep_to, next_to, lines}
use Rattle.calls.specs.Format.{encode_reply}

-- the first bytes of a buffer are this answer
pub record Says (r : Reply) (out : List ℕ) (n : ℕ) : Type 0 where
  pub inside : n ≤ length out
  pub bytes : take n out ≡ encode_reply r

abbrev pub left_by : Option Size → List ℕ → List ℕ → State → State
left_by None out ps s = s
left_by (Some z) out ps s = drafting out ps z

-- WRITING. What is kept of a write, and the tree that it wrote, if it was done
abbrev pub kept_of : Result Size Refusal → Outcome
kept_of (Ok z) = Ok tt
kept_of (Err k) = Err k

abbrev pub next_of : Result Size Refusal → Option Size
next_of (Ok z) = Some z
next_of (Err k) = None

-- the state that a write leaves: the tree that was written, or as it was
abbrev pub leaves : Result Size Refusal → List ℕ → List ℕ → State → State
leaves w out ps s = left_by (next_of w) out ps s

-- what is kept of a write, and what it leaves, are what the service says; a tree that was written is one, and fits the room
pub record Wrote (room : ℕ) (a : Act) (s : State) (w : Result Size Refusal) (out ps : List ℕ) : Type 0 where
  pub kept : kept_of w ≡ keep_to room (LetIn (Do (a ∷ []))) s
  pub state : leaves w out ps s ≡ next_to room (LetIn (Do (a ∷ []))) s
  pub drafts : IfSome (next_of w) (λ z. Drafts out ps z)
  pub fits : IfSome (next_of w) (λ z. Fits room (drafting out ps z))

-- ONE CALL, ANSWERED: what one clerk with one tree says and leaves. reply: where the answer ends; next: the tree that was written, or none where it is as it was
pub record Answers (room : ℕ) (call : List ℕ) (s : State) (a : Answered) (out ps reply : List ℕ) : Type 0 where
  pub inside : a.reply ≤ length reply
  pub bytes : take a.reply reply ≡ (lines room).clerk.reply call s
  pub state : left_by a.next out ps s ≡ (lines room).clerk.next call s
  pub tree : IfSome a.next (λ z. Drafts out ps z × Fits room (drafting out ps z))

-- memory that is lent for a call: for the places of the last tree, for the next tree, for the answer
pub record Lent (room : ℕ) (bytes places out ps reply : List ℕ) : Type 0 where
  pub last : length (places_of bytes) ≤ length places
  pub next : Suits room out ps
  pub answer : room + 65581 ≤ length reply
  pub small : length reply < 4294967296

-- it is answered, unless the bytes are no tree that fits the room, or one that was changed too often, or the memory is too short
abbrev pub AnsweredBy : ℕ → List ℕ → List ℕ → Option Answered → (places out ps reply : List ℕ) → Type 0
AnsweredBy room bytes call None places out ps reply = IsTree room bytes → length bytes < 4294967296 → Calm (meaning bytes) → Lent room bytes places out ps reply → ⊥
AnsweredBy room bytes call (Some a) places out ps reply = Answers room call (meaning bytes) a out ps reply
