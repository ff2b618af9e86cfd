-- A trace: what replicas that agree have done, in order, as far as clients can tell: calls that came in, writes that were agreed on, answers that were given, and calls that were answered at once.
use Rattle.std.proofs.Common.{◌≡◌, ℕ, Bool, true, false, ◌||◌, eqb, ◌⊎◌, List, [], ◌∷◌}
use mathlib.Core.List.{Memᴰ}
use Rattle.runs.specs.Replicas.{Seen, asked, gave}
use Rattle.runs.specs.Room.{Clerk}

pub data Tick (O R : Type 0) : Type 0 where
  Asked : (i k : ℕ) → O → Tick O R
  Moved : (i k : ℕ) → O → Tick O R
  Gave : (i k : ℕ) → R → Tick O R
  AtOnce : (i k : ℕ) → O → R → Tick O R

abbrev pub state_of : {O R : Type 0} (c : Clerk O R) → List (Tick O R) → c.State
state_of c [] = c.start
state_of c (Asked i k o ∷ tr) = state_of c tr
state_of c (Moved i k o ∷ tr) = c.next o (state_of c tr)
state_of c (Gave i k r ∷ tr) = state_of c tr
state_of c (AtOnce i k o r ∷ tr) = state_of c tr

abbrev pub seen_of : {O R : Type 0} → List (Tick O R) → List (Seen O R)
seen_of [] = []
seen_of (Asked i k o ∷ tr) = asked i k o ∷ seen_of tr
seen_of (Moved i k o ∷ tr) = seen_of tr
seen_of (Gave i k r ∷ tr) = gave i k r ∷ seen_of tr
seen_of (AtOnce i k o r ∷ tr) = gave i k r ∷ asked i k o ∷ seen_of tr

abbrev pub was_moved : {O R : Type 0} → ℕ → List (Tick O R) → Bool
was_moved n [] = false
was_moved n (Asked i k o ∷ tr) = was_moved n tr
was_moved n (Moved i k o ∷ tr) = eqb n k || was_moved n tr
was_moved n (Gave i k r ∷ tr) = was_moved n tr
was_moved n (AtOnce i k o r ∷ tr) = was_moved n tr

abbrev pub was_given : {O R : Type 0} → ℕ → List (Tick O R) → Bool
was_given n [] = false
was_given n (Asked i k o ∷ tr) = was_given n tr
was_given n (Moved i k o ∷ tr) = was_given n tr
was_given n (Gave i k r ∷ tr) = eqb n k || was_given n tr
was_given n (AtOnce i k o r ∷ tr) = was_given n tr

-- a is what was at some time
pub data Tail {A : Type 0} (a : List A) : List A → Type 0 where
  whole : Tail a a
  later : {x : A} {b : List A} → Tail a b → Tail a (x ∷ b)

-- a write is answered by what it did when it was done; a read by what was so at some time since it was asked
pub data Way {O R : Type 0} (c : Clerk O R) (reads : O → Bool) (tr : List (Tick O R)) (i k : ℕ) (r : R) : Type 0 where
  wrote : (o : O) (a : List (Tick O R)) → reads o ≡ false → Tail (Moved i k o ∷ a) tr → r ≡ c.reply o (state_of c a) → Way c reads tr i k r
  read_at : (o : O) (a : List (Tick O R)) → reads o ≡ true → Tail a tr → Memᴰ (Asked i k o) a → r ≡ c.reply o (state_of c a) → Way c reads tr i k r

-- a call that is answered at once is handed back, or answered by what is so whatever the state is, which it leaves as it is
abbrev pub Quickly : {O R : Type 0} (c : Clerk O R) → O → R → Type 0
Quickly c o r = (r ≡ c.busy) ⊎ (((t : c.State) → c.reply o t ≡ r) × ((t : c.State) → c.next o t ≡ t))

pub data Trace {O R : Type 0} (c : Clerk O R) (reads : O → Bool) : List (Tick O R) → Type 0 where
  none : Trace c reads []
  asks : {tr : List (Tick O R)} (i k : ℕ) (o : O) → Trace c reads tr → ((j : ℕ) (p : O) → Memᴰ (Asked j k p) tr → ⊥) → Trace c reads (Asked i k o ∷ tr)
  moves : {tr : List (Tick O R)} (i k : ℕ) (o : O) → Trace c reads tr → Memᴰ (Asked i k o) tr → reads o ≡ false → was_moved k tr ≡ false → Trace c reads (Moved i k o ∷ tr)
  gives : {tr : List (Tick O R)} (i k : ℕ) (r : R) → Trace c reads tr → was_given k tr ≡ false → Way c reads tr i k r → Trace c reads (Gave i k r ∷ tr)
  once : {tr : List (Tick O R)} (i k : ℕ) (o : O) (r : R) → Trace c reads tr → Quickly c o r → Trace c reads (AtOnce i k o r ∷ tr)
