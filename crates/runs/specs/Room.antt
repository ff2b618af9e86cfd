-- One room with one clerk, and what it is for replicas to be indistinguishable from it.
-- Assumes nothing.
use Rattle.std.specs.Prelude.{◌≡◌, ℕ, ◌<◌, ◌≤◌, ◌⊎◌, List, [], ◌∷◌, ◌++◌}
use mathlib.Core.List.{Memᴰ}
use Rattle.runs.specs.Replicas.{Comes, Call', Gives, Code, Scene, there, Seen, asked, gave, count_of, Goes}

-- THE REFERENCE: one room with one clerk, who does one call after the other on one state. busy: the answer to a call that is handed back undone.
pub record Clerk (O R : Type 0) : Type 1 where
  pub State : Type 0
  pub start : State
  pub reply : O → State → R
  pub next : O → State → State
  pub busy : R

-- a call that came in and is not done yet
pub record Open (O : Type 0) : Type 0 where
  pub house : ℕ
  pub number : ℕ
  pub call : O

-- an answer that is not yet handed out
pub record Ready (R : Type 0) : Type 0 where
  pub house : ℕ
  pub number : ℕ
  pub reply : R

-- Room c es t os rs: in the room, clients can have seen es (newest first), with the clerk's state t, the calls os open and the answers rs ready. A call comes in (comes_in), is done at any later
-- moment (is_done), and its answer is handed out after that, at the replica where it was made (goes_out); or it is handed back undone (handed_back).
pub data Room {O R : Type 0} (c : Clerk O R) : List (Seen O R) → c.State → List (Open O) → List (Ready R) → Type 0 where
  opens : Room c [] c.start [] []
  comes_in : {es : List (Seen O R)} {s : c.State} {os : List (Open O)} {rs : List (Ready R)} (i k : ℕ) (o : O) → Room c es s os rs → Room c (asked i k o ∷ es) s (record { house = i; number = k; call = o } ∷ os) rs
  is_done : {es : List (Seen O R)} {s : c.State} {rs : List (Ready R)} (xs ys : List (Open O)) (i k : ℕ) (o : O) → Room c es s (xs ++ record { house = i; number = k; call = o } ∷ ys) rs →
      Room c es (c.next o s) (xs ++ ys) (record { house = i; number = k; reply = c.reply o s } ∷ rs)
  goes_out : {es : List (Seen O R)} {s : c.State} {os : List (Open O)} (xs ys : List (Ready R)) (i k : ℕ) (r : R) → Room c es s os (xs ++ record { house = i; number = k; reply = r } ∷ ys) → Room c (gave i k r ∷ es) s os (xs ++ ys)
  handed_back : {es : List (Seen O R)} {s : c.State} {rs : List (Ready R)} (xs ys : List (Open O)) (i k : ℕ) (o : O) → Room c es s (xs ++ record { house = i; number = k; call = o } ∷ ys) rs → Room c (gave i k c.busy ∷ es) s (xs ++ ys) rs

-- LINEARIZABLE: whatever the replicas show their clients, the room can show them too. (The bound on the number of steps is for programs that count in 64 bits.)
abbrev pub LikeARoom : {M O R : Type 0} → Clerk O R → Code M O R → Type 0
LikeARoom {M} {O} {R} k c =
    (all n : ℕ) → 1 ≤ all → all ≤ 7 → n < 72057594037927936 → (es : List (Seen O R)) (s : Scene c.Mind M) → Goes c all n es s → (t : k.State) × (os : List (Open O)) × (rs : List (Ready R)) × Room k es t os rs

-- A call is handed back only at once, in the turn in which it came, and only where eight wait at that replica.
abbrev pub BusyAtNine : {M O R : Type 0} → Clerk O R → Code M O R → Type 0
BusyAtNine {M} {O} {R} k c =
    (all n : ℕ) → 1 ≤ all → all ≤ 7 → n < 72057594037927936 → (es : List (Seen O R)) (s : Scene c.Mind M) → Goes c all n es s → (i q : ℕ) (m : c.Mind) (x : Comes M O) → s.house i ≡ there m → Memᴰ (Gives q k.busy) (c.turns x m).does →
    (o : O) × (x ≡ Call' q o) × (8 ≤ count_of i s.waits)

-- A call is answered only while it waits: in the turn in which it comes, or later where it stands among those that wait.
abbrev pub OnlyWaiting : {M O R : Type 0} → Code M O R → Type 0
OnlyWaiting {M} {O} {R} c =
    (all n : ℕ) → 1 ≤ all → all ≤ 7 → n < 72057594037927936 → (es : List (Seen O R)) (s : Scene c.Mind M) → Goes c all n es s → (i q : ℕ) (r : R) (m : c.Mind) (x : Comes M O) → s.house i ≡ there m → Memᴰ (Gives q r) (c.turns x m).does →
    ((o : O) × (x ≡ Call' q o)) ⊎ Memᴰ (record { house = i; number = q }) s.waits
