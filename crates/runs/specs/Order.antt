-- Linearizable, as an order: what clients saw in the room can be had by doing the calls one after the other, in an order that respects what came before what. What it is for there to be such an order.
-- Assumes nothing.
use Rattle.std.specs.Prelude.{◌≡◌, ℕ, ◌+◌, ◌≤◌, cond, ◌⊎◌, List, [], ◌∷◌, ◌++◌, ◌==◌}
use mathlib.Core.List.{Memᴰ}
use Rattle.runs.specs.Replicas.{Seen, asked, gave}
use Rattle.runs.specs.Room.{Clerk}

-- a call that was done, with its answer
pub record Deed (O R : Type 0) : Type 0 where
  pub house : ℕ
  pub number : ℕ
  pub call : O
  pub reply : R

-- calls done one after the other by the clerk, the newest first; each answer is the clerk's, on the state that those before left
pub data Line {O R : Type 0} (c : Clerk O R) : List (Deed O R) → c.State → Type 0 where
  none : Line c [] c.start
  more : {ds : List (Deed O R)} {s : c.State} (i k : ℕ) (o : O) → Line c ds s → Line c (record { house = i; number = k; call = o; reply = c.reply o s } ∷ ds) (c.next o s)

-- how often a call with this number was done, and asked
unfoldable pub done_often : {O R : Type 0} → ℕ → List (Deed O R) → ℕ
done_often k [] = 0
done_often k (d ∷ ds) = cond (k == d.number) (1 + done_often k ds) (done_often k ds)

unfoldable pub asked_often : {O R : Type 0} → ℕ → List (Seen O R) → ℕ
asked_often k [] = 0
asked_often k (asked i n o ∷ es) = cond (k == n) (1 + asked_often k es) (asked_often k es)
asked_often k (gave i n r ∷ es) = asked_often k es

-- an answer that was given is that of a call that was done, or it was handed back
abbrev pub GivenBy : {O R : Type 0} → Clerk O R → List (Deed O R) → (house number : ℕ) → R → Type 0
GivenBy {O} {R} c ds i k r = ((d : Deed O R) × Memᴰ d ds × (d.house ≡ i) × (d.number ≡ k) × (d.reply ≡ r)) ⊎ (r ≡ c.busy)

-- how often a number stands in a list
unfoldable pub times_in : ℕ → List ℕ → ℕ
times_in k [] = 0
times_in k (n ∷ ns) = cond (k == n) (1 + times_in k ns) (times_in k ns)

-- the same, and what was handed back has its number among those handed back
abbrev pub Settled : {O R : Type 0} → Clerk O R → List (Deed O R) → (handed : List ℕ) → (house number : ℕ) → R → Type 0
Settled {O} {R} c ds hs i k r = ((d : Deed O R) × Memᴰ d ds × (d.house ≡ i) × (d.number ≡ k) × (d.reply ≡ r)) ⊎ ((r ≡ c.busy) × Memᴰ k hs)

-- at an earlier moment, when es had been seen, the calls that were done are the older ones of those done now: every answer seen by then is of one of them, and each of them had been asked by then. So a call that is asked after an answer was seen is done after the call of that answer
pub record Then {O R : Type 0} (c : Clerk O R) (es : List (Seen O R)) (ds : List (Deed O R)) : Type 0 where
  pub newer : List (Deed O R)
  pub older : List (Deed O R)
  pub split : ds ≡ newer ++ older
  pub given : (i k : ℕ) (r : R) → Memᴰ (gave i k r) es → GivenBy c older i k r
  pub asked' : (d : Deed O R) → Memᴰ d older → Memᴰ (asked d.house d.number d.call) es

-- AN ORDER of the calls for what clients saw. handed: the numbers of the calls that were handed back; a call is done or handed back, and that once
pub record Ordered {O R : Type 0} (c : Clerk O R) (es : List (Seen O R)) (t : c.State) : Type 0 where
  pub deeds : List (Deed O R)
  pub line : Line c deeds t
  pub handed : List ℕ
  pub once : (k : ℕ) → done_often k deeds + times_in k handed ≤ asked_often k es
  pub settled : (i k : ℕ) (r : R) → Memᴰ (gave i k r) es → Settled c deeds handed i k r
  pub came : (d : Deed O R) → Memᴰ d deeds → Memᴰ (asked d.house d.number d.call) es
  pub real_time : (xs ys : List (Seen O R)) → es ≡ xs ++ ys → Then c ys deeds
