-- Replicas without disks: their program as a pure machine, messages under way, crashes in which all is forgotten, and coming up again. What a run is.
-- Assumes nothing.
use Rattle.std.specs.Prelude.{◌≡◌, ℕ, zero, suc, ◌+◌, ◌*◌, ◌<◌, Bool, true, false, cond, not, ◌&&◌, ◌||◌, T, List, [], ◌∷◌, ◌++◌, ◌==◌}
use mathlib.Core.List.{Memᴰ}

-- An input of a replica (a 'house'): a message of another replica, a client's call under its number, a tick ('beat') of its clock.
pub data Comes (M O : Type 0) : Type 0 where
  Said : (by : ℕ) → M → Comes M O
  Call' : (number : ℕ) → O → Comes M O
  Beat : Comes M O

-- An output of a replica: a message to another, an answer to a call, or the word that it has recovered ('whole').
pub data Does (M R : Type 0) : Type 0 where
  Says : (to : ℕ) → M → Does M R
  Gives : (number : ℕ) → R → Does M R
  Whole' : Does M R

-- A replica's program as a pure machine. wakes: its state when it comes up, by its number, how many replicas there are, and its incarnation, a random number that no
-- replica ever had before (0 for all of them at the first beginning); turns: at each input, its outputs and its next state.
pub record Code (M O R : Type 0) : Type 1 where
  pub Mind : Type 0
  pub wakes : (me all chance : ℕ) → Mind
  pub turns : Comes M O → Mind → record { does : List (Does M R); mind : Mind }

-- A message under way, with its sender and its receiver.
pub record Letter (M : Type 0) : Type 0 where
  pub by : ℕ
  pub to : ℕ
  pub word : M

-- A replica is down, with nothing kept, or up with its state.
pub data House (Mind : Type 0) : Type 0 where
  gone : House Mind
  there : Mind → House Mind

-- A call that came in at a replica and is not answered yet.
pub record Waits : Type 0 where
  pub house : ℕ
  pub number : ℕ

-- All that there is at one moment. frail: which replicas are down or have not yet told that they recovered; letters: every message ever sent, since
-- each may come late, again, or never; waits: the calls of replicas that are up, not answered; drawn: the incarnations used so far.
pub record Scene (Mind M : Type 0) : Type 0 where
  pub house : ℕ → House Mind
  pub frail : ℕ → Bool
  pub letters : List (Letter M)
  pub waits : List Waits
  pub drawn : List ℕ

-- What clients see: a call that comes in, and an answer that is given.
pub data Seen (O R : Type 0) : Type 0 where
  asked : (house number : ℕ) → O → Seen O R
  gave : (house number : ℕ) → R → Seen O R

-- the function f, changed to x at i
abbrev pub at : {A : Type 0} → ℕ → A → (ℕ → A) → ℕ → A
at i x f j = cond (j == i) x (f j)

-- the messages, and the answers, among the outputs of replica i
unfoldable pub posted : {M R : Type 0} → ℕ → List (Does M R) → List (Letter M)
posted i [] = []
posted i (Says j m ∷ ds) = record { by = i; to = j; word = m } ∷ posted i ds
posted i (Gives k r ∷ ds) = posted i ds
posted i (Whole' ∷ ds) = posted i ds

unfoldable pub given : {M O R : Type 0} → ℕ → List (Does M R) → List (Seen O R)
given i [] = []
given i (Says j m ∷ ds) = given i ds
given i (Gives k r ∷ ds) = gave i k r ∷ given i ds
given i (Whole' ∷ ds) = given i ds

-- does it tell that it has recovered
unfoldable pub whole : {M R : Type 0} → List (Does M R) → Bool
whole [] = false
whole (Says j m ∷ ds) = whole ds
whole (Gives k r ∷ ds) = whole ds
whole (Whole' ∷ ds) = true

-- what still waits: without one call; without all that were just answered; without those of a replica that went down
unfoldable pub without : (house number : ℕ) → List Waits → List Waits
without i k [] = []
without i k (a ∷ as') = cond (i == a.house && k == a.number) (without i k as') (a ∷ without i k as')

unfoldable pub answered_off : {M R : Type 0} → ℕ → List (Does M R) → List Waits → List Waits
answered_off i [] ws = ws
answered_off i (Says j m ∷ ds) ws = answered_off i ds ws
answered_off i (Gives k r ∷ ds) ws = answered_off i ds (without i k ws)
answered_off i (Whole' ∷ ds) ws = answered_off i ds ws

unfoldable pub left_by : ℕ → List Waits → List Waits
left_by i [] = []
left_by i (a ∷ as') = cond (i == a.house) (left_by i as') (a ∷ left_by i as')

-- how many calls wait at a replica
unfoldable pub count_of : ℕ → List Waits → ℕ
count_of i [] = 0
count_of i (a ∷ as') = cond (i == a.house) (1 + count_of i as') (count_of i as')

-- was a call with this number ever made
unfoldable pub was_asked : {O R : Type 0} → ℕ → List (Seen O R) → Bool
was_asked k [] = false
was_asked k (asked i n o ∷ es) = k == n || was_asked k es
was_asked k (gave i n r ∷ es) = was_asked k es

-- how many of the first n pass
unfoldable pub how_many : ℕ → (ℕ → Bool) → ℕ
how_many zero f = 0
how_many (suc n) f = cond (f n) (1 + how_many n f) (how_many n f)

-- the scene after a turn of replica i with this result
abbrev pub turned : {M O R : Type 0} → (c : Code M O R) → ℕ → record { does : List (Does M R); mind : c.Mind } → Scene c.Mind M → Scene c.Mind M
turned {M} {O} {R} c i x s =
    record { house = at i (there x.mind) s.house; frail = at i (s.frail i && not (whole x.does)) s.frail; letters = posted i x.does ++ s.letters; waits = answered_off i x.does s.waits; drawn = s.drawn }

abbrev pub with_call : {Mind M : Type 0} → (house number : ℕ) → Scene Mind M → Scene Mind M
with_call i k s = record { house = s.house; frail = s.frail; letters = s.letters; waits = record { house = i; number = k } ∷ s.waits; drawn = s.drawn }

unfoldable pub is_in : ℕ → List ℕ → Bool
is_in i [] = false
is_in i (x ∷ xs) = i == x || is_in i xs

-- a fresh incarnation: any number of 64 bits that was not drawn before
abbrev pub New : {Mind M : Type 0} → ℕ → Scene Mind M → Type 0
New r s = (r < 18446744073709551616) × T (not (is_in r s.drawn))

abbrev pub woken : {M O R : Type 0} → (c : Code M O R) → (all i chance : ℕ) → Scene c.Mind M → Scene c.Mind M
woken {M} {O} {R} c all i r s = record { house = at i (there (c.wakes i all r)) s.house; frail = s.frail; letters = s.letters; waits = s.waits; drawn = r ∷ s.drawn }

abbrev pub fallen : {Mind M : Type 0} → ℕ → Scene Mind M → Scene Mind M
fallen i s = record { house = at i gone s.house; frail = at i true s.frail; letters = s.letters; waits = left_by i s.waits; drawn = s.drawn }

-- RUNS. Everything that can happen with `all` replicas, in n steps: Goes c all n es s says that a run of the program c can show clients es (newest first) and end in the scene s.
-- At the first beginning all replicas are up and none is frail. hears: any message that was ever sent may come, once or often; isAsked: a call under a number not used before; beats: a tick;
-- falls: a replica loses all that it had, only if with it fewer than half are frail; wakes: it comes up again with a fresh incarnation and nothing else.
pub data Goes {M O R : Type 0} (c : Code M O R) (all : ℕ) : ℕ → List (Seen O R) → Scene c.Mind M → Type 0 where
  first : Goes c all 0 [] (record { house = λ i. there (c.wakes i all 0); frail = λ i. false; letters = []; waits = []; drawn = 0 ∷ [] })
  hears : {n : ℕ} {es : List (Seen O R)} {s : Scene c.Mind M} (i : ℕ) (m : c.Mind) (l : Letter M) → i < all → Goes c all n es s → s.house i ≡ there m → Memᴰ l s.letters → l.to ≡ i →
      Goes c all (suc n) (given i (c.turns (Said l.by l.word) m).does ++ es) (turned c i (c.turns (Said l.by l.word) m) s)
  is_asked : {n : ℕ} {es : List (Seen O R)} {s : Scene c.Mind M} (i k : ℕ) (o : O) (m : c.Mind) → i < all → k < 18446744073709551616 → Goes c all n es s → s.house i ≡ there m → T (not (was_asked k es)) →
      Goes c all (suc n) (given i (c.turns (Call' k o) m).does ++ asked i k o ∷ es) (turned c i (c.turns (Call' k o) m) (with_call i k s))
  beats : {n : ℕ} {es : List (Seen O R)} {s : Scene c.Mind M} (i : ℕ) (m : c.Mind) → i < all → Goes c all n es s → s.house i ≡ there m → Goes c all (suc n) (given i (c.turns Beat m).does ++ es) (turned c i (c.turns Beat m) s)
  falls : {n : ℕ} {es : List (Seen O R)} {s : Scene c.Mind M} (i : ℕ) (m : c.Mind) → i < all → Goes c all n es s → s.house i ≡ there m → 2 * how_many all (at i true s.frail) < all → Goes c all (suc n) es (fallen i s)
  wakes : {n : ℕ} {es : List (Seen O R)} {s : Scene c.Mind M} (i r : ℕ) → i < all → New r s → Goes c all n es s → s.house i ≡ gone → Goes c all (suc n) es (woken c all i r s)
