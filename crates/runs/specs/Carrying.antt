-- The same program over messages as bytes: what it says is written, and what comes is read; what can't be read is dropped.
-- Assumes nothing.
use Rattle.std.specs.Prelude.{◌≡◌, ℕ, ◌<◌, ◌≤◌, List, [], ◌∷◌, Some, None, Option}
use mathlib.Core.List.{Memᴰ}
use Rattle.runs.specs.Replicas.{Comes, Said, Call', Beat, Does, Says, Gives, Whole', Code, Letter, Scene, there, Seen, Goes}

-- how messages are written, and read by a replica in a state; N: what they are written as
pub record Writing {M O R : Type 0} (c : Code M O R) (N : Type 0) : Type 0 where
  pub write : M → N
  pub read : c.Mind → N → Option M

unfoldable pub written : {M N R : Type 0} → (M → N) → List (Does M R) → List (Does N R)
written f [] = []
written f (Says j w ∷ ds) = Says j (f w) ∷ written f ds
written f (Gives k r ∷ ds) = Gives k r ∷ written f ds
written f (Whole' ∷ ds) = Whole' ∷ written f ds

-- a turn, with what it says written out
abbrev pub written_turn : {M O R N : Type 0} → (c : Code M O R) → (M → N) → Comes M O → c.Mind → record { does : List (Does N R); mind : c.Mind }
written_turn c f x m = record { does = written f (c.turns x m).does; mind = (c.turns x m).mind }

unfoldable pub hears_written : {M O R N : Type 0} → (c : Code M O R) → (M → N) → ℕ → Option M → c.Mind → record { does : List (Does N R); mind : c.Mind }
hears_written c f j None m = record { does = []; mind = m }
hears_written c f j (Some w) m = written_turn c f (Said j w) m

unfoldable pub turns_written : {M O R N : Type 0} → (c : Code M O R) → Writing c N → Comes N O → c.Mind → record { does : List (Does N R); mind : c.Mind }
turns_written c e (Said j bs) m = hears_written c e.write j (e.read m bs) m
turns_written c e (Call' k o) m = written_turn c e.write (Call' k o) m
turns_written c e Beat m = written_turn c e.write Beat m

abbrev pub over_writing : {M O R N : Type 0} → (c : Code M O R) → Writing c N → Code N O R
over_writing c e = record { Mind = c.Mind; wakes = c.wakes; turns = turns_written c e }

-- whatever was said in a run is read again, by whoever is up, as what was said
abbrev pub ReadsAgain : {M O R N : Type 0} → (c : Code M O R) → Writing c N → Type 0
ReadsAgain {M} {O} {R} c e =
    (all n : ℕ) (es : List (Seen O R)) (s : Scene c.Mind M) → Goes c all n es s → (i : ℕ) (m : c.Mind) → s.house i ≡ there m → (l : Letter M) → Memᴰ l s.letters → e.read m (e.write l.word) ≡ Some l.word

-- the same of runs of at most seven replicas, by one of them
abbrev pub ReadsAgainOfSeven : {M O R N : Type 0} → (c : Code M O R) → Writing c N → Type 0
ReadsAgainOfSeven {M} {O} {R} c e =
    (all n : ℕ) → all ≤ 7 → (es : List (Seen O R)) (s : Scene c.Mind M) → Goes c all n es s → (i : ℕ) (m : c.Mind) → i < all → s.house i ≡ there m → (l : Letter M) → Memᴰ l s.letters → e.read m (e.write l.word) ≡ Some l.word
