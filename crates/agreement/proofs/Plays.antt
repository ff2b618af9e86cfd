-- Runs are played from a script: an act that may happen is a step of `Goes`, one that may not is passed over. So a run is a term, and what clients see of it is computed.
use Rattle.std.proofs.Common.{◌≡◌, ℕ, zero, suc, ◌*◌, ◌<◌, Bool, true, false, not, ◌&&◌, T, eqb, ltb, List, [], ◌∷◌, Some, None, Option, refl}
use mathlib.Core.List.{Memᴰ}
use Rattle.std.proofs.lemmas.Bool.{and_parts, ltb-true, eqb-true}
use Rattle.runs.specs.Replicas.{Letter, House, gone, there, Scene, Seen, at, how_many, was_asked, is_in, Goes, first, hears, is_asked, beats, falls, wakes}
use Rattle.agreement.specs.Content.{Service, limit}
use Rattle.agreement.specs.Machine.{Msg, Mind, code}

-- hear i j k: replica i hears the letter of j that is the k-th newest to it (0 is the newest). ask i n o: it is asked o under the number n. tick, fall, wake by the incarnation x
pub data Act (O : Type 0) : Type 0 where
  hear : (i j k : ℕ) → Act O
  ask : (i n : ℕ) → O → Act O
  tick : (i : ℕ) → Act O
  fall : (i : ℕ) → Act O
  wake : (i x : ℕ) → Act O

pub record Run (sv : Service) (all : ℕ) : Type 0 where
  pub steps : ℕ
  pub seen : List (Seen sv.O sv.R)
  pub scene : Scene (Mind sv) (Msg sv)
  pub goes : Goes (code sv) all steps seen scene

-- a letter to i among those that there are
pub record Picked {sv : Service} (i : ℕ) (ls : List (Letter (Msg sv))) : Type 0 where
  pub letter : Letter (Msg sv)
  pub among : Memᴰ letter ls
  pub mine : letter.to ≡ i

abbrev further : {sv : Service} {i : ℕ} {l : Letter (Msg sv)} {ls : List (Letter (Msg sv))} → Option (Picked i ls) → Option (Picked i (l ∷ ls))
further None = None
further (Some p) = Some (record { letter = p.letter; among = Memᴰ.tail p.among; mine = p.mine })

-- l is the one that is meant, or another is
abbrev or_further : {sv : Service} {i : ℕ} {ls : List (Letter (Msg sv))} (l : Letter (Msg sv)) (j : ℕ) (here' : Bool) → Option (Picked i ls) → Option (Picked i ls) → (b : Bool) → (eqb l.by j && eqb l.to i) ≡ b → Option (Picked i (l ∷ ls))
or_further l j here' on less false e = further on
or_further l j true on less true e = Some (record { letter = l; among = Memᴰ.head refl; mine = eqb-true _ _ (and_parts _ _ e).1 })
or_further l j false on less true e = further less

abbrev pub pick : {sv : Service} (i j k : ℕ) (ls : List (Letter (Msg sv))) → Option (Picked i ls)
pick i j k [] = None
pick i j zero (l ∷ ls) = or_further l j true (pick i j zero ls) None (eqb l.by j && eqb l.to i) refl
pick i j (suc k) (l ∷ ls) = or_further l j false (pick i j (suc k) ls) (pick i j k ls) (eqb l.by j && eqb l.to i) refl

-- where a test holds
abbrev where_is : {A : Type 0} (b c : Bool) → b ≡ c → A → (b ≡ true → A) → A
where_is b true e no' yes' = yes' e
where_is b false e no' yes' = no'

abbrev where_true : {A : Type 0} (b : Bool) → A → (b ≡ true → A) → A
where_true b no' yes' = where_is b b refl no' yes'

pub is_t : (b : Bool) → b ≡ true → T b
is_t b e = rw e tt

module _ (sv : Service) (all : ℕ) where
  abbrev pub begins : Run sv all
  begins = record { steps = 0; seen = []; scene = _; goes = first }

  -- what the replica i does, if it is there
  abbrev heard : (r : Run sv all) (i : ℕ) → i < all → Option (Picked i r.scene.letters) → (h : House (Mind sv)) → r.scene.house i ≡ h → Run sv all
  heard r i lt None h e = r
  heard r i lt (Some p) gone e = r
  heard r i lt (Some p) (there m) e = record { steps = _; seen = _; scene = _; goes = hears i m p.letter lt r.goes e p.among p.mine }

  abbrev asked' : (r : Run sv all) (i n : ℕ) (o : sv.O) → i < all → n < limit → T (not (was_asked n r.seen)) → (h : House (Mind sv)) → r.scene.house i ≡ h → Run sv all
  asked' r i n o lt fits new gone e = r
  asked' r i n o lt fits new (there m) e = record { steps = _; seen = _; scene = _; goes = is_asked i n o m lt fits r.goes e new }

  abbrev ticked : (r : Run sv all) (i : ℕ) → i < all → (h : House (Mind sv)) → r.scene.house i ≡ h → Run sv all
  ticked r i lt gone e = r
  ticked r i lt (there m) e = record { steps = _; seen = _; scene = _; goes = beats i m lt r.goes e }

  abbrev fell : (r : Run sv all) (i : ℕ) → i < all → 2 * how_many all (at i true r.scene.frail) < all → (h : House (Mind sv)) → r.scene.house i ≡ h → Run sv all
  fell r i lt few gone e = r
  fell r i lt few (there m) e = record { steps = _; seen = _; scene = _; goes = falls i m lt r.goes e few }

  abbrev woke' : (r : Run sv all) (i x : ℕ) → i < all → x < limit → T (not (is_in x r.scene.drawn)) → (h : House (Mind sv)) → r.scene.house i ≡ h → Run sv all
  woke' r i x lt fits new gone e = record { steps = _; seen = _; scene = _; goes = wakes i x lt (fits, new) r.goes e }
  woke' r i x lt fits new (there m) e = r

  abbrev act : Act sv.O → Run sv all → Run sv all
  act (hear i j k) r = where_true (ltb i all) r (λ e. heard r i (ltb-true _ _ e) (pick i j k r.scene.letters) (r.scene.house i) refl)
  act (ask i n o) r = where_true (ltb i all) r (λ e. where_true (ltb n limit) r (λ f. where_true (not (was_asked n r.seen)) r (λ g. asked' r i n o (ltb-true _ _ e) (ltb-true _ _ f) (is_t _ g) (r.scene.house i) refl)))
  act (tick i) r = where_true (ltb i all) r (λ e. ticked r i (ltb-true _ _ e) (r.scene.house i) refl)
  act (fall i) r = where_true (ltb i all) r (λ e. where_true (ltb (2 * how_many all (at i true r.scene.frail)) all) r (λ f. fell r i (ltb-true _ _ e) (ltb-true _ _ f) (r.scene.house i) refl))
  act (wake i x) r = where_true (ltb i all) r (λ e. where_true (ltb x limit) r (λ f. where_true (not (is_in x r.scene.drawn)) r (λ g. woke' r i x (ltb-true _ _ e) (ltb-true _ _ f) (is_t _ g) (r.scene.house i) refl)))

  -- one act after the other
  abbrev pub play : List (Act sv.O) → Run sv all → Run sv all
  play [] r = r
  play (a ∷ as') r = play as' (act a r)
