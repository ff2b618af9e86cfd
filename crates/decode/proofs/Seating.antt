-- Seats that are read one behind the other: what a loop over them keeps. Assumes nothing.
use Rattle.std.proofs.Common.{◌≡◌, ℕ, suc, ◌+◌, ◌-◌, ◌<◌, ◌≤◌, List, [], ◌∷◌, ◌++◌, length, take, set, Some, None, Option, sym, refl, ap, ◌∙◌, append_assoc, append-nil, arith, length-set}
use Rattle.std.proofs.lemmas.List.{take_more_set, take_all}
use Rattle.calls.specs.Format.{and_then}
use Rattle.service.specs.Service.{Outcome}
use Rattle.agreement.specs.declared.Place.{Place}
use Rattle.wire.specs.declared.types.Seats.{Seats}
use Rattle.wire.specs.Messages.{seated, place_at, outcome_at, seats_at}

-- seats in front of those that are read
abbrev pub behind_these : List Place → List (Option Outcome) → Option (Seats × List ℕ) → Option (Seats × List ℕ)
behind_these ps ks o = and_then o (λ s. Some (record { places = ps ++ s.0.places; outcomes = ks ++ s.0.outcomes }, s.1))

-- all that is read, after so many of seven
pub Seated : List ℕ → ℕ → List Place → List (Option Outcome) → List ℕ → Type 0
Seated bs i ps ks rest = (length ps ≡ 7) × (length ks ≡ 7) × (seats_at 7 bs ≡ behind_these (take i ps) (take i ks) (seats_at (7 - i) rest))

pub seated_none : (bs : List ℕ) (ps : List Place) (ks : List (Option Outcome)) → length ps ≡ 7 → length ks ≡ 7 → Seated bs 0 ps ks bs
unfolding Seated
seated_none bs ps ks l m = (l, m, go (seats_at 7 bs))
  where
    go : (o : Option (Seats × List ℕ)) → o ≡ behind_these [] [] o
    go None = refl
    go (Some s) = refl

-- one seat is read
pub seats_step : (n : ℕ) (bs : List ℕ) → seats_at (suc n) bs ≡ and_then (place_at bs) (λ q. and_then (outcome_at q.1) (λ k. and_then (seats_at n k.1) (λ s. Some (seated q.0 k.0 s.0, s.1))))
unfolding seats_at
seats_step n bs = refl

these_none : (ps : List Place) (ks : List (Option Outcome)) (o : Option (Seats × List ℕ)) → o ≡ None → behind_these ps ks o ≡ None
these_none ps ks o e = ap (behind_these ps ks) e

-- one seat moves to those in front
these_more : (ps : List Place) (ks : List (Option Outcome)) (q : Place) (k : Option Outcome) (o : Option (Seats × List ℕ)) →
    behind_these ps ks (and_then o (λ s. Some (seated q k s.0, s.1))) ≡ behind_these (ps ++ q ∷ []) (ks ++ k ∷ []) o
these_more ps ks q k None = refl
these_more ps ks q k (Some s) = λ i. Some (record { places = sym (append_assoc ps (q ∷ []) s.0.places) i; outcomes = sym (append_assoc ks (k ∷ []) s.0.outcomes) i }, s.1)

module _ (bs : List ℕ) (i : ℕ) (ps : List Place) (ks : List (Option Outcome)) (rest : List ℕ) (h : Seated bs i ps ks rest) where
  module _ (more : i < 7) where
    left : seats_at (7 - i) rest ≡ and_then (place_at rest) (λ q. and_then (outcome_at q.1) (λ k. and_then (seats_at (7 - (i + 1)) k.1) (λ s. Some (seated q.0 k.0 s.0, s.1))))
    left = let n : 7 - i ≡ suc (7 - (i + 1)) = omega arith in ap (λ (m : ℕ). seats_at m rest) n ∙ seats_step (7 - (i + 1)) rest

    -- there is no place, or no outcome behind it
    pub seated_stop : place_at rest ≡ None → seats_at 7 bs ≡ None
    unfolding Seated
    seated_stop e =
        h.2 ∙ these_none (take i ps) (take i ks) (seats_at (7 - i) rest)
        (left ∙ ap (λ (o : Option (Place × List ℕ)). and_then o (λ q. and_then (outcome_at q.1) (λ k. and_then (seats_at (7 - (i + 1)) k.1) (λ s. Some (seated q.0 k.0 s.0, s.1))))) e)

    module _ (q : Place) (as' : List ℕ) (e : place_at rest ≡ Some (q, as')) where
      left_then : seats_at (7 - i) rest ≡ and_then (outcome_at as') (λ k. and_then (seats_at (7 - (i + 1)) k.1) (λ s. Some (seated q k.0 s.0, s.1)))
      left_then = left ∙ ap (λ (o : Option (Place × List ℕ)). and_then o (λ q. and_then (outcome_at q.1) (λ k. and_then (seats_at (7 - (i + 1)) k.1) (λ s. Some (seated q.0 k.0 s.0, s.1))))) e

      pub seated_stop_behind : outcome_at as' ≡ None → seats_at 7 bs ≡ None
      unfolding Seated
      seated_stop_behind f =
          h.2 ∙ these_none (take i ps) (take i ks) (seats_at (7 - i) rest)
          (left_then ∙ ap (λ (o : Option (Option Outcome × List ℕ)). and_then o (λ k. and_then (seats_at (7 - (i + 1)) k.1) (λ s. Some (seated q k.0 s.0, s.1)))) f)

      pub seated_more : (k : Option Outcome) (next : List ℕ) → outcome_at as' ≡ Some (k, next) → Seated bs (i + 1) (set ps i q) (set ks i k) next
      unfolding Seated
      seated_more k next f =
          let is : seats_at (7 - i) rest ≡ and_then (seats_at (7 - (i + 1)) next) (λ s. Some (seated q k s.0, s.1)) =
          left_then ∙ ap (λ (o : Option (Option Outcome × List ℕ)). and_then o (λ k. and_then (seats_at (7 - (i + 1)) k.1) (λ s. Some (seated q k.0 s.0, s.1)))) f in (
            rw length-set h.0,
            rw length-set h.1,
            h.2 ∙ ap (behind_these (take i ps) (take i ks)) is ∙ these_more (take i ps) (take i ks) q k (seats_at (7 - (i + 1)) next) ∙
                (λ j. behind_these (sym (take_more_set ps i q (omega (arith, h.0))) j) (sym (take_more_set ks i k (omega (arith, h.1))) j) (seats_at (7 - (i + 1)) next)),
          )

  -- all were read
  pub seated_all : 7 ≤ i → seats_at 7 bs ≡ Some (record { places = ps; outcomes = ks }, rest)
  unfolding Seated seats_at
  seated_all l =
      let n : 7 - i ≡ 0 = omega arith in
      h.2 ∙ ap (λ (m : ℕ). behind_these (take i ps) (take i ks) (seats_at m rest)) n ∙
      (λ j. Some (record { places = (append-nil (take i ps) ∙ take_all i ps (omega (arith, h.0))) j; outcomes = (append-nil (take i ks) ∙ take_all i ks (omega (arith, h.1))) j }, rest))
