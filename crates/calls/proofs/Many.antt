-- Several things of one kind, read one behind the other: what a loop over them keeps. Assumes nothing.
use Rattle.std.proofs.Common.{◌≡◌, ℕ, suc, ◌+◌, ◌-◌, ◌<◌, List, ◌∷◌, Some, None, Option, refl, ap, ◌∙◌, arith}
use Rattle.calls.specs.Format.{and_then, many_at}
use Rattle.calls.specs.Reading.{past, rest}

module _ {A : Type 0} (f : List ℕ → Option (A × List ℕ)) where
  past_suc : (k : ℕ) (xs : List ℕ) → past f (suc k) xs ≡ and_then (rest (f xs)) (past f k)
  unfolding many_at
  past_suc k xs = go (f xs)
    where
      inner : (x : A) (o : Option (List A × List ℕ)) → rest (and_then o (λ q. Some (x ∷ q.0, q.1))) ≡ rest o
      inner x None = refl
      inner x (Some q) = refl

      go : (o : Option (A × List ℕ)) → rest (and_then o (λ r. and_then (many_at f k r.1) (λ q. Some (r.0 ∷ q.0, q.1)))) ≡ and_then (rest o) (past f k)
      go None = refl
      go (Some r) = inner r.0 (many_at f k r.1)

  -- nothing is left to read
  pub past_end : (n i : ℕ) (xs : List ℕ) → n - i ≡ 0 → past f (n - i) xs ≡ Some xs
  unfolding many_at
  past_end n i xs e = ap (λ (k : ℕ). past f k xs) e

  module _ (n i : ℕ) (xs : List ℕ) (more : i < n) where
    -- one more was read
    pub past_step : (ys : List ℕ) → rest (f xs) ≡ Some ys → past f (n - i) xs ≡ past f (n - (i + 1)) ys
    past_step ys e =
        let s : n - i ≡ suc (n - (i + 1)) = omega arith in
        ap (λ (k : ℕ). past f k xs) s ∙ past_suc (n - (i + 1)) xs ∙ ap (λ (o : Option (List ℕ)). and_then o (past f (n - (i + 1)))) e

    -- one could not be read
    pub past_stop : rest (f xs) ≡ None → past f (n - i) xs ≡ None
    past_stop e =
        let s : n - i ≡ suc (n - (i + 1)) = omega arith in
        ap (λ (k : ℕ). past f k xs) s ∙ past_suc (n - (i + 1)) xs ∙ ap (λ (o : Option (List ℕ)). and_then o (past f (n - (i + 1)))) e
