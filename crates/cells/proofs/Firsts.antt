-- The first that passes, and what follows of it. Assumes nothing.
use Rattle.std.proofs.Common.{◌≡◌, ℕ, zero, suc, ◌+◌, ◌<◌, ◌≤◌, Bool, true, false, ◌||◌, List, [], ◌∷◌, ◌++◌, length, get_or, take, drop, is_some, Some, None, Option, sym, refl, ap, ◌∙◌, add-one, arith}
use Rattle.std.proofs.lemmas.List.{take_more, take_all}
use Rattle.std.proofs.lemmas.Bool.{or_from, or_parts, cond-true, cond-false}
use Rattle.model.specs.Tree.{some, find, change}
use Rattle.cells.specs.Searches.{First, Found}

module _ {A : Type 0} (f : A → Bool) where
  pub some_append : (xs ys : List A) → some f xs ≡ false → some f ys ≡ false → some f (xs ++ ys) ≡ false
  unfolding some
  some_append [] ys h k = k
  some_append (x ∷ xs) ys h k = let both = or_parts (f x) (some f xs) h in or_from (f x) (some f (xs ++ ys)) both.0 (some_append xs ys both.1 k)

  pub some_none : (xs : List A) → some f (take 0 xs) ≡ false
  unfolding some
  some_none xs = refl

  pub some_more : (xs : List A) (i : ℕ) (d : A) → i < length xs → some f (take i xs) ≡ false → f (get_or xs i d) ≡ false → some f (take (i + 1) xs) ≡ false
  unfolding some
  some_more xs i d l h k = rw (take_more xs i d l) (some_append (take i xs) (get_or xs i d ∷ []) h (or_from (f (get_or xs i d)) false k refl))

  pub some_all : (xs : List A) (i : ℕ) → length xs ≤ i → some f (take i xs) ≡ false → some f xs ≡ false
  some_all xs i l h = rw (take_all i xs l) at h

  first_suc : (x : A) (xs : List A) (i : ℕ) → First f (x ∷ xs) (suc i) → (f x ≡ false) × First f xs i
  unfolding some
  first_suc x xs i h = let both = or_parts (f x) (some f (take i xs)) h.before in (both.0, record { within = omega (arith, h.within); before = both.1; here = h.here })

  pub find_first : (xs : List A) (i : ℕ) (d : A) → First f xs i → find f xs ≡ get_or xs i d ∷ []
  unfolding find
  find_first [] i d h = absurd (omega (arith, h.within))
  find_first (x ∷ xs) zero d h = cond-true (f x) _ _ (h.here d)
  find_first (x ∷ xs) (suc i) d h = let k = first_suc x xs i h in cond-false (f x) _ _ k.0 ∙ find_first xs i d k.1

  pub some_first : (xs : List A) (i : ℕ) → First f xs i → some f xs ≡ true
  unfolding some
  some_first [] i h = absurd (omega (arith, h.within))
  some_first (x ∷ xs) zero h = rw (h.here x)
  some_first (x ∷ xs) (suc i) h = let k = first_suc x xs i h in rw k.0 (some_first xs i k.1)

  pub find_not : (xs : List A) → some f xs ≡ false → find f xs ≡ []
  unfolding find some
  find_not [] h = refl
  find_not (x ∷ xs) h = let both = or_parts (f x) (some f xs) h in cond-false (f x) _ _ both.0 ∙ find_not xs both.1

  pub change_first : (g : A → A) (xs : List A) (i : ℕ) (d : A) → First f xs i → change f g xs ≡ take i xs ++ g (get_or xs i d) ∷ drop (i + 1) xs
  unfolding change
  change_first g [] i d h = absurd (omega (arith, h.within))
  change_first g (x ∷ xs) zero d h = cond-true (f x) _ _ (h.here d)
  change_first g (x ∷ xs) (suc i) d h =
      let k = first_suc x xs i h in
      rw (add-one (suc i)) (cond-false (f x) _ _ k.0 ∙ ap (λ ys. x ∷ ys) (rw (add-one i) at (change_first g xs i d k.1)))

  -- one that passes is enough
  pub some_here : (xs : List A) (i : ℕ) (d : A) → i < length xs → f (get_or xs i d) ≡ true → some f xs ≡ true
  unfolding some
  some_here [] i d l h = absurd (omega arith)
  some_here (x ∷ xs) zero d l h = rw h refl
  some_here (x ∷ xs) (suc i) d l h = cases_or (f x) (some f xs) (some_here xs i d (omega arith) h)
    where
      cases_or : (a b : Bool) → b ≡ true → a || b ≡ true
      cases_or true b e = refl
      cases_or false b e = e

  -- a search finds something where one passes
  pub found_some : (xs : List A) (r : Option ℕ) → Found f xs r → is_some r ≡ some f xs
  found_some xs None h = sym h
  found_some xs (Some i) h = sym (some_first xs i h)
