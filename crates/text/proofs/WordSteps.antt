-- A line's first word ends where its first space stands.
use Rattle.std.proofs.Common.{◌≡◌, ℕ, suc, ◌+◌, ◌≤◌, Bool, true, false, cond, not, eqb, ltb, List, [], ◌∷◌, length, take, drop, Some, None, Option, refl, sym, ap, ◌∙◌, arith}
use Rattle.std.specs.List.{position, position_or_len}
use Rattle.std.proofs.lemmas.Bool.{cond_both}
use Rattle.std.proofs.lemmas.Bool.Decides.{nat_tests}
use Rattle.std.proofs.lemmas.List.{take_all, drop_all}
use Rattle.text.specs.Words.{word_of, rest_of}

-- what a place that was found, or none, says of where the first one stands
pub found_at : (p : ℕ → Bool) (xs : List ℕ) (i : ℕ) → Some i ≡ position p xs → position_or_len p xs ≡ i
found_at p xs i e = cond_both (ltb (position_or_len p xs) (length xs)) (Some (position_or_len p xs)) None (λ (o : Option ℕ). Some i ≡ o → position_or_len p xs ≡ i) (λ _ e. cc) (λ _ e. cc) e

pub found_none : (p : ℕ → Bool) (xs : List ℕ) → None ≡ position p xs → length xs ≤ position_or_len p xs
found_none p xs e = grind (arith, nat_tests)

-- what stands before the first one, and what stands from it on
pub front_is : (p : ℕ → Bool) (front : List ℕ → List ℕ) → front [] ≡ [] → ((c : ℕ) (cs : List ℕ) → front (c ∷ cs) ≡ cond (p c) [] (c ∷ front cs)) →
    (xs : List ℕ) → take (position_or_len p xs) xs ≡ front xs
front_is p front none step [] = sym none
front_is p front none step (c ∷ cs) = go (p c) (position_or_len p cs) (front_is p front none step cs) ∙ sym (step c cs)
  where
    go : (b : Bool) (n : ℕ) → take n cs ≡ front cs → take (cond (not b) (1 + n) 0) (c ∷ cs) ≡ cond b [] (c ∷ front cs)
    go true n e = refl
    go false n e = ap (λ (m : ℕ). take m (c ∷ cs)) (let one : 1 + n ≡ suc n = omega arith in one) ∙ ap (λ (ys : List ℕ). c ∷ ys) e

pub back_is : (p : ℕ → Bool) (back : List ℕ → List ℕ) → back [] ≡ [] → ((c : ℕ) (cs : List ℕ) → back (c ∷ cs) ≡ cond (p c) (c ∷ cs) (back cs)) →
    (xs : List ℕ) → drop (position_or_len p xs) xs ≡ back xs
back_is p back none step [] = sym none
back_is p back none step (c ∷ cs) = go (p c) (position_or_len p cs) (back_is p back none step cs) ∙ sym (step c cs)
  where
    go : (b : Bool) (n : ℕ) → drop n cs ≡ back cs → drop (cond (not b) (1 + n) 0) (c ∷ cs) ≡ cond b (c ∷ cs) (back cs)
    go true n e = refl
    go false n e = ap (λ (m : ℕ). drop m (c ∷ cs)) (let one : 1 + n ≡ suc n = omega arith in one) ∙ e

abbrev pub space : ℕ → Bool
space c = eqb c 32

word_is : (xs : List ℕ) → take (position_or_len space xs) xs ≡ word_of xs
unfolding word_of
word_is = front_is space word_of refl (λ c cs. refl)

rest_is : (xs : List ℕ) → drop (1 + position_or_len space xs) xs ≡ rest_of xs
unfolding rest_of
rest_is [] = refl
rest_is (c ∷ cs) = go (space c) (position_or_len space cs) (rest_is cs)
  where
    go : (b : Bool) (p : ℕ) → drop (1 + p) cs ≡ rest_of cs → drop (1 + cond (not b) (1 + p) 0) (c ∷ cs) ≡ cond b cs (rest_of cs)
    go true p e = refl
    go false p e = ap (λ (n : ℕ). drop n (c ∷ cs)) (let one : 1 + (1 + p) ≡ suc (1 + p) = omega arith in one) ∙ e

pub word_cut : (xs : List ℕ) (i : ℕ) → Some i ≡ position space xs → (take i xs ≡ word_of xs) × (drop (i + 1) xs ≡ rest_of xs)
word_cut xs i e =
    let at = found_at space xs i e in (
      ap (λ (n : ℕ). take n xs) (sym at) ∙ word_is xs,
      ap (λ (n : ℕ). drop n xs) (let e : i + 1 ≡ 1 + position_or_len space xs = omega arith in e) ∙ rest_is xs,
    )

pub word_whole : (xs : List ℕ) → None ≡ position space xs → (xs ≡ word_of xs) × ([] ≡ rest_of xs)
word_whole xs e =
    let long = found_none space xs e in (
      sym (take_all (position_or_len space xs) xs long) ∙ word_is xs,
      sym (drop_all (1 + position_or_len space xs) xs (omega arith)) ∙ rest_is xs,
    )
