-- One turn of a loop that keeps some entries. Assumes nothing.
use Rattle.std.proofs.Common.{◌≡◌, ℕ, ◌+◌, ◌<◌, ◌≤◌, Bool, true, false, cond, List, [], ◌∷◌, ◌++◌, length, get_or, take, sym, refl, ap, ◌∙◌, ⊎_elim, append-nil}
use Rattle.std.proofs.lemmas.List.{take_more, take_all}
use Rattle.std.proofs.lemmas.Bool.{cond-true, cond-false, cases_Bool}
use Rattle.model.specs.Tree.{keep}

module _ {A : Type 0} (f : A → Bool) where
  keep_push : (xs : List A) (x : A) → keep f (xs ++ x ∷ []) ≡ keep f xs ++ cond (f x) (x ∷ []) []
  unfolding keep
  keep_push [] x = refl
  keep_push (y ∷ xs) x =
      ⊎_elim
      (λ t. cond-true (f y) _ _ t ∙ ap (λ l. y ∷ l) (keep_push xs x) ∙ ap (λ l. l ++ cond (f x) (x ∷ []) []) (sym (cond-true (f y) (y ∷ keep f xs) (keep f xs) t)))
      (λ t. cond-false (f y) _ _ t ∙ keep_push xs x ∙ ap (λ l. l ++ cond (f x) (x ∷ []) []) (sym (cond-false (f y) (y ∷ keep f xs) (keep f xs) t)))
      (cases_Bool (f y))

  pub keep_none : (xs : List A) → [] ≡ keep f (take 0 xs)
  unfolding keep
  keep_none xs = refl

  module _ (xs : List A) (i : ℕ) (x : A) (l : i < length xs) (is : get_or xs i x ≡ x) where
    step : keep f (take (i + 1) xs) ≡ keep f (take i xs) ++ cond (f x) (x ∷ []) []
    step = ap (keep f) (take_more xs i x l ∙ ap (λ y. take i xs ++ y ∷ []) is) ∙ keep_push (take i xs) x

    pub keep_more : f x ≡ true → keep f (take i xs) ++ x ∷ [] ≡ keep f (take (i + 1) xs)
    keep_more t = sym (step ∙ ap (λ c. keep f (take i xs) ++ c) (cond-true (f x) (x ∷ []) [] t))

    pub keep_skip : f x ≡ false → keep f (take i xs) ≡ keep f (take (i + 1) xs)
    keep_skip t = sym (step ∙ ap (λ c. keep f (take i xs) ++ c) (cond-false (f x) (x ∷ []) [] t) ∙ append-nil (keep f (take i xs)))

  pub keep_all : (xs : List A) (i : ℕ) → length xs ≤ i → keep f (take i xs) ≡ keep f xs
  keep_all xs i l = ap (keep f) (take_all i xs l)
