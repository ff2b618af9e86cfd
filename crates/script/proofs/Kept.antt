-- What is kept of a list, one more at its end or taken from its front.
use Rattle.std.proofs.Common.{◌≡◌, ℕ, ◌+◌, ◌<◌, Bool, true, false, cond, List, [], ◌∷◌, ◌++◌, length, get_or, take, sym, refl, ap, ◌∙◌, append_assoc}
use Rattle.std.proofs.lemmas.Bool.{cond-true, cond-false}
use Rattle.std.proofs.lemmas.List.{append-nil, take_more}
use Rattle.model.specs.Tree.{keep}

module _ {A : Type 0} (f : A → Bool) where
  pub keep_append : (xs ys : List A) → keep f (xs ++ ys) ≡ keep f xs ++ keep f ys
  unfolding keep
  keep_append [] ys = refl
  keep_append (x ∷ xs) ys = go (f x) (keep_append xs ys)
    where
      go : (b : Bool) → keep f (xs ++ ys) ≡ keep f xs ++ keep f ys → cond b (x ∷ keep f (xs ++ ys)) (keep f (xs ++ ys)) ≡ cond b (x ∷ keep f xs) (keep f xs) ++ keep f ys
      go true e = ap (λ (zs : List A). x ∷ zs) e
      go false e = e

  pub keep_yes : (x : A) (xs : List A) → f x ≡ true → keep f (x ∷ xs) ≡ x ∷ keep f xs
  unfolding keep
  keep_yes x xs e = cond-true (f x) _ _ e

  pub keep_no : (x : A) (xs : List A) → f x ≡ false → keep f (x ∷ xs) ≡ keep f xs
  unfolding keep
  keep_no x xs e = cond-false (f x) _ _ e

  pub keep_none : keep f [] ≡ []
  unfolding keep
  keep_none = refl

  -- a loop that takes the first of what is left: it goes behind what was kept, or not
  pub takes : (all front left rest : List A) (x : A) → all ≡ front ++ keep f left → left ≡ x ∷ rest → f x ≡ true → all ≡ (front ++ (x ∷ [])) ++ keep f rest
  takes all front left rest x e s t = e ∙ (ap (λ (zs : List A). front ++ zs) (ap (keep f) s ∙ keep_yes x rest t) ∙ sym (append_assoc front (x ∷ []) (keep f rest)))

  pub leaves : (all front left rest : List A) (x : A) → all ≡ front ++ keep f left → left ≡ x ∷ rest → f x ≡ false → all ≡ front ++ keep f rest
  leaves all front left rest x e s t = e ∙ ap (λ (zs : List A). front ++ zs) (ap (keep f) s ∙ keep_no x rest t)

  pub ends : (all front left : List A) → all ≡ front ++ keep f left → left ≡ [] → front ≡ all
  ends all front left e s = sym (e ∙ (ap (λ (zs : List A). front ++ zs) (ap (keep f) s ∙ keep_none) ∙ append-nil front))

  -- a loop by the index: one more is kept, or not
  next : (xs : List A) (i : ℕ) (x : A) → i < length xs → x ≡ get_or xs i x → keep f (take (i + 1) xs) ≡ keep f (take i xs) ++ keep f (x ∷ [])
  next xs i x h e =
      ap (keep f) (take_more xs i x h) ∙ (keep_append (take i xs) (get_or xs i x ∷ []) ∙ ap (λ (y : A). keep f (take i xs) ++ keep f (y ∷ [])) (sym e))

  pub next_yes : (xs : List A) (i : ℕ) (x : A) → i < length xs → x ≡ get_or xs i x → f x ≡ true → keep f (take (i + 1) xs) ≡ keep f (take i xs) ++ (x ∷ [])
  next_yes xs i x h e t =
      next xs i x h e ∙ ap (λ (ys : List A). keep f (take i xs) ++ ys) (keep_yes x [] t ∙ ap (λ (ys : List A). x ∷ ys) keep_none)

  pub next_no : (xs : List A) (i : ℕ) (x : A) → i < length xs → x ≡ get_or xs i x → f x ≡ false → keep f (take (i + 1) xs) ≡ keep f (take i xs)
  next_no xs i x h e t =
      next xs i x h e ∙ (ap (λ (ys : List A). keep f (take i xs) ++ ys) (keep_no x [] t ∙ keep_none) ∙ append-nil (keep f (take i xs)))
