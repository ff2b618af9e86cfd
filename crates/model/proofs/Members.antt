-- The tests of lists that the tree's definitions are made of (some, every, keep, change, find), said of members: what is in a list, and what is in it afterwards. Assumes nothing.
use Rattle.std.proofs.Common.{◌≡◌, Bool, true, false, ◌||◌, ◌⊎◌, List, [], ◌∷◌, ◌++◌, sym, refl, ap, ◌∙◌, inl, inr, ⊎_elim}
use mathlib.Core.List.Memᴰ
use mathlib.Core.List.{Memᴰ}
use Rattle.std.proofs.lemmas.Bool.{and_parts, and_from, or_cases, or_left, or_right, cases_Bool, cond_both, cond-true, cond-false, false≢true}
use Rattle.model.specs.Tree.{some, every, keep, change, find}

module _ {A : Type 0} (f : A → Bool) where
  pub every_member : (xs : List A) (x : A) → every f xs ≡ true → Memᴰ x xs → f x ≡ true
  unfolding every
  every_member [] x h m = absurd (Memᴰ.not-nil m)
  every_member (y ∷ xs) x h m =
      let both = and_parts (f y) (every f xs) h in
      ⊎_elim (λ e. ap f e ∙ both.0) (every_member xs x both.1) (Memᴰ.cases_cons m)

  pub every_from : (xs : List A) → ((x : A) → Memᴰ x xs → f x ≡ true) → every f xs ≡ true
  unfolding every
  every_from [] h = refl
  every_from (y ∷ xs) h = and_from (f y) (every f xs) (h y (Memᴰ.head refl)) (every_from xs (λ x m. h x (Memᴰ.tail m)))

  pub some_member : (xs : List A) → some f xs ≡ true → (x : A) × Memᴰ x xs × (f x ≡ true)
  unfolding some
  some_member [] h = absurd (false≢true h)
  some_member (y ∷ xs) h =
      ⊎_elim (λ e. (y, Memᴰ.head refl, e)) (λ e. let r = some_member xs e in (r.0, Memᴰ.tail r.1, r.2)) (or_cases (f y) (some f xs) h)

  pub some_from : (xs : List A) (x : A) → Memᴰ x xs → f x ≡ true → some f xs ≡ true
  unfolding some
  some_from [] x m h = absurd (Memᴰ.not-nil m)
  some_from (y ∷ xs) x m h =
      ⊎_elim (λ e. or_left (f y) (some f xs) (ap f (sym e) ∙ h)) (λ r. or_right (f y) (some f xs) (some_from xs x r h)) (Memᴰ.cases_cons m)

  pub none_pass : (xs : List A) (x : A) → some f xs ≡ false → Memᴰ x xs → f x ≡ false
  none_pass xs x h m = ⊎_elim (λ e. absurd (false≢true (sym h ∙ some_from xs x m e))) (λ e. e) (cases_Bool (f x))

  pub kept_member : (xs : List A) (x : A) → Memᴰ x (keep f xs) → Memᴰ x xs × (f x ≡ true)
  unfolding keep
  kept_member [] x m = absurd (Memᴰ.not-nil m)
  kept_member (y ∷ xs) x m =
      cond_both (f y) (y ∷ keep f xs) (keep f xs) (λ l. Memᴰ x l → Memᴰ x (y ∷ xs) × (f x ≡ true))
      (λ e h. ⊎_elim (λ q. (Memᴰ.head q, ap f q ∙ e)) (λ r. let k = kept_member xs x r in (Memᴰ.tail k.0, k.1)) (Memᴰ.cases_cons h))
      (λ e h. let k = kept_member xs x h in (Memᴰ.tail k.0, k.1)) m

  pub member_kept : (xs : List A) (x : A) → Memᴰ x xs → f x ≡ true → Memᴰ x (keep f xs)
  unfolding keep
  member_kept [] x m h = absurd (Memᴰ.not-nil m)
  member_kept (y ∷ xs) x m h =
      cond_both (f y) (y ∷ keep f xs) (keep f xs) (Memᴰ x)
      (λ e. ⊎_elim (λ q. Memᴰ.head q) (λ r. Memᴰ.tail (member_kept xs x r h)) (Memᴰ.cases_cons m))
      (λ e. ⊎_elim (λ q. absurd (false≢true (sym e ∙ ap f (sym q) ∙ h))) (λ r. member_kept xs x r h) (Memᴰ.cases_cons m))

  -- what a change leaves is what was there, or the changed one of what was there
  pub changed_member : (g : A → A) (xs : List A) (y : A) → Memᴰ y (change f g xs) → Memᴰ y xs ⊎ ((x : A) × Memᴰ x xs × (f x ≡ true) × (y ≡ g x))
  unfolding change
  changed_member g [] y m = absurd (Memᴰ.not-nil m)
  changed_member g (x ∷ xs) y m =
      cond_both (f x) (g x ∷ xs) (x ∷ change f g xs) (λ l. Memᴰ y l → Memᴰ y (x ∷ xs) ⊎ ((z : A) × Memᴰ z (x ∷ xs) × (f z ≡ true) × (y ≡ g z)))
      (λ e h. ⊎_elim (λ q. inr (x, Memᴰ.head refl, e, q)) (λ r. inl (Memᴰ.tail r)) (Memᴰ.cases_cons h))
      (λ e h.
      ⊎_elim (λ q. inl (Memᴰ.head q))
      (λ r. ⊎_elim (λ k. inl (Memᴰ.tail k)) (λ k. inr (k.0, Memᴰ.tail k.1, k.2, k.3)) (changed_member g xs y r)) (Memᴰ.cases_cons h))
      m

  -- what was there is there still, or its changed one is
  pub member_changed : (g : A → A) (xs : List A) (x : A) → Memᴰ x xs → Memᴰ x (change f g xs) ⊎ Memᴰ (g x) (change f g xs)
  unfolding change
  member_changed g [] x m = absurd (Memᴰ.not-nil m)
  member_changed g (y ∷ xs) x m =
      cond_both (f y) (g y ∷ xs) (y ∷ change f g xs) (λ l. Memᴰ x l ⊎ Memᴰ (g x) l)
      (λ e. ⊎_elim (λ q. inr (Memᴰ.head (ap g q))) (λ r. inl (Memᴰ.tail r)) (Memᴰ.cases_cons m))
      (λ e.
      ⊎_elim (λ q. inl (Memᴰ.head q))
      (λ r. ⊎_elim (λ k. inl (Memᴰ.tail k)) (λ k. inr (Memᴰ.tail k)) (member_changed g xs x r)) (Memᴰ.cases_cons m))

  -- a test that the change does not touch is passed by some before and after
  pub some_changed : (h : A → Bool) (g : A → A) → ((x : A) → h (g x) ≡ h x) → (xs : List A) → some h (change f g xs) ≡ some h xs
  unfolding some change
  some_changed h g same [] = refl
  some_changed h g same (x ∷ xs) =
      cond_both (f x) (g x ∷ xs) (x ∷ change f g xs) (λ l. some h l ≡ h x || some h xs) (λ e. ap (λ (b : Bool). b || some h xs) (same x)) (λ e. ap (λ (b : Bool). h x || b) (some_changed h g same xs))

  -- the first that passes, after the change of just that one
  pub find_changed : (g : A → A) → ((x : A) → f (g x) ≡ f x) → (xs ys : List A) → some f xs ≡ true → (x : A) × (find f xs ≡ x ∷ []) × (find f (change f g xs ++ ys) ≡ g x ∷ []) × (f x ≡ true) × Memᴰ x xs
  unfolding some change find
  find_changed g same [] ys h = absurd (false≢true h)
  find_changed g same (x ∷ xs) ys h =
      ⊎_elim
      (λ e. (x, cond-true (f x) (x ∷ []) (find f xs) e, ap (λ (l : List A). find f (l ++ ys)) (cond-true (f x) (g x ∷ xs) (x ∷ change f g xs) e) ∙ cond-true (f (g x)) (g x ∷ []) (find f (xs ++ ys)) (same x ∙ e), e, Memᴰ.head refl))
      (λ e.
      let r = find_changed g same xs ys (ap (λ (b : Bool). b || some f xs) (sym e) ∙ h) in (
        r.0,
        cond-false (f x) (x ∷ []) (find f xs) e ∙ r.1,
        ap (λ (l : List A). find f (l ++ ys)) (cond-false (f x) (g x ∷ xs) (x ∷ change f g xs) e) ∙ cond-false (f x) (x ∷ []) (find f (change f g xs ++ ys)) e ∙ r.2,
        r.3,
        Memᴰ.tail r.4,
      ))
      (cases_Bool (f x))

  -- the first that passes is there, and passes
  pub find_member : (xs : List A) → some f xs ≡ true → (x : A) × (find f xs ≡ x ∷ []) × (f x ≡ true) × Memᴰ x xs
  find_member xs h = let r = find_changed (λ x. x) (λ x. refl) xs [] h in (r.0, r.1, r.3, r.4)
