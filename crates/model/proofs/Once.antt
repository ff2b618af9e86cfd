-- Each path stands once: which changes keep that, and that two entries of one path are one. Assumes nothing.
use Rattle.std.proofs.Common.{◌≡◌, Bool, true, false, not, ◌&&◌, List, [], ◌∷◌, ◌++◌, sym, refl, ap, ◌∙◌, ⊎_elim}
use mathlib.Core.List.Memᴰ
use mathlib.Core.List.{Memᴰ}
use Rattle.std.proofs.lemmas.Bool.{and_parts, and_from, cases_Bool, cond_both, false≢true, not-true, not_from_false}
use Rattle.model.specs.Tree.{Path, Entry, some, keep, change, same_path, at}
use Rattle.model.specs.Laws.{paths_once}
use Rattle.model.proofs.Members.{some_member, some_from, kept_member, some_changed}
use Rattle.model.proofs.Same.{same_path_decides}

pub once_same : (xs : List Entry) (e f : Entry) → paths_once xs ≡ true → Memᴰ e xs → Memᴰ f xs → e.path ≡ f.path → e ≡ f
unfolding paths_once
once_same [] e f h m k p = absurd (Memᴰ.not-nil m)
once_same (x ∷ xs) e f h m k p =
    let both = and_parts (not (some (at x.path) xs)) (paths_once xs) h in
    let alone : (y : Entry) → Memᴰ y xs → x.path ≡ y.path → ⊥ =
    λ y q z. false≢true (sym (not-true (some (at x.path) xs) both.0) ∙ some_from (at x.path) xs y q ((same_path_decides x.path y.path).1 z)) in
    ⊎_elim
    (λ a. ⊎_elim (λ b. a ∙ sym b) (λ r. absurd (alone f r (ap (λ (y : Entry). y.path) (sym a) ∙ p))) (Memᴰ.cases_cons k))
    (λ r. ⊎_elim (λ b. absurd (alone e r (ap (λ (y : Entry). y.path) (sym b) ∙ sym p))) (λ q. once_same xs e f both.1 r q p) (Memᴰ.cases_cons k))
    (Memᴰ.cases_cons m)

pub once_changed : (f : Entry → Bool) (g : Entry → Entry) → ((e : Entry) → (g e).path ≡ e.path) → (xs : List Entry) → paths_once (change f g xs) ≡ paths_once xs
unfolding paths_once change
once_changed f g same [] = refl
once_changed f g same (x ∷ xs) =
    cond_both (f x) (g x ∷ xs) (x ∷ change f g xs) (λ l. paths_once l ≡ not (some (at x.path) xs) && paths_once xs)
    (λ e. ap (λ (p : Path). not (some (at p) xs) && paths_once xs) (same x))
    (λ e. λ i. not (some_changed f (at x.path) g (λ y. ap (same_path x.path) (same y)) xs i) && once_changed f g same xs i)

some_push : (h : Entry → Bool) (xs : List Entry) (x : Entry) → some h xs ≡ false → h x ≡ false → some h (xs ++ x ∷ []) ≡ false
some_push h xs x a b =
    ⊎_elim
    (λ t.
    let r = some_member h (xs ++ x ∷ []) t in
    ⊎_elim (λ m. absurd (false≢true (sym a ∙ some_from h xs r.0 m r.2))) (λ m. absurd (false≢true (sym b ∙ ap h (sym (Memᴰ.eq_of_singleton m)) ∙ r.2))) (Memᴰ.append_cases xs r.1))
    (λ t. t) (cases_Bool (some h (xs ++ x ∷ [])))

pub once_push : (xs : List Entry) (n : Entry) → paths_once xs ≡ true → some (at n.path) xs ≡ false → paths_once (xs ++ n ∷ []) ≡ true
unfolding paths_once some
once_push [] n h k = refl
once_push (x ∷ xs) n h k =
    let both = and_parts (not (some (at x.path) xs)) (paths_once xs) h in
    let other : at x.path n ≡ false =
    ⊎_elim (λ t. absurd (false≢true (sym k ∙ some_from (at n.path) (x ∷ xs) x (Memᴰ.head refl) ((same_path_decides n.path x.path).1 (sym ((same_path_decides x.path n.path).0 t)))))) (λ t. t)
    (cases_Bool (at x.path n)) in
    let later : some (at n.path) xs ≡ false =
    ⊎_elim (λ t. let r = some_member (at n.path) xs t in absurd (false≢true (sym k ∙ some_from (at n.path) (x ∷ xs) r.0 (Memᴰ.tail r.1) r.2))) (λ t. t) (cases_Bool (some (at n.path) xs)) in
    and_from (not (some (at x.path) (xs ++ n ∷ []))) (paths_once (xs ++ n ∷ [])) (not_from_false (some (at x.path) (xs ++ n ∷ [])) (some_push (at x.path) xs n (not-true (some (at x.path) xs) both.0) other))
    (once_push xs n both.1 later)

pub once_kept : (f : Entry → Bool) (xs : List Entry) → paths_once xs ≡ true → paths_once (keep f xs) ≡ true
unfolding paths_once keep
once_kept f [] h = refl
once_kept f (x ∷ xs) h =
    let both = and_parts (not (some (at x.path) xs)) (paths_once xs) h in
    cond_both (f x) (x ∷ keep f xs) (keep f xs) (λ l. paths_once l ≡ true)
    (λ e.
    and_from (not (some (at x.path) (keep f xs))) (paths_once (keep f xs))
    (not_from_false (some (at x.path) (keep f xs))
    (⊎_elim
    (λ t. let r = some_member (at x.path) (keep f xs) t in absurd (false≢true (sym (not-true (some (at x.path) xs) both.0) ∙ some_from (at x.path) xs r.0 (kept_member f xs r.0 r.1).0 r.2)))
    (λ t. t) (cases_Bool (some (at x.path) (keep f xs)))))
    (once_kept f xs both.1))
    (λ e. once_kept f xs both.1)
