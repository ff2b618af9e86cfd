-- Finding and counting among finitely many: sums over the first n replicas, one that passes a test, a number that is not in a list. For the schedule that makes a group get on: what is left to do is such a sum, and an incarnation that was not drawn is such a number.
use Rattle.std.proofs.Common.{◌≡◌, ℕ, zero, suc, ◌+◌, ◌*◌, ◌<◌, ◌≤◌, Bool, true, false, cond, ◌||◌, eqb, ◌⊎◌, List, [], ◌∷◌, length, sym, refl, ap, ◌∙◌, subst, inl, inr, ⊎_elim, arith}
use Rattle.std.proofs.lemmas.Bool.{cond_both, eqb-true, eqb-false, cases_eq, cases_Bool, true≢false, false≢true}
use Rattle.std.proofs.lemmas.Bool.Decides.{nat_tests}
use Rattle.runs.specs.Replicas.{is_in}

-- SUMS over the first n replicas
unfoldable pub sum_to : ℕ → (ℕ → ℕ) → ℕ
sum_to zero f = 0
sum_to (suc n) f = f n + sum_to n f

pub sum_le : (n : ℕ) (f g : ℕ → ℕ) → ((i : ℕ) → i < n → f i ≤ g i) → sum_to n f ≤ sum_to n g
unfolding sum_to
sum_le zero f g le = omega arith
sum_le (suc n) f g le = omega (arith, le n (omega arith), sum_le n f g (λ i lt. le i (omega arith)))

pub sum_lt : (n : ℕ) (f g : ℕ → ℕ) → ((i : ℕ) → i < n → f i ≤ g i) → (k : ℕ) → k < n → f k < g k → sum_to n f < sum_to n g
unfolding sum_to
sum_lt zero f g le k lt less = absurd (omega (arith, lt))
sum_lt (suc n) f g le k lt less =
    ⊎_elim (λ e. let h : f n < g n = rw e at less in omega (arith, h, sum_le n f g (λ i l. le i (omega arith)))) (λ ne. omega (arith, le n (omega arith), sum_lt n f g (λ i l. le i (omega arith)) k (below ne) less)) (cases_eq k n)
  where
    below : (k ≡ n → ⊥) → k < n
    below ne = grind (arith, nat_tests)

pub sum_at_most : (n : ℕ) (f : ℕ → ℕ) → ((i : ℕ) → i < n → f i ≤ 9) → sum_to n f ≤ 9 * n
unfolding sum_to
sum_at_most zero f le = omega arith
sum_at_most (suc n) f le = omega (arith, le n (omega arith), sum_at_most n f (λ i lt. le i (omega arith)))

pub sum_none : (n : ℕ) (f : ℕ → ℕ) → sum_to n f ≤ 0 → (i : ℕ) → i < n → f i ≡ 0
unfolding sum_to
sum_none zero f le i lt = absurd (omega (arith, lt))
sum_none (suc n) f le i lt = ⊎_elim (λ e. rw e (omega (arith, le))) (λ ne. sum_none n f (omega (arith, le)) i (below ne)) (cases_eq i n)
  where
    below : (i ≡ n → ⊥) → i < n
    below ne = grind (arith, nat_tests)

-- one of the first n passes a test, or none does
pub find : (n : ℕ) (p : ℕ → Bool) → ((i : ℕ) × (i < n) × (p i ≡ true)) ⊎ ((i : ℕ) → i < n → p i ≡ false)
find zero p = inr (λ i lt. absurd (omega (arith, lt)))
find (suc n) p = go (cases_Bool (p n)) (find n p)
  where
    below : (i : ℕ) → i < suc n → (i ≡ n → ⊥) → i < n
    below i lt ne = grind (arith, nat_tests)

    go : (p n ≡ true) ⊎ (p n ≡ false) → ((i : ℕ) × (i < n) × (p i ≡ true)) ⊎ ((i : ℕ) → i < n → p i ≡ false) → ((i : ℕ) × (i < suc n) × (p i ≡ true)) ⊎ ((i : ℕ) → i < suc n → p i ≡ false)
    go (inl e) _ = inl (n, omega arith, e)
    go (inr e) (inl (i, lt, y)) = inl (i, omega (arith, lt), y)
    go (inr e) (inr none) = inr (λ i lt. ⊎_elim (λ q. ap p q ∙ e) (λ ne. none i (below i lt ne)) (cases_eq i n))

-- A NUMBER THAT IS NOT IN A LIST, at most its length
unfoldable without' : ℕ → List ℕ → List ℕ
without' x [] = []
without' x (y ∷ l) = cond (eqb y x) (without' x l) (y ∷ without' x l)

without_le : (x : ℕ) (l : List ℕ) → length (without' x l) ≤ length l
unfolding without'
without_le x [] = omega arith
without_le x (y ∷ l) = cond_both (eqb y x) (without' x l) (y ∷ without' x l) (λ z. length z ≤ suc (length l)) (λ _. omega (arith, without_le x l)) (λ _. omega (arith, without_le x l))

without_lt : (x : ℕ) (l : List ℕ) → is_in x l ≡ true → length (without' x l) < length l
unfolding is_in without'
without_lt x [] e = absurd (false≢true e)
without_lt x (y ∷ l) e =
    cond_both (eqb y x) (without' x l) (y ∷ without' x l) (λ z. length z < suc (length l)) (λ _. omega (arith, without_le x l))
    (λ f. let g : eqb x y ≡ false = ⊎_elim (λ h. absurd (eqb-false y x f (sym (eqb-true x y h)))) (λ h. h) (cases_Bool (eqb x y)) in omega (arith, without_lt x l (subst (λ (b : Bool). (b || is_in x l) ≡ true) g e)))

keeps_in : (r x : ℕ) (l : List ℕ) → (r ≡ x → ⊥) → is_in r (without' x l) ≡ false → is_in r l ≡ false
unfolding is_in without'
keeps_in r x [] ne e = refl
keeps_in r x (y ∷ l) ne d =
    cond_both (eqb y x) (without' x l) (y ∷ without' x l) (λ z. is_in r z ≡ false → (eqb r y || is_in r l) ≡ false) (λ f e. let n : eqb r y ≡ false = ⊎_elim (λ h. absurd (ne (eqb-true r y h ∙ eqb-true y x f))) (λ h. h) (cases_Bool (eqb r y)) in rw n (keeps_in r x l ne e))
    (λ f e. let (a, b) = or_false (eqb r y) (is_in r (without' x l)) e in rw a (keeps_in r x l ne b)) d
  where
    or_false : (a b : Bool) → (a || b) ≡ false → (a ≡ false) × (b ≡ false)
    or_false true b e = absurd (true≢false e)
    or_false false b e = (refl, e)

pub not_in : (n : ℕ) (l : List ℕ) → length l < n → (r : ℕ) × (r < n) × (is_in r l ≡ false)
not_in zero l lt = absurd (omega (arith, lt))
not_in (suc n) l lt = go (cases_Bool (is_in n l)) (λ e. not_in n (without' n l) (omega (arith, lt, without_lt n l e)))
  where
    go : (is_in n l ≡ true) ⊎ (is_in n l ≡ false) → (is_in n l ≡ true → (r : ℕ) × (r < n) × (is_in r (without' n l) ≡ false)) → (r : ℕ) × (r < suc n) × (is_in r l ≡ false)
    go (inr e) more = (n, omega arith, e)
    go (inl e) more = let (r, small, out) = more e in (r, omega (arith, small), keeps_in r n l (λ q. absurd (omega (arith, q, small))) out)
