-- Counting replicas: more pass a weaker test; the vote of one is no quorum of two or more; who is found in a list is in it.
use Rattle.std.proofs.Common.{◌≡◌, ℕ, zero, suc, ◌+◌, ◌*◌, ◌<◌, ◌≤◌, Bool, true, false, cond, eqb, ltb, List, [], ◌∷◌, get_or, Some, None, Option, sym, refl, ap, ◌∙◌, ⊎_elim, arith}
use Rattle.std.proofs.lemmas.List.{get_or-set_other}
use mathlib.Core.List.Memᴰ
use mathlib.Core.List.{Memᴰ}
use Rattle.std.proofs.lemmas.Bool.{true≢false, false≢true, le-ltb, or_cases, or_left, or_right, eqb-true, eq-eqb}
use Rattle.runs.specs.Replicas.{how_many, is_in}
use Rattle.agreement.specs.declared.Place.{Place}
use Rattle.agreement.specs.declared.Agreement.{Agreement}
use Rattle.agreement.specs.Content.{seven, fresh_place}
use Rattle.agreement.specs.Machine.{is_vote, counts, quorum, own_vote}
use Rattle.agreement.proofs.Seven.{get_seven}

pub how_many_mono : (n : ℕ) (f g : ℕ → Bool) → ((i : ℕ) → i < n → f i ≡ true → g i ≡ true) → how_many n f ≤ how_many n g
unfolding how_many
how_many_mono zero f g h = omega arith
how_many_mono (suc n) f g h = step (f n) (g n) (h n (omega arith)) (how_many_mono n f g (λ i lt. h i (omega arith)))
  where
    step : (x y : Bool) → (x ≡ true → y ≡ true) → how_many n f ≤ how_many n g → cond x (1 + how_many n f) (how_many n f) ≤ cond y (1 + how_many n g) (how_many n g)
    step true true k ih = omega arith
    step true false k ih = absurd (true≢false (sym (k refl)))
    step false true k ih = omega arith
    step false false k ih = omega arith

pub how_many_none : (n : ℕ) (f : ℕ → Bool) → ((s : ℕ) → s < n → f s ≡ false) → how_many n f ≡ 0
unfolding how_many
how_many_none zero f h = refl
how_many_none (suc n) f h = rw (h n (omega arith)) (how_many_none n f (λ s lt. h s (omega arith)))

how_many_one : (n i : ℕ) (f : ℕ → Bool) → ((s : ℕ) → (s ≡ i → ⊥) → f s ≡ false) → how_many n f ≤ 1
unfolding how_many
how_many_one zero i f h = omega arith
how_many_one (suc n) i f h = step (f n) refl (how_many_one n i f h)
  where
    step : (x : Bool) → f n ≡ x → how_many n f ≤ 1 → cond x (1 + how_many n f) (how_many n f) ≤ 1
    step true e ih = let z = how_many_none n f (λ s lt. h s (λ q. true≢false (sym e ∙ h n (λ r. let c : s ≡ n = q ∙ sym r in omega arith)))) in omega arith
    step false e ih = ih

pub own_vote_else : (a : Agreement) (j : ℕ) → (j ≡ a.me → ⊥) → get_or (own_vote a) j None ≡ None
own_vote_else a j n = get_or-set_other (seven None) a.me j (Some a.incarnation) None n ∙ get_seven None j

-- one is not most of two or more
pub one_is_few : (n i : ℕ) (f : ℕ → Bool) → 2 ≤ n → ((j : ℕ) → (j ≡ i → ⊥) → f j ≡ false) → ltb n (2 * how_many n f) ≡ false
one_is_few n i f two o = le-ltb n (2 * how_many n f) (omega (arith, two, how_many_one n i f o))

pub one_is_no_quorum : (n : ℕ) (ps : List Place) (a : Agreement) → 2 ≤ n → quorum n ps (own_vote a) ≡ false
one_is_no_quorum n ps a two = one_is_few n a.me (counts (own_vote a) ps) two (λ s e. ap (λ (o : Option ℕ). is_vote o (get_or ps s (fresh_place 0)).incarnation) (own_vote_else a s e))

pub found_in : (i : ℕ) (group : List ℕ) → is_in i group ≡ true → Memᴰ i group
unfolding is_in
found_in i [] e = absurd (false≢true e)
found_in i (x ∷ xs) e = ⊎_elim (λ q. Memᴰ.head (eqb-true i x q)) (λ q. Memᴰ.tail (found_in i xs q)) (or_cases (eqb i x) (is_in i xs) e)

pub is_found : (i : ℕ) (group : List ℕ) → Memᴰ i group → is_in i group ≡ true
unfolding is_in
is_found i [] d = absurd (Memᴰ.not-nil d)
is_found i (x ∷ xs) d = ⊎_elim (λ q. or_left (eqb i x) (is_in i xs) (eq-eqb i x q)) (λ q. or_right (eqb i x) (is_in i xs) (is_found i xs q)) (Memᴰ.cases_cons d)
