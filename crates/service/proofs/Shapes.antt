-- What a call of one act can be answered: refused by a number from 1 to 9, or done with the path that it makes. Assumes nothing.
use Rattle.std.proofs.Common.{◌≡◌, ℕ, ◌≤◌, Bool, true, false, ◌&&◌, ◌||◌, ltb, ◌⊎◌, List, [], ◌∷◌, refl, ap, subst, inl, inr, arith}
use Rattle.std.proofs.lemmas.Bool.{cond_both, false≢true}
use Rattle.model.specs.Tree.{Path, State, Step, Bad, Good, unless, acts, weight, Failed, Fine, stepped, goes, all_of, closed, Out, Act, Make, Put, Drop, Check, Do, Reply, No, Done, does, one, values_in}
use Rattle.model.proofs.Deeds.{not_refused, make_parts}
use Rattle.tree.specs.Answers.{made_by}

abbrev Small : ℕ → Type 0
Small k = (1 ≤ k) × (k ≤ 9)

refused_by : (k j : ℕ) (b : Bool) (o : Step) → Small k → unless k b o ≡ Bad j → (o ≡ Bad j → Small j) → Small j
unfolding unless
refused_by k j false o h e more = more e
refused_by k j true o h e more = let is : k ≡ j = cc in subst Small is h

no_refusal : {B : Type 0} (ps : List Path) (t : State) (j : ℕ) → Good ps t ≡ Bad j → B
no_refusal ps t j e = absurd (let z : ◌≡◌ {A = ℕ} 0 1 = cc in omega arith)

acts_refused : (a : Act) (s : State) (j : ℕ) → acts a s ≡ Bad j → Small j
unfolding acts
acts_refused (Make p v n o) s j e =
    refused_by 1 j _ _ (omega arith, omega arith) e (λ e2. refused_by 2 j _ _ (omega arith, omega arith) e2 (λ e8. refused_by 8 j _ _ (omega arith, omega arith) e8 (λ e3. refused_by 3 j _ _ (omega arith, omega arith) e3
    (λ e6. refused_by 6 j _ _ (omega arith, omega arith) e6 (λ e7. refused_by 7 j _ _ (omega arith, omega arith) e7 (λ g. no_refusal _ _ j g))))))
acts_refused (Put p v x) s j e = refused_by 1 j _ _ (omega arith, omega arith) e (λ e2. refused_by 2 j _ _ (omega arith, omega arith) e2 (λ e4. refused_by 4 j _ _ (omega arith, omega arith) e4 (λ g. no_refusal _ _ j g)))
acts_refused (Drop p x) s j e = refused_by 1 j _ _ (omega arith, omega arith) e (λ e2. refused_by 2 j _ _ (omega arith, omega arith) e2 (λ e4. refused_by 4 j _ _ (omega arith, omega arith) e4 (λ e5. refused_by 5 j _ _ (omega arith, omega arith) e5 (λ g. no_refusal _ _ j g))))
acts_refused (Check p x) s j e = refused_by 1 j _ _ (omega arith, omega arith) e (λ e2. refused_by 2 j _ _ (omega arith, omega arith) e2 (λ e4. refused_by 4 j _ _ (omega arith, omega arith) e4 (λ g. no_refusal _ _ j g)))

paths_of : (ps qs : List Path) (s t : State) → Good ps s ≡ Good qs t → qs ≡ ps
paths_of ps qs s t e = cc

acts_made : (a : Act) (s : State) (qs : List Path) (t : State) → one (a ∷ []) ≡ true → acts a s ≡ Good qs t → qs ≡ made_by a
unfolding acts one
acts_made (Make p v false o) s qs t h e = (make_parts p v false o s qs t e).paths
acts_made (Make p v true o) s qs t h e = absurd (false≢true h)
acts_made (Put p v x) s qs t h e =
    let r = not_refused 4 _ _ qs t (not_refused 2 _ _ qs t (not_refused 1 _ _ qs t e).1).1 in paths_of [] qs _ t r.1
acts_made (Drop p x) s qs t h e =
    let r = not_refused 5 _ _ qs t (not_refused 4 _ _ qs t (not_refused 2 _ _ qs t (not_refused 1 _ _ qs t e).1).1).1 in paths_of [] qs _ t r.1
acts_made (Check p x) s qs t h e =
    let r = not_refused 4 _ _ qs t (not_refused 2 _ _ qs t (not_refused 1 _ _ qs t e).1).1 in paths_of [] qs _ t r.1

-- the answer to a call of one act
abbrev pub Shape : Act → Reply → Type 0
Shape a r = ((k : ℕ) × Small k × (r ≡ No 0 k)) ⊎ (r ≡ Done (made_by a))

pub one_shape : (room : ℕ) (a : Act) (s : State) → one (a ∷ []) ≡ true → Shape a (does room (Do (a ∷ [])) s).reply
unfolding does all_of goes stepped closed
one_shape room a s h =
    cond_both (ltb 64 1 || ltb 262144 (values_in (a ∷ []))) _ (closed s (stepped room 0 [] s (acts a s))) (λ (o : Out). Shape a o.reply) (λ e. inl (1, (omega arith, omega arith), refl)) (λ e. go (acts a s) refl)
  where
    go : (x : Step) → acts a s ≡ x → Shape a (closed s (stepped room 0 [] s x)).reply
    go (Bad k) e = inl (k, acts_refused a s k e, refl)
    go (Good qs t) e = cond_both (ltb room (weight t) && ltb (weight s) (weight t)) (Failed 0 9) (Fine 1 qs t) (λ g. Shape a (closed s g).reply) (λ b. inl (9, (omega arith, omega arith), refl)) (λ b. inr (ap Done (acts_made a s qs t h e)))
