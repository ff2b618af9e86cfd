-- A call of one act is that act, weighed. Assumes nothing.
use Rattle.std.proofs.Common.{◌≡◌, ℕ, ◌+◌, ◌<◌, Bool, true, false, not, ◌&&◌, ◌||◌, ltb, leb, List, [], ◌∷◌, length, IfOk, Ok, Err, Result, sym, refl, ap, ◌∙◌, subst, ⊎_elim, arith}
use Rattle.std.proofs.lemmas.Bool.{cases_Bool, cond-true, cond-false, and_left, lt-leb, ltb-true}
use Rattle.model.specs.Tree as Tree
use Rattle.model.specs.Tree.{Path, State, Step, Bad, Good, Act, Make, Put, Drop, Check, Do, Out, No, Done, Going, Failed, Fine, acts, goes, all_of, stepped, closed, does, values_in, unless, value_ok, path_ok, every, weight, onward}
use Rattle.cells.specs.declared.draft.Size.{Size}
use Rattle.cells.specs.Fits.{Fits}
use Rattle.cells.specs.Drafts.{drafting}
use Rattle.tree.specs.declared.refusal.Refusal.{Refusal}
use Rattle.tree.specs.Answers.{step_of, out_of}
use Rattle.tree.specs.Steps.{overweight, weighed, counting, at_count}
use Rattle.doing.proofs.Keeping.{moved}

-- what a weighed step comes to as a call
abbrev pub answered : State → Step → Out
answered s (Bad k) = record { reply = No 0 k; state = s }
answered s (Good qs t) = record { reply = Done qs; state = t }

closed_step : (room : ℕ) (a : Act) (s : State) (o : Step) → acts a s ≡ o → closed s (stepped room 0 [] s o) ≡ answered s (counting (s.changes + 1) (weighed room s o))
unfolding closed stepped
closed_step room a s (Bad k) e = refl
closed_step room a s (Good qs t) e =
    let same = (moved a s qs t e).changes in
    ⊎_elim
    (λ h. ap (λ (g : Going). closed s g) (cond-true (overweight room (weight s) (weight t)) (Failed 0 9) (Fine 1 qs t) h) ∙
    sym (ap (λ (x : Step). answered s (counting (s.changes + 1) x)) (cond-true (overweight room (weight s) (weight t)) (Bad 9) (Good qs t) h)))
    (λ h. ap (λ (g : Going). closed s g) (cond-false (overweight room (weight s) (weight t)) (Failed 0 9) (Fine 1 qs t) h) ∙
    ap (λ (c : ℕ). record { reply = Done qs; state = at_count (c + 1) t }) same ∙
    sym (ap (λ (x : Step). answered s (counting (s.changes + 1) x)) (cond-false (overweight room (weight s) (weight t)) (Bad 9) (Good qs t) h)))
    (cases_Bool (overweight room (weight s) (weight t)))

-- a value that is too long for a call is too long for its act
middle_true : (a b c : Bool) → b ≡ true → (a || b || c) ≡ true
middle_true true b c e = refl
middle_true false b c e = rw e refl

last_true : (a b : Bool) → b ≡ true → (a || b) ≡ true
last_true true b e = refl
last_true false b e = e

too_long : (v : List ℕ) → 262144 < length v + 0 → not (value_ok v) ≡ true
too_long v h = ap not (and_left (leb (length v) 65536) (every (λ (b : ℕ). ltb b 256) v) (lt-leb (length v) 65536 (omega arith)))

long_act : (a : Act) (s : State) → 262144 < values_in (a ∷ []) → acts a s ≡ Bad 1
unfolding acts values_in unless
long_act (Make p v n o) s h = rw (middle_true (not (path_ok p)) (not (value_ok v)) (n && ltb 54 (length (Tree.last_name p))) (too_long v h)) refl
long_act (Put p v x) s h = rw (last_true (not (path_ok p)) (not (value_ok v)) (too_long v h)) refl
long_act (Drop p x) s h = absurd (omega arith)
long_act (Check p x) s h = absurd (omega arith)

pub one_act : (room : ℕ) (a : Act) (s : State) → does room (Do (a ∷ [])) s ≡ answered s (counting (s.changes + 1) (weighed room s (acts a s)))
unfolding does all_of goes
one_act room a s =
    ⊎_elim
    (λ h. cond-true (false || ltb 262144 (values_in (a ∷ []))) _ _ h ∙ sym (ap (λ (o : Step). answered s (counting (s.changes + 1) (weighed room s o))) (long_act a s (ltb-true 262144 (values_in (a ∷ [])) h))))
    (λ h. cond-false (false || ltb 262144 (values_in (a ∷ []))) _ _ h ∙ closed_step room a s (acts a s) refl)
    (cases_Bool (false || ltb 262144 (values_in (a ∷ []))))

-- what the code answers
pub answer_is : (qs : List Path) (r : Result Size Refusal) (out ps : List ℕ) (s : State) → out_of qs r out ps s ≡ answered s (step_of qs r out ps)
answer_is qs (Ok z) out ps s = refl
answer_is qs (Err k) out ps s = refl

-- the tree that was written fits
pub answer_made : (room : ℕ) (qs : List Path) (r : Result Size Refusal) (out ps : List ℕ) (s : State) (o : Out) → Fits room o.state → out_of qs r out ps s ≡ o → IfOk r (λ (z : Size). Fits room (drafting out ps z))
answer_made room qs (Ok z) out ps s o f e = subst (λ (x : Out). Fits room x.state) (sym e) f
answer_made room qs (Err k) out ps s o f e = tt
