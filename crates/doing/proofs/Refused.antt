-- What is refused changes nothing, whatever the call; so a call of several acts is done all or none. Assumes nothing.
use Rattle.std.proofs.Common.{◌≡◌, ℕ, ◌||◌, eqb, ltb, leb, List, [], length, refl, arith}
use Rattle.std.proofs.lemmas.Bool.{cond_both}
use Rattle.model.specs.Tree.{State, Do, Look, Kids, Open, End, No, Done, Session, Out, Going, Failed, Fine, Path, all_of, closed, does, some, values_in}
use Rattle.model.specs.Laws.{AllOrNone}
use Rattle.doing.specs.Laws.{RefusedKeeps}

abbrev Keeps : State → ℕ → ℕ → Out → Type 0
Keeps s n k o = o.reply ≡ No n k → o.state ≡ s

done_no : {X : Type 0} (ps : List Path) (n k : ℕ) → Done ps ≡ No n k → X
done_no ps n k e = absurd (let z : ◌≡◌ {A = ℕ} 0 1 = cc in omega arith)

session_no : {X : Type 0} (x n k : ℕ) → Session x ≡ No n k → X
session_no x n k e = absurd (let z : ◌≡◌ {A = ℕ} 0 1 = cc in omega arith)

closed_keeps : (s : State) (g : Going) (n k : ℕ) → Keeps s n k (closed s g)
unfolding closed
closed_keeps s (Failed a b) n k e = refl
closed_keeps s (Fine a ps t) n k e = done_no ps n k e

pub refused_keeps : RefusedKeeps
unfolding does
refused_keeps room (Do as') s n k e =
    cond_both (ltb 64 (length as') || ltb 262144 (values_in as')) _ _ (Keeps s n k) (λ _ _. refl) (λ _. closed_keeps s (all_of room as' (Fine 0 [] s)) n k) e
refused_keeps room (Look p) s n k e = refl
refused_keeps room (Kids p) s n k e = refl
refused_keeps room Open s n k e = cond_both (leb 4096 (length s.sessions)) _ _ (Keeps s n k) (λ _ _. refl) (λ _ h. session_no _ n k h) e
refused_keeps room (End x) s n k e = cond_both (some (eqb x) s.sessions) _ _ (Keeps s n k) (λ _ h. done_no [] n k h) (λ _ _. refl) e

pub all_or_none : AllOrNone
all_or_none room as' s n k e = refused_keeps room (Do as') s n k e
