-- Scenes: a function that is changed at one place, and what answers leave as it is.
use Rattle.std.proofs.Common.{◌≡◌, ℕ, eqb, List, [], ◌∷◌, ◌++◌, refl}
use Rattle.std.proofs.lemmas.Bool.{eq-eqb, ne_eqb, cond-true, cond-false}
use Rattle.runs.specs.Replicas.{Does, Says, Gives, Whole', there, Seen, at, given, was_asked}
use Rattle.agreement.specs.Content.{Service}
use Rattle.agreement.specs.Machine.{Msg}

-- the function f, changed at j
pub at_same : {A : Type 0} (j : ℕ) (y : A) (f : ℕ → A) (s : ℕ) → s ≡ j → at j y f s ≡ y
at_same j y f s e = cond-true (eqb s j) y (f s) (eq-eqb s j e)

pub at_other : {A : Type 0} (j : ℕ) (y : A) (f : ℕ → A) (s : ℕ) → (s ≡ j → ⊥) → at j y f s ≡ f s
at_other j y f s n = cond-false (eqb s j) y (f s) (ne_eqb s j n)

pub un_there : {A : Type 0} (a b : A) → there a ≡ there b → a ≡ b
un_there a b e = cc

-- answers ask nothing
pub was_given : {sv : Service} (i k : ℕ) (ds : List (Does (Msg sv) sv.R)) (es : List (Seen sv.O sv.R)) → was_asked k (given i ds ++ es) ≡ was_asked k es
unfolding given was_asked
was_given i k [] es = refl
was_given i k (Says j w ∷ ds) es = was_given i k ds es
was_given i k (Gives n r ∷ ds) es = was_given i k ds es
was_given i k (Whole' ∷ ds) es = was_given i k ds es
