-- Lists as arrays: what is read after a place was set.
use Rattle.std.proofs.Common.{◌≡◌, ℕ, zero, suc, ◌⊎◌, List, [], ◌∷◌, get_or, set, refl, ap, inl, inr, ⊎_elim}
use Rattle.agreement.specs.Content.{seven}

pub get_seven : {A : Type 0} (x : A) (s : ℕ) → get_or (seven x) s x ≡ x
get_seven x zero = refl
get_seven x (suc zero) = refl
get_seven x (suc (suc zero)) = refl
get_seven x (suc (suc (suc zero))) = refl
get_seven x (suc (suc (suc (suc zero)))) = refl
get_seven x (suc (suc (suc (suc (suc zero))))) = refl
get_seven x (suc (suc (suc (suc (suc (suc zero)))))) = refl
get_seven x (suc (suc (suc (suc (suc (suc (suc s))))))) = refl

-- it is as it was, or it is the place that was set
pub get_set : {A : Type 0} (xs : List A) (j : ℕ) (y d : A) (s : ℕ) → (get_or (set xs j y) s d ≡ get_or xs s d) ⊎ ((s ≡ j) × (get_or (set xs j y) s d ≡ y))
get_set [] j y d s = inl refl
get_set (x ∷ xs) zero y d zero = inr (refl, refl)
get_set (x ∷ xs) zero y d (suc s) = inl refl
get_set (x ∷ xs) (suc j) y d zero = inl refl
get_set (x ∷ xs) (suc j) y d (suc s) = ⊎_elim (λ e. inl e) (λ e. inr (ap suc e.0, e.1)) (get_set xs j y d s)
