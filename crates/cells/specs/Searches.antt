-- The first of a list that passes a test. Assumes nothing.
use Rattle.std.specs.Prelude.{◌≡◌, ℕ, ◌<◌, Bool, true, false, List, length, take, Some, None, Option, slice_index_or}
use Rattle.model.specs.Tree.{some}

-- the place of the first that passes
pub record First {A : Type 0} (f : A → Bool) (xs : List A) (i : ℕ) : Type 0 where
  pub within : i < length xs
  pub before : some f (take i xs) ≡ false
  pub here : (d : A) → f (slice_index_or xs i d) ≡ true

-- what a search answers: none passes, or the first that does
abbrev pub Found : {A : Type 0} → (A → Bool) → List A → Option ℕ → Type 0
Found f xs None = some f xs ≡ false
Found f xs (Some i) = First f xs i
