-- Which incarnations there were, and one that was not there yet. Assumes nothing.
use Rattle.std.specs.Prelude.{◌≡◌, ℕ, ◌+◌, max, Bool, false, cond, ◌||◌, List, Some, None, Ok, Err, Option, Result, ◌==◌, nat_lt}
use Rattle.std.specs.List.{list_any, fold}
use Rattle.std.specs.Option.{option_or}
use Rattle.script.specs.declared.incarnations.Unfit.{Unfit}
use Rattle.script.specs.declared.incarnations.Unfit.TheVariants.{NoneLeft, WasThere}

abbrev pub is_drawn : ℕ → List ℕ → Bool
is_drawn n ds = list_any (λ d. d == n) ds

-- 0 was that of the first beginning
abbrev pub was_there : ℕ → List ℕ → Bool
was_there n ds = n == 0 || is_drawn n ds

abbrev pub highest : ℕ → List ℕ → ℕ
highest m ds = fold max m ds

-- one more than the highest, where that has 64 bits
abbrev pub fresh_of : List ℕ → Option ℕ
fresh_of ds = cond (nat_lt (highest 0 ds) 18446744073709551615) (Some (highest 0 ds + 1)) None

-- it was not there before
abbrev pub New : List ℕ → Option ℕ → Type 0
New ds None = Unit {0}
New ds (Some n) = was_there n ds ≡ false

-- none that was there before is taken
abbrev pub taken_of : List ℕ → Option ℕ → Result ℕ Unfit
taken_of ds None = Err NoneLeft
taken_of ds (Some n) = cond (was_there n ds) (Err WasThere) (Ok n)

-- the one that is named, or else a fresh one
abbrev pub chosen : List ℕ → Option ℕ → Result ℕ Unfit
chosen ds named = taken_of ds (option_or named (fresh_of ds))
