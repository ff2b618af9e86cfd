-- What a function that writes behind what a vector holds leaves there.
use Rattle.std.specs.Prelude.{◌≡◌, ℕ, List, ◌++◌, Ok, Err, Result}

-- all of what was to be written stands behind what was there; without memory some of it may, and what was there stays
abbrev pub Pushed : {A E : Type 0} → Result A E → (before after text : List ℕ) → Type 0
Pushed (Ok u) before after text = after ≡ before ++ text
Pushed (Err e) before after text = (some : List ℕ) × (after ≡ before ++ some)
