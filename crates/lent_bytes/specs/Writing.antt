-- What it is to write at the end of what a buffer has so far. Assumes nothing.
use Rattle.std.specs.Prelude.{◌≡◌, ℕ, ◌+◌, List, ◌++◌, length, take}

-- bytes were added behind the first `from` of a buffer, and end at `to`
pub record Added (from : ℕ) (was bytes : List ℕ) (to : ℕ) (now : List ℕ) : Type 0 where
  pub ends : to ≡ from + length bytes
  pub front : take to now ≡ take from was ++ bytes
  pub long : length now ≡ length was
