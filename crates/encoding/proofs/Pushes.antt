-- Names, and what is written one behind the other, as the code writes them.
use Rattle.std.proofs.Common.{◌≡◌, ℕ, Bool, true, false, List, [], ◌∷◌, ◌++◌, map, refl, ap}
use Rattle.std.specs.Int.{from_bool}
use Rattle.std.specs.List.{flat_map}
use Rattle.model.specs.Tree.{Name}
use Rattle.lent_bytes.specs.Paths.{name_bytes, path_bytes}
use Rattle.calls.specs.Format.{flag_written, many_written}

pub names_written : {A : Type 0} (of : A → Name) (xs : List A) → flat_map (λ x. name_bytes (of x)) xs ≡ path_bytes (map of xs)
unfolding path_bytes
names_written of [] = refl
names_written of (x ∷ xs) = ap (λ (bs : List ℕ). name_bytes (of x) ++ bs) (names_written of xs)

pub all_written : {A B : Type 0} (of : A → B) (f : B → List ℕ) (xs : List A) → flat_map (λ x. f (of x)) xs ≡ many_written f (map of xs)
unfolding many_written
all_written of f [] = refl
all_written of f (x ∷ xs) = ap (λ (bs : List ℕ). f (of x) ++ bs) (all_written of f xs)

pub flag_is : (b : Bool) → from_bool b ≡ flag_written b
flag_is true = refl
flag_is false = refl
