-- The kinds of messages, and the byte that says which. Assumes nothing.
use Rattle.std.specs.Prelude.{◌≡◌, ℕ, ◌<◌, ◌≤◌, Ok, Err, Result}
use Rattle.wire.specs.declared.types.Kind.{Kind}
use Rattle.wire.specs.declared.types.Kind.TheVariants.{Prepare, Promise, Propose, Alive, Accepted, Join, Forward}
use Rattle.wire.specs.declared.types.NoKind.{NoKind}

abbrev pub kind_number : Kind → ℕ
kind_number Prepare = 1
kind_number Promise = 2
kind_number Propose = 3
kind_number Alive = 4
kind_number Accepted = 5
kind_number Join = 6
kind_number Forward = 7

-- the kind of this byte, or that it is none's
abbrev pub IsKind : ℕ → Result Kind NoKind → Type 0
IsKind n (Ok k) = kind_number k ≡ n
IsKind n (Err e) = (e.0 ≡ n) × (0 < n → n ≤ 7 → ⊥)
