-- The first tree fits every room, and the memory that is asked for is long enough. Assumes nothing.
use Rattle.std.proofs.Common.{◌≡◌, ℕ, ◌+◌, ◌/◌, ◌≤◌, List, length, refl, arith}
use Rattle.model.specs.Tree.{blank, weight_of}
use Rattle.cells.specs.Fits.{Fits, rising}
use Rattle.alone.specs.Standing.{Roomy}

pub blank_fits : (room : ℕ) → Fits room blank
unfolding weight_of rising
blank_fits room = record { weighs = omega arith; few = omega arith; rises = refl; opened = omega arith; early = omega arith; counts = record { top = omega arith; entries = tt } }

pub enough : (room : ℕ) (bytes places : List ℕ) → length bytes ≡ room + 32796 → length places ≡ room / 1280 + 2 → room ≤ 67108864 → Roomy room bytes places
enough room bytes places e f small = (omega arith, omega arith, omega arith)
