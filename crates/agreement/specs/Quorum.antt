-- Two sets of more than half of all share one.
use Rattle.std.specs.Prelude.{◌≡◌, ℕ, ◌*◌, ◌<◌, Bool, true}
use Rattle.runs.specs.Replicas.{how_many}

abbrev pub QuorumsMeet : Type 0
QuorumsMeet = (all : ℕ) (f g : ℕ → Bool) → all < 2 * how_many all f → all < 2 * how_many all g → (i : ℕ) × (i < all) × (f i ≡ true) × (g i ≡ true)
