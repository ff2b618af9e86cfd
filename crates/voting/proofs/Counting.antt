-- Counting who passes a test among the first replicas, one more at a time.
use Rattle.std.proofs.Common.{◌≡◌, ℕ, ◌+◌, Bool, cond, refl, add-one}
use Rattle.runs.specs.Replicas.{how_many}

pub one_more : (n : ℕ) (f : ℕ → Bool) → how_many (n + 1) f ≡ cond (f n) (1 + how_many n f) (how_many n f)
unfolding how_many
one_more n f = rw add-one refl
