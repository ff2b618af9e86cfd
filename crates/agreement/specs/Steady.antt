-- A service whose states grow slowly: what a call adds to a state is bounded, and as long as the state is not large, calls may be done. Then enough replicas get on, in runs of fewer than `most` steps.
use Rattle.std.specs.Prelude.{◌≡◌, ℕ, ◌+◌, ◌*◌, ◌<◌, ◌≤◌, true}
use Rattle.agreement.specs.Content.{Service}

-- size: how far the counts of a state have come; a call adds at most 64 to it. Getting on takes fewer than 256 steps that change a state.
pub record Steady (sv : Service) : Type 0 where
  pub most : ℕ
  pub short : most ≤ 72057594037927936
  pub size : sv.clerk.State → ℕ
  pub starts : size sv.clerk.start ≡ 0
  pub grows : (o : sv.O) (s : sv.clerk.State) → size (sv.clerk.next o s) ≤ 64 + size s
  pub calm : (s : sv.clerk.State) → size s < 64 * (most + 256) → sv.calm s ≡ true
