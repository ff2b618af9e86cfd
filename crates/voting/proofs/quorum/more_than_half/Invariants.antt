use Rattle.std.proofs.Common.{◌≡◌, ℕ, ◌≤◌, Bool}
use Rattle.runs.specs.Replicas.{how_many}
use Rattle.voting.specs.declared.replicas.Replica.{Replica}
use Rattle.voting.proofs.quorum.more_than_half.Given as goal

abbrev pub invariant-loop-index : goal.invariant-loop-index
invariant-loop-index g l = record {
  counted : (test : ℕ → Bool) → ((j : Replica) (b : Bool) → goal.F-post g l.passes j b → b ≡ test j.index) → l.some ≡ how_many l.index test;
  small : l.some ≤ l.index;
}
