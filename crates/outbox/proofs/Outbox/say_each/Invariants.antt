use Rattle.std.proofs.Common.{◌≡◌, ℕ, ◌+◌, ◌≤◌, List, ◌++◌}
use Rattle.voting.specs.declared.replicas.Replica.{Replica}
use Rattle.outbox.specs.declared.Deed.{Deed}
use Rattle.outbox.specs.Deeds.{list_of, said, eachOf}
use Rattle.outbox.proofs.Outbox.say_each.Given as goal

abbrev pub invariant-loop-index : goal.invariant-loop-index
invariant-loop-index g l = record {
  list : (f : ℕ → List Deed) → ((j : Replica) (w : _) → goal.F-post g l.word j w → said j.index w ≡ f j.index) → list_of l.self ≡ list_of l.initial.self ++ eachOf l.index f;
  count : l.self.count ≤ l.initial.self.count + l.index;
}
