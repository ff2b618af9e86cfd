use Rattle.std.proofs.Common.{refl, arith, lit≤}
use Rattle.std.proofs.lemmas.Bool.Decides.{nat_tests}
use Rattle.runs.specs.Replicas.{how_many}
use Rattle.voting.proofs.Counting.{one_more}
use Rattle.voting.proofs.quorum.more_than_half.Goals as goal
use Rattle.voting.proofs.quorum.more_than_half.Goals.{then-passes, else-passes}

pub loop-index-init : goal.loop-index-init
unfolding how_many
loop-index-init g c = record { counted = λ test agrees. refl; small = lit≤ tt }

pub loop-index-preserved : goal.loop-index-preserved
loop-index-preserved g c =
    elim c.if-passes.branch [
      | then-passes w ↦ record { counted = λ test agrees. (let e = agrees _ c.passes.result c.passes.ensures in let i = c.loop-index.invariant.counted test agrees in rw one_more (grind (arith, nat_tests))); small = omega (arith, w.some-is) }
      | else-passes w ↦ record { counted = λ test agrees. (let e = agrees _ c.passes.result c.passes.ensures in let i = c.loop-index.invariant.counted test agrees in rw one_more (grind (arith, nat_tests))); small = omega (arith, w.some-is) }
    ]
