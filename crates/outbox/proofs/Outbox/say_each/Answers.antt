use Rattle.std.proofs.Common.{arith}
use Rattle.outbox.specs.Deeds.{list_of, said}
use Rattle.outbox.proofs.Each.{each_none, each_more}
use Rattle.outbox.proofs.Outbox.say_each.Goals as goal

pub loop-index-init : goal.loop-index-init
loop-index-init g c = record { list = λ f agrees. each_none (list_of c.args.self.now) f; count = omega arith }

pub loop-index-preserved : goal.loop-index-preserved
loop-index-preserved g c =
    let n = c.loop-index.index in
    let w = c.word.result in
    record {
      list = λ f agrees. each_more n (list_of c.args.self.now) (list_of c.loop-index.self) (list_of c.say.new.self) (said n w) f (c.loop-index.invariant.list f agrees) c.say.ensures.list (agrees _ w c.word.ensures);
      count = omega (arith, c.loop-index.invariant.count, c.say.ensures.count);
    }
