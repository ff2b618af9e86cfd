-- Each turn writes one act and a ;.
use Rattle.std.proofs.Common.{rules}
use Rattle.std.proofs.Output.{has_written_append, has_written_of_eq}
use Rattle.words.specs.Values.{act_of}
use Rattle.spelling.specs.Spelled.{piece_spelled}
use Rattle.spelling.proofs.Loops.{many_more}
use Rattle.spelling.proofs.wording.BracedDisplay.fmt.Goals as goal

pub loop-act-preserved : goal.loop-act-preserved
loop-act-preserved g c = λ plain.
    has_written_of_eq _ _ _ _ _ (many_more act_of piece_spelled c.args.self.now.0.now c.loop-act.act-index c.act-item.result c.loop-act-test.true c.act-item.is)
    (has_written_append _ _ _ _ _ _ (c.loop-act.invariant plain) (search rules))
