use Rattle.std.proofs.Common.{[], refl, arith, rules}
use Rattle.model.specs.Tree.{Done}
use Rattle.calls.specs.Format.{encode_reply, many_written}
use Rattle.service.proofs.Saying.{said_in}
use Rattle.service.proofs.answering.say_done.Goals as goal

pub returns : goal.returns
unfolding encode_reply many_written
returns c =
    let says = said_in (Done []) c.new-answer.result _ c.bytes.new.self c.new-answer.ensures.used c.bytes.ensures.wrote (omega (arith, c.requires, c.new-answer.ensures.used, c.new-answer.ensures.now, c.bytes.ensures.used)) refl in
    search rules
