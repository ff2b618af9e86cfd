use Rattle.std.proofs.Common.{◌-◌, length, take, drop, ap, ◌∙◌, arith, length-drop, rules}
use Rattle.std.proofs.lemmas.List.{length-take-le}
use Rattle.model.specs.Tree.{Out}
use Rattle.lent_bytes.specs.Numbers.{be4}
use Rattle.lent_bytes.specs.Paths.{path_of}
use Rattle.service.proofs.Saying.{path_count, names-told}
use Rattle.service.proofs.answering.say_kids.Goals as goal

pub overflow_cast-listed : goal.overflow_cast-listed
overflow_cast-listed c =
    let e = c.in-Ok.ensures in
    let n = path_count (path_of (take c.in-Ok.listed.end c.kids.new.out)) in
    let l = ap length e.spells in
    search rules

pub returns : goal.returns
unfolding be4
returns c room =
    let e = c.in-Ok.ensures in
    names-told _ c.args.out.now c.kids.new.out c.copy_from_slice.new.self c.to_be_bytes-n.result c.in-Ok.listed.end c.in-Ok.listed.count (omega (arith, c.requires.room)) (c.kids.auto.out ∙ length-take-le (length c.args.out.now - 5) (drop 5 c.args.out.now) (omega (arith, length-drop 5 c.args.out.now))) e.inside e.spells e.count
    c.copy_from_slice.ensures.after c.to_be_bytes-n.ensures (ap (λ (o : Out). o.reply) (e.answer room))
