use Rattle.std.proofs.Common.{◌≡◌, None, sym, ap, ◌∙◌, arith, rules}
use Rattle.model.specs.Tree.{Act}
use Rattle.calls.specs.Format.{act_at, rest, past}
use Rattle.calls.proofs.Many.{past_step, past_stop, past_end}
use Rattle.calls.proofs.reading.past_acts.Goals as goal

pub returns-in_err-rest : goal.returns-in_err-rest
returns-in_err-rest c =
    let stop : past act_at c.args.count c.args.bytes.now ≡ None = c.loop.invariant ∙ past_stop act_at c.args.count c.loop.counter c.loop.rest.now c.loop-test.true (ap (rest {A = Act}) (sym c.in_err-rest.ensures)) in
    search (rules, sym stop)

pub loop-preserved : goal.loop-preserved
loop-preserved c = c.loop.invariant ∙ past_step act_at c.args.count c.loop.counter c.loop.rest.now c.loop-test.true c.in_ok-rest.field-0-1.now (ap (rest {A = Act}) (sym c.in_ok-rest.ensures))

pub returns : goal.returns
returns c = sym (c.loop.invariant ∙ past_end act_at c.args.count c.loop.counter c.loop.rest.now (omega arith))
