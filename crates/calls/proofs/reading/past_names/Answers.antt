use Rattle.std.proofs.Common.{◌≡◌, None, sym, ◌∙◌, arith, rules}
use Rattle.calls.specs.Format.{name_at, past}
use Rattle.calls.proofs.Many.{past_step, past_stop, past_end}
use Rattle.calls.proofs.reading.past_names.Goals as goal

pub returns-in_err-rest : goal.returns-in_err-rest
returns-in_err-rest c =
    let stop : past name_at c.args.count c.args.bytes.now ≡ None = c.loop.invariant ∙ past_stop name_at c.args.count c.loop.counter c.loop.rest.now c.loop-test.true (sym c.in_err-rest.ensures) in
    search (rules, sym stop)

pub loop-preserved : goal.loop-preserved
loop-preserved c = c.loop.invariant ∙ past_step name_at c.args.count c.loop.counter c.loop.rest.now c.loop-test.true c.in_ok-rest.rest.now (sym c.in_ok-rest.ensures)

pub returns : goal.returns
returns c = sym (c.loop.invariant ∙ past_end name_at c.args.count c.loop.counter c.loop.rest.now (omega arith))
