-- Each turn tells one of them.
use Rattle.std.proofs.Common.{string_bytes, sym, ◌∙◌, arith}
use Rattle.calls.specs.Format.{name_at}
use Rattle.replies.specs.Answers.{told, name_behind}
use Rattle.replies.proofs.Telling.{told_step, told_stop, told_end, left_stop}
use Rattle.replies.proofs.lists.tell_names.Goals as goal

pub returns-in_err-rest : goal.returns-in_err-rest
returns-in_err-rest c =
    left_stop c.from_residual.result c.in_err-rest.field-0.0 (string_bytes c.tell_name.new.out) (told (name_behind c.args.before.now) (string_bytes c.loop.out) (name_at c.loop.rest.now)) _ c.from_residual.ensures
    (λ e. sym (told_stop name_at (name_behind c.args.before.now) c.args.count c.loop.counter (string_bytes c.loop.out) c.loop.rest.now c.loop-test.true e) ∙ c.loop.invariant)
    c.in_err-rest.ensures

pub loop-preserved : goal.loop-preserved
loop-preserved c =
    sym (told_step name_at (name_behind c.args.before.now) c.args.count c.loop.counter (string_bytes c.loop.out) c.loop.rest.now c.loop-test.true (string_bytes c.tell_name.new.out) c.in_ok-rest.rest.now c.in_ok-rest.ensures) ∙ c.loop.invariant

pub returns : goal.returns
returns c = sym (told_end name_at (name_behind c.args.before.now) c.args.count c.loop.counter (string_bytes c.loop.out) c.loop.rest.now (omega arith)) ∙ c.loop.invariant
