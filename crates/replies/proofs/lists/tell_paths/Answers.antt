-- Each turn tells one of them.
use Rattle.std.proofs.Common.{string_bytes, sym, ◌∙◌, arith}
use Rattle.calls.specs.Format.{path_at}
use Rattle.replies.specs.Answers.{told, path_behind}
use Rattle.replies.proofs.Telling.{told_step, told_stop, told_end, left_stop}
use Rattle.replies.proofs.lists.tell_paths.Goals as goal

pub returns-in_err-rest : goal.returns-in_err-rest
returns-in_err-rest c =
    left_stop c.from_residual.result c.in_err-rest.field-0.0 (string_bytes c.tell_path.new.out) (told path_behind (string_bytes c.loop.out) (path_at c.loop.rest.now)) _ c.from_residual.ensures
    (λ e. sym (told_stop path_at path_behind c.args.count c.loop.counter (string_bytes c.loop.out) c.loop.rest.now c.loop-test.true e) ∙ c.loop.invariant)
    c.in_err-rest.ensures

pub loop-preserved : goal.loop-preserved
loop-preserved c =
    sym (told_step path_at path_behind c.args.count c.loop.counter (string_bytes c.loop.out) c.loop.rest.now c.loop-test.true (string_bytes c.tell_path.new.out) c.in_ok-rest.rest.now c.in_ok-rest.ensures) ∙ c.loop.invariant

pub returns : goal.returns
returns c = sym (told_end path_at path_behind c.args.count c.loop.counter (string_bytes c.loop.out) c.loop.rest.now (omega arith)) ∙ c.loop.invariant
