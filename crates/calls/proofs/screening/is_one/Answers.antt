use Rattle.std.proofs.Common.{◌≡◌, ℕ, sym, ap, ◌∙◌}
use Rattle.model.specs.Tree.{one}
use Rattle.calls.specs.Reading.{act_of, acts_in, path_now}
use Rattle.calls.proofs.Screens.{many_not_core, one_act, no_act, plain_one}
use Rattle.calls.proofs.screening.is_one.Goals as goal

pub returns-then-acts-ne1 : goal.returns-then-acts-ne1
returns-then-acts-ne1 c = sym (many_not_core c.args.acts.count c.args.acts.bytes.now c.args.acts.whole (λ e. c.if-acts-ne1.true e))

pub returns-in_default : goal.returns-in_default
unfolding one
returns-in_default c =
    let n : c.args.acts.count ≡ 1 = c.if-acts-ne1.false in
    sym (ap (λ (k : ℕ). one (acts_in k c.args.acts.bytes.now)) n ∙ ap one (no_act c.args.acts.bytes.now (sym c.in_default.ensures)))

pub returns : goal.returns
returns c =
    let n : c.args.acts.count ≡ 1 = c.if-acts-ne1.false in
    c.is_plain.ensures ∙ plain_one c.in-Some.act.kind (path_now c.in-Some.act.path) c.in-Some.act.value.now ∙
    sym (ap (λ (k : ℕ). one (acts_in k c.args.acts.bytes.now)) n ∙ ap one (one_act c.args.acts.bytes.now (act_of c.in-Some.act) _ (sym c.in-Some.ensures)))
