use Rattle.std.proofs.Common.{ℕ, ◌+◌, ltb, length, sym, ap, ◌∙◌, subst, arith}
use Rattle.std.proofs.lemmas.Bool.{or_parts, ltb-false}
use Rattle.model.specs.Tree.{Do, Out, State, Done, values_in}
use Rattle.calls.specs.Reading.{acts_in}
use Rattle.cells.specs.Layout.{state_of}
use Rattle.cells.specs.Fits.{Fits}
use Rattle.tree.specs.Steps.{at_count}
use Rattle.doing.proofs.Keeping.{fits_stays}
use Rattle.tree.proofs.Weighs.{space}
use Rattle.drafts.proofs.Written.{written}
use Rattle.acts.specs.Several.{made_all}
use Rattle.acts.proofs.Readings.{count_is}
use Rattle.acts.proofs.Ends.{does_large, does_none, none_in, ran_answer, ran_fits}
use Rattle.acts.proofs.several.do_acts.Goals as goal

pub returns-then-too_large : goal.returns-then-too_large
returns-then-too_large c = record { answer = does_large c.args.current.room _ _ (sym c.if-too_large.ensures); stands = tt; fits = tt }

pub copy_all-size-requires : goal.copy_all-size-requires
copy_all-size-requires c =
    let room = space c.args.current.tree.bytes.now c.args.current.tree.places.now c.args.current.tree.holds c.args.current.fits.few in
    record { bytes = omega (arith, c.requires.left.bytes, c.args.current.fits.weighs); small = c.requires.left.small; words = omega (arith, c.requires.left.words, c.args.current.fits.weighs) }

pub returns-then-acts-eq0 : goal.returns-then-acts-eq0
returns-then-acts-eq0 c =
    let s = state_of c.args.current.tree.bytes.now c.args.current.tree.places.now in
    let all = acts_in c.args.acts.count c.args.acts.bytes.now in
    let next = c.copy_all-size.ensures.next in
    let answer = ap (λ (t : State). record { reply = Done (made_all all); state = t })
    (written (c.changes.result.0 + 1) _ _ _ next (omega (arith, c.changes.ensures, c.args.current.calm)) (omega (arith, c.top.ensures, c.args.current.fits.counts.top, c.args.current.calm)) c.top.ensures ∙ ap (λ (n : ℕ). at_count (n + 1) s) c.changes.ensures)
    ∙ does_none c.args.current.room all s (none_in c.args.acts.count c.args.acts.bytes.now c.if-acts-eq0.true) in
    record { answer = answer; stands = next.drafts; fits = subst (λ (y : Out). Fits c.args.current.room y.state) (sym answer) (fits_stays c.args.current.room (Do all) s c.args.current.calm c.args.current.fits) }

pub run_acts-requires : goal.run_acts-requires
run_acts-requires c =
    let all = acts_in c.args.acts.count c.args.acts.bytes.now in
    let small = or_parts (ltb 64 (length all)) (ltb 262144 (values_in all)) (sym c.if-too_large.ensures) in
    record {
      left = c.requires.left;
      right = c.requires.right;
      plain = c.requires.plain;
      some = omega arith;
      few = omega (arith, count_is c.args.acts.count c.args.acts.bytes.now c.args.acts.whole, ltb-false 64 (length all) small.0);
    }

pub returns : goal.returns
returns c =
    let s = state_of c.args.current.tree.bytes.now c.args.current.tree.places.now in
    let all = acts_in c.args.acts.count c.args.acts.bytes.now in
    let answer = ran_answer c.args.current.room all _ _ _ _ _ _ c.run_acts.result (sym c.if-too_large.ensures) c.run_acts.ensures.ran in
    record { answer = answer; stands = c.run_acts.ensures.stands; fits = ran_fits c.args.current.room all _ _ _ _ _ _ c.run_acts.result _ (fits_stays c.args.current.room (Do all) s c.args.current.calm c.args.current.fits) answer }
