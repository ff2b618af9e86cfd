use Rattle.std.proofs.Common.{◌≡◌, ℕ, ◌+◌, Some, None, Option, sym, refl, ap, ◌∙◌, arith}
use Rattle.model.specs.Tree.{Failed}
use Rattle.calls.specs.Reading.{act_of}
use Rattle.cells.specs.Layout.{state_of}
use Rattle.tree.specs.Answers.{reason}
use Rattle.acts.specs.declared.several.Refused.{Refused}
use Rattle.acts.proofs.Readings.{is_read, read_as}
use Rattle.acts.proofs.Runs.{acting_first, acting_stop, acting_ready, acting_plain, plain_kind, acting_refused, acting_more, acting_end, count_last, count_before, stands_same, stands_as}
use Rattle.acts.proofs.several.run_acts.Goals as goal
use Rattle.acts.proofs.several.run_acts.Goals.{else-acts-test, then-acts-test+in-Err, then-n-acts, else-n-acts}

pub acts-init : goal.acts-init
acts-init c = (refl, acting_first _ _ _ _ c.args.acts.whole c.requires.plain c.args.current.fits c.requires.some, c.args.current.tree.holds)

pub unwrap-requires : goal.unwrap-requires
unwrap-requires c = is_read c.read_act.result _ c.read_act.ensures (acting_stop _ _ _ _ _ _ _ c.acts.invariant.1 c.acts-test.true)

pub do_next-requires : goal.do_next-requires
do_next-requires c =
    let act = c.unwrap.result.0 in
    record {
      stands = c.acts.invariant.2;
      ready = acting_ready _ _ _ _ _ _ _ c.acts.invariant.1 c.acts-test.true c.args.current.calm c.args.current.fits c.requires.few;
      left = record { bytes = omega arith; small = omega arith; words = omega arith };
      right = record { bytes = omega arith; small = omega arith; words = omega arith };
      plain = plain_kind act.kind _ _ (acting_plain _ _ _ _ _ _ _ c.acts.invariant.1 c.acts-test.true (act_of act) _ (read_as c.read_act.result c.unwrap.result _ c.read_act.ensures c.unwrap.ensures));
    }

pub acts-preserved : goal.acts-preserved
acts-preserved c =
    let s = state_of c.args.current.tree.bytes.now c.args.current.tree.places.now in
    let count : c.if-n-acts.changes.0 ≡ _ =
    elim c.if-n-acts.branch [
      | then-n-acts w ↦ count_last c.acts.n c.args.acts.count s.changes c.if-n-acts.changes.0 w.if-n-acts.true (ap (λ x. x.0) w.changes-is ∙ ap (λ (n : ℕ). n + 1) c.changes-before.ensures)
      | else-n-acts w ↦ count_before c.acts.n c.args.acts.count s.changes c.if-n-acts.changes.0 c.acts-test.true w.if-n-acts.false (ap (λ x. x.0) w.changes-is ∙ c.changes-before.ensures)
    ] in (
      c.acts.invariant.0,
      acting_more _ _ s _ _ _ _ c.acts.invariant.1 c.acts-test.true _ _ (read_as c.read_act.result c.unwrap.result _ c.read_act.ensures c.unwrap.ensures) c.if-n-acts.changes.0 _ c.in-Ok.ensures.step count,
      c.in-Ok.ensures.stands,
    )

-- the refusal that was kept
kept_refusal : (a b : Refused) (o : Option Refused) → o ≡ Some a → o ≡ Some b → a ≡ b
kept_refusal a b o e f = cc

none_kept : {X : Type 0} (a : Refused) (o : Option Refused) → o ≡ Some a → o ≡ None → X
none_kept a o e f = absurd (let z : ◌≡◌ {A = ℕ} 0 1 = cc in omega arith)

pub returns-in-Some : goal.returns-in-Some
returns-in-Some c =
    elim c.acts-test.branch [
      | else-acts-test w ↦ none_kept c.in-Some.refused _ c.in-Some.is (w.refused-is ∙ c.acts.invariant.0)
      | then-acts-test+in-Err w ↦ record {
        ran = acting_refused _ _ _ _ _ _ _ c.acts.invariant.1 w.acts-test.true _ _ (read_as w.read_act.result w.unwrap.result _ w.read_act.ensures w.unwrap.ensures) _ _ w.in-Err.ensures.step ∙
            ap (λ (k : Refused). Failed k.act (reason k.refusal)) (kept_refusal _ c.in-Some.refused _ w.refused-is c.in-Some.is);
        stands = tt;
      }
    ]

pub returns-in-None : goal.returns-in-None
returns-in-None c =
    elim c.acts-test.branch [
      | else-acts-test w ↦
          let end = acting_end _ _ _ _ _ _ _ c.acts.invariant.1 w.acts-test.false in
          record {
            ran = (end.0, end.1, end.2, stands_same c.acts.stands _ _ _ _ _ _ _ _ _ _ w.left-is w.lefts-is w.right-is w.rights-is ∙ end.3);
            stands = stands_as c.acts.stands _ _ _ _ _ _ _ _ _ _ w.left-is w.lefts-is w.right-is w.rights-is c.acts.invariant.2;
          }
      | then-acts-test+in-Err w ↦ none_kept _ _ w.refused-is c.in-None.is
    ]
