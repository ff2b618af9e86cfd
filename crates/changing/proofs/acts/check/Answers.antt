use Rattle.std.proofs.Common.{◌≡◌, Err, [], ◌∙◌, arith}
use Rattle.model.specs.Tree.{Good, weight}
use Rattle.cells.specs.Layout.{state_of}
use Rattle.tree.proofs.Weighs.{space, not_over, refuse, done}
use Rattle.changing.proofs.Doings.{check_is}
use Rattle.drafts.proofs.Written.{written}
use Rattle.changing.proofs.acts.check.Goals as goal

pub copy_all-requires : goal.copy_all-requires
copy_all-requires c =
    let room = space c.args.base.tree.bytes.now c.args.base.tree.places.now c.args.base.tree.holds c.args.base.ready.few in
    record { bytes = omega arith; small = omega arith; words = omega arith }

pub returns-in_err-find_expected-clause-step : goal.returns-in_err-find_expected-clause-step
returns-in_err-find_expected-clause-step c =
    let s = state_of c.args.base.tree.bytes.now c.args.base.tree.places.now in
    let is : c.from_residual.result ≡ Err c.in_err-find_expected.field-0.0 = grind arith in
    rw is (refuse c.args.base.changes.0 c.args.base.room s _ _ (check_is _ _ s ∙ c.in_err-find_expected.ensures.sought (Good [] s)))

pub returns : goal.returns
returns c =
    let s = state_of c.args.base.tree.bytes.now c.args.base.tree.places.now in
    let next = c.copy_all.ensures.next in
    record {
      step = done c.args.base.changes.0 c.args.base.room s _ [] s (check_is _ _ s ∙ c.in_ok-find_expected.ensures.sought.0 (Good [] s)) _ (not_over c.args.base.room (weight s) (weight s) (omega arith))
          (written c.args.base.changes.0 _ _ _ next (omega arith) (omega arith) c.top.ensures);
      drafts = next.drafts;
    }
