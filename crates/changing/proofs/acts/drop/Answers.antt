use Rattle.std.proofs.Common.{◌≡◌, Err, ◌<◌, not, [], sym, refl, ◌∙◌, arith, rules}
use Rattle.model.specs.Tree.{Path, Entry, State, at, keep, weight, with_entries}
use Rattle.lent_bytes.specs.Paths.{path_of}
use Rattle.cells.specs.Layout.{state_of}
use Rattle.drafts.proofs.Grows.{next}
use Rattle.tree.proofs.Weighs.{space, keep_weighs, not_over, refuse, done}
use Rattle.changing.proofs.Doings.{drop_is, with_kids, without_kids}
use Rattle.drafts.proofs.Written.{written}
use Rattle.changing.proofs.acts.drop.Goals as goal

-- the state without what is at a path
abbrev without : Path → State → State
without p s = with_entries (keep (λ (e : Entry). not (at p e)) s.entries) s

pub returns-in_err-find_expected-clause-step : goal.returns-in_err-find_expected-clause-step
returns-in_err-find_expected-clause-step c =
    let s = state_of c.args.base.tree.bytes.now c.args.base.tree.places.now in
    let is : c.from_residual.result ≡ Err c.in_err-find_expected.field-0.0 = grind arith in
    rw is (refuse c.args.base.changes.0 c.args.base.room s _ _ (drop_is _ _ s ∙ c.in_err-find_expected.ensures.sought _))

pub returns-then-has_kids : goal.returns-then-has_kids
returns-then-has_kids c =
    let s = state_of c.args.base.tree.bytes.now c.args.base.tree.places.now in
    record { step = refuse c.args.base.changes.0 c.args.base.room s _ 5 (drop_is _ _ s ∙ c.in_ok-find_expected.ensures.sought.0 _ ∙ with_kids _ s _ (sym c.if-has_kids.ensures)); drafts = tt }

pub start-begun-requires : goal.start-begun-requires
start-begun-requires c =
    let room = space c.args.base.tree.bytes.now c.args.base.tree.places.now c.args.base.tree.holds c.args.base.ready.few in
    record { room = omega arith; small = omega arith; more = omega arith }

pub push_others-requires : goal.push_others-requires
push_others-requires c =
    let room = space c.args.base.tree.bytes.now c.args.base.tree.places.now c.args.base.tree.holds c.args.base.ready.few in
    let begun = c.start-begun.ensures.begun in
    record { drafts = begun.drafts; room = omega arith; small = omega arith; more = omega arith }

pub returns : goal.returns
returns c =
    let s = state_of c.args.base.tree.bytes.now c.args.base.tree.places.now in
    let p = path_of c.args.path.names.now in
    let t = without p s in
    let fits : c.args.base.changes.0 < 18446744073709551616 = search rules in
    let light = keep_weighs (λ (e : Entry). not (at p e)) s.entries in
    record {
      step = done c.args.base.changes.0 c.args.base.room s _ [] t (drop_is _ _ s ∙ c.in_ok-find_expected.ensures.sought.0 _ ∙ without_kids _ s _ (sym c.if-has_kids.ensures)) _
          (not_over c.args.base.room (weight s) (weight t) (omega arith))
          (written c.args.base.changes.0 _ _ _ (next refl c.start-begun.ensures.begun c.push_others.ensures) fits (omega arith) c.top.ensures);
      drafts = c.push_others.ensures.drafts;
    }
