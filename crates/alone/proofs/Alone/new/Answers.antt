-- The buffers are long enough, and the first tree lies in one of them.
use Rattle.std.proofs.Common.{ℕ, List, length, take, vec_items, sym, ap, ◌∙◌, subst, arith}
use Rattle.std.specs.Vec.{with_items}
use Rattle.std.proofs.lemmas.List.{with_items_is}
use Rattle.cells.specs.Fits.{Fits}
use Rattle.content.specs.Content.{is_tree}
use Rattle.alone.specs.Standing.{stands_for}
use Rattle.alone.proofs.Turns.{same_length, written}
use Rattle.alone.proofs.Blank.{blank_fits, enough}
use Rattle.alone.proofs.Alone.new.Goals as goal

pub invariant_of-result-clause-is : goal.invariant_of-result-clause-is
invariant_of-result-clause-is c =
    let first =
    written c.min-room.result c.start_blank-size.new.out c.start_blank-size.new.places c.start_blank-size.result c.start_blank-size.ensures.drafts
    (subst (Fits c.min-room.result) (sym c.start_blank-size.ensures.state) (blank_fits c.min-room.result)) in
    let same = with_items_is c.in_ok-tree.tree c.start_blank-size.new.out (c.start_blank-size.auto.out ∙ c.as_mut_slice.ensures.len) in
    ap (λ (l : List ℕ). is_tree c.min-room.result (take c.start_blank-size.result.used l)) same ∙ first.0

pub invariant_of-result-clause-inside : goal.invariant_of-result-clause-inside
invariant_of-result-clause-inside c =
    let same = with_items_is c.in_ok-tree.tree c.start_blank-size.new.out (c.start_blank-size.auto.out ∙ c.as_mut_slice.ensures.len) in omega (arith, c.start_blank-size.ensures.drafts.inside, ap length same)

pub invariant_of-result-clause-first : goal.invariant_of-result-clause-first
invariant_of-result-clause-first c =
    enough c.min-room.result (vec_items (with_items c.in_ok-tree.tree c.start_blank-size.new.out)) (vec_items (with_items c.in_ok-last.last c.start_blank-size.new.places))
    (same_length c.in_ok-tree.tree c.start_blank-size.new.out ∙ (sym c.in_ok-tree.tree.ok.0 ∙ c.in_ok-tree.ensures.len))
    (same_length c.in_ok-last.last c.start_blank-size.new.places ∙ (sym c.in_ok-last.last.ok.0 ∙ c.in_ok-last.ensures.len))
    (omega (arith, c.min-room.ensures))

pub returns : goal.returns
returns c =
    let first =
    written c.min-room.result c.start_blank-size.new.out c.start_blank-size.new.places c.start_blank-size.result c.start_blank-size.ensures.drafts
    (subst (Fits c.min-room.result) (sym c.start_blank-size.ensures.state) (blank_fits c.min-room.result)) in
    let same = with_items_is c.in_ok-tree.tree c.start_blank-size.new.out (c.start_blank-size.auto.out ∙ c.as_mut_slice.ensures.len) in
    (c.min-room.ensures, ap (λ (l : List ℕ). stands_for l c.start_blank-size.result.used) same ∙ (first.1 ∙ c.start_blank-size.ensures.state))
