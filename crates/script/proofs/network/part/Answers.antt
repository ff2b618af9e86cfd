-- Each turn takes the first of what is left, and puts it behind those on the link or behind the others.
use Rattle.std.proofs.Common.{not, List, ◌++◌, vec_items, sym, ap, ◌∙◌}
use Rattle.std.specs.Vec.Iter.{into_iter_items}
use Rattle.std.proofs.lemmas.List.{nil_from_length}
use Rattle.model.specs.Tree.{keep}
use Rattle.script.specs.declared.network.Letter.{Letter}
use Rattle.script.specs.Network.{is_on, is_off}
use Rattle.script.proofs.Kept.{takes, leaves, ends}
use Rattle.script.proofs.network.part.Goals as goal

pub loop-letter-preserved-in-Continue-1 : goal.loop-letter-preserved-in-Continue-1
loop-letter-preserved-in-Continue-1 c =
    let on = sym c.if-is_on.ensures in
    let step = c.in-Some.ensures.steps.0 in (
      takes (is_on c.args.link) _ (vec_items c.loop-letter.taken) (into_iter_items c.loop-letter.letter-iterator) (into_iter_items c.next.new.self) c.in-Some.letter
          c.loop-letter.invariant.0
          step
          on
          ∙ ap (λ (xs : List Letter). xs ++ keep (is_on c.args.link) (into_iter_items c.next.new.self)) (sym c.in_ok-push.ensures.items),
      leaves (is_off c.args.link) _ (vec_items c.loop-letter.left) (into_iter_items c.loop-letter.letter-iterator) (into_iter_items c.next.new.self) c.in-Some.letter
          c.loop-letter.invariant.1
          step
          (ap not on),
    )

pub loop-letter-preserved : goal.loop-letter-preserved
loop-letter-preserved c =
    let off = sym c.if-is_on.ensures in
    let step = c.in-Some.ensures.steps.0 in (
      leaves (is_on c.args.link) _ (vec_items c.loop-letter.taken) (into_iter_items c.loop-letter.letter-iterator) (into_iter_items c.next.new.self) c.in-Some.letter
          c.loop-letter.invariant.0
          step
          off,
      takes (is_off c.args.link) _ (vec_items c.loop-letter.left) (into_iter_items c.loop-letter.letter-iterator) (into_iter_items c.next.new.self) c.in-Some.letter
          c.loop-letter.invariant.1
          step
          (ap not off)
          ∙ ap (λ (xs : List Letter). xs ++ keep (is_off c.args.link) (into_iter_items c.next.new.self)) (sym c.in_ok-push-2.ensures.items),
    )

pub returns : goal.returns
returns c =
    let none = nil_from_length (into_iter_items c.loop-letter.letter-iterator) (sym c.loop-letter.letter-iterator.rest.ok.0 ∙ c.in-None.ensures.steps.0) in
    let whole = c.into_iter-letter-iterator.ensures.into_iter_gives.0 in (
      ends (is_on c.args.link) _ (vec_items c.loop-letter.taken) (into_iter_items c.loop-letter.letter-iterator) c.loop-letter.invariant.0 none ∙ ap (keep (is_on c.args.link)) whole,
      ends (is_off c.args.link) _ (vec_items c.loop-letter.left) (into_iter_items c.loop-letter.letter-iterator) c.loop-letter.invariant.1 none ∙ ap (keep (is_off c.args.link)) whole,
    )
