-- Each turn copies one letter, or passes it by.
use Rattle.std.proofs.Common.{ℕ, List, [], ◌∷◌, ◌++◌, map, take, vec_items, Vec, sym, ap, ◌∙◌}
use Rattle.std.specs.declared.alloc.Global.{Global}
use Rattle.std.proofs.lemmas.List.{map_push}
use Rattle.model.specs.Tree.{keep}
use Rattle.script.specs.declared.network.Letter.{Letter}
use Rattle.script.specs.Network.{is_on, contents}
use Rattle.script.proofs.Kept.{keep_none, next_yes, next_no}
use Rattle.script.proofs.network.copies.Goals as goal
use Rattle.script.proofs.network.copies.Goals.{then-is_on+in_ok-copy+in_ok-push, else-is_on}

pub loop-letter-init : goal.loop-letter-init
loop-letter-init c = ap (map contents) (c.new-taken.ensures.items ∙ sym (keep_none (is_on c.args.link)))

pub loop-letter-preserved : goal.loop-letter-preserved
loop-letter-preserved c =
    elim c.if-is_on.branch [
      | then-is_on+in_ok-copy+in_ok-push w ↦
          ap (λ (v : Vec Letter Global). map contents (vec_items v)) w.taken-is
          ∙ (ap (map contents) w.in_ok-push.ensures.items
          ∙ (map_push contents (vec_items c.loop-letter.taken) _
          ∙ (ap (λ (xs : List (ℕ × (ℕ × List ℕ))). xs ++ (contents w.in_ok-copy.field-0 ∷ [])) c.loop-letter.invariant
          ∙ (ap (λ (y : ℕ × (ℕ × List ℕ)). map contents (keep (is_on c.args.link) (take c.loop-letter.letter-index c.args.letters.now)) ++ (y ∷ [])) w.in_ok-copy.ensures
          ∙ (sym (map_push contents (keep (is_on c.args.link) (take c.loop-letter.letter-index c.args.letters.now)) c.letter-item.result)
          ∙ ap (map contents)
          (sym
          (next_yes (is_on c.args.link) c.args.letters.now c.loop-letter.letter-index c.letter-item.result c.loop-letter-test.true c.letter-item.is
          (sym w.if-is_on.ensures))))))))
      | else-is_on w ↦
          ap (λ (v : Vec Letter Global). map contents (vec_items v)) w.taken-is
          ∙ (c.loop-letter.invariant
          ∙ ap (map contents)
          (sym
          (next_no (is_on c.args.link) c.args.letters.now c.loop-letter.letter-index c.letter-item.result c.loop-letter-test.true c.letter-item.is
          (sym w.if-is_on.ensures))))
    ]
