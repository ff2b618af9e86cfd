-- The replica afterwards stands for what one clerk leaves, and what it says is what one clerk says.
use Rattle.std.proofs.Common.{◌≡◌, None, Some, length, take, vec_items, refl, ◌∙◌, arith}
use Rattle.std.proofs.lemmas.List.{with_items_is}
use Rattle.alone.proofs.Turns.{silent, lies, seen_as, answer_told}
use Rattle.alone.proofs.Alone.ask.Goals as goal

pub returns-in_default-clause-told : goal.returns-in_default-clause-told
returns-in_default-clause-told c =
    let long = c.answer_at.ensures.long in
    let same : length c.answer_at.new.next ≡ length (vec_items c.args.self.now.next) = (c.answer_at.auto.next ∙ c.as_mut_slice.ensures.len) ∙ c.args.self.now.next.ok.0 in (
      silent c.args.self.now.room (take c.args.self.now.used (vec_items c.args.self.now.tree)) c.args.call.now (vec_items c.answer_at.new.desk.last) c.answer_at.new.next (vec_items c.answer_at.new.desk.places) (vec_items c.answer_at.new.desk.reply) c.args.self.now.is
          (omega (arith, same, c.args.self.now.second.0), omega (arith, same, c.args.self.now.second.1), omega (arith, long.1, c.args.self.now.second.2))
          (omega (arith, long.0, c.args.self.now.first.2))
          (omega (arith, long.2, c.args.self.now.speaks.0))
          (omega (arith, long.2, c.args.self.now.speaks.1))
          (seen_as c.args.self.now.room c.args.self.now.used c.args.call.now c.as_slice.result.now (vec_items c.args.self.now.tree) None (vec_items c.answer_at.new.desk.last) c.answer_at.new.next (vec_items c.answer_at.new.desk.places) (vec_items c.answer_at.new.desk.reply) c.as_slice.ensures.value c.in_default.ensures.answered),
      refl,
    )

pub turn-requires : goal.turn-requires
turn-requires c =
    lies c.args.self.now.room c.args.call.now _ c.in-Some.answered c.answer_at.new.next _ (vec_items c.answer_at.new.desk.places) (vec_items c.answer_at.new.desk.reply)
    (with_items_is c.args.self.now.next c.answer_at.new.next (c.answer_at.auto.next ∙ c.as_mut_slice.ensures.len))
    c.in-Some.ensures.answered

pub returns-clause-told : goal.returns-clause-told
returns-clause-told c =
    answer_told c.args.self.now.room c.args.self.now.used c.args.call.now (vec_items c.args.self.now.tree) c.answer_at.new.next _ (vec_items c.answer_at.new.desk.places) (vec_items c.answer_at.new.desk.reply) c.in-Some.answered _ _ _
    (with_items_is c.args.self.now.next c.answer_at.new.next (c.answer_at.auto.next ∙ c.as_mut_slice.ensures.len))
    c.turn.ensures.tree.0
    c.turn.ensures.tree.1
    ((λ i. take (c.turn.ensures.kept.1 i) (c.turn.ensures.kept.2 i).reply.items))
    (seen_as c.args.self.now.room c.args.self.now.used c.args.call.now c.as_slice.result.now (vec_items c.args.self.now.tree) (Some c.in-Some.answered) (vec_items c.answer_at.new.desk.last) c.answer_at.new.next (vec_items c.answer_at.new.desk.places) (vec_items c.answer_at.new.desk.reply) c.as_slice.ensures.value c.in-Some.ensures.answered)
