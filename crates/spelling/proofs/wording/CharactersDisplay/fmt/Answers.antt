-- Each turn writes one part.
use Rattle.std.proofs.Common.{◌++◌, ◌∙◌, rules}
use Rattle.std.proofs.Output.{has_written_append, has_written_of_eq}
use Rattle.std.proofs.lemmas.List.{nil_from_length}
use Rattle.std.specs.Slice.Iter.{chunks_rest}
use Rattle.spelling.specs.Spelled.{chars_spelled}
use Rattle.spelling.proofs.Characters.{part_more, none_left}
use Rattle.spelling.proofs.wording.CharactersDisplay.fmt.Goals as goal

pub loop-part-preserved : goal.loop-part-preserved
loop-part-preserved g c = (
  search rules,
  tt,
  c.in-Some.ensures.steps.0 ∙ c.loop-part.invariant.2,
  λ plain.
      let so_far = c.loop-part.invariant.3 plain in (
        so_far.0 ++ chars_spelled c.args.self.now.quoted c.in-Some.part.now,
        has_written_append _ _ _ _ _ _ so_far.1 (search rules),
        part_more c.args.self.now.quoted c.args.self.now.bytes.now (chunks_rest c.loop-part.part-iterator) c.in-Some.part.now (chunks_rest c.next.new.self) so_far.0 c.in-Some.ensures.steps.1.0 so_far.2,
      ),
)

pub returns-clause-writes : goal.returns-clause-writes
returns-clause-writes g c = λ plain _.
    let so_far = c.loop-part.invariant.3 plain in
    let left = chunks_rest c.loop-part.part-iterator in
    has_written_of_eq _ _ _ _ _ (none_left c.args.self.now.quoted c.args.self.now.bytes.now left so_far.0 (nil_from_length left c.in-None.ensures.steps.1.0) so_far.2) so_far.1
