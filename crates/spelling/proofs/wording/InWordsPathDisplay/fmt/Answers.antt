-- Each turn writes a / and one name.
use Rattle.std.proofs.Common.{ℕ, false, List, ◌++◌, map, take, codes, ap, ◌∙◌, rules}
use Rattle.std.proofs.Output.{has_written_append, has_written_of_eq}
use Rattle.words.specs.Values.{name_of}
use Rattle.spelling.specs.Spelled.{chars_spelled, name_spelled, many}
use Rattle.spelling.proofs.Loops.{many_more}
use Rattle.spelling.proofs.wording.InWordsPathDisplay.fmt.Goals as goal

pub loop-name-preserved : goal.loop-name-preserved
loop-name-preserved g c = λ plain.
    has_written_of_eq _ _ _ _ _
    (ap (λ (n : List ℕ). many name_spelled (map name_of (take c.loop-name.name-index c.deref-name-items.result.now)) ++ (codes "/" ++ chars_spelled false n)) c.deref.ensures.value
    ∙ many_more name_of name_spelled c.deref-name-items.result.now c.loop-name.name-index c.name-item.result c.loop-name-test.true c.name-item.is)
    (has_written_append _ _ _ _ _ _ (c.loop-name.invariant plain) (search rules))
