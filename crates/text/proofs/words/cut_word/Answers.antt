-- The place of the first space is where the word ends.
use Rattle.std.proofs.Common.{◌+◌, rules, tests, ◌∙◌}
use Rattle.std.proofs.lemmas.Iterator.{YieldsList-from_slice}
use Rattle.std.proofs.lemmas.Iterator.Search.{position_from_yields_List}
use Rattle.std.proofs.lemmas.List.{take_rest}
use Rattle.text.proofs.WordSteps.{space, word_cut, word_whole}
use Rattle.text.proofs.words.cut_word.Goals as goal

pub returns-in-Some : goal.returns-in-Some
returns-in-Some c =
    let cut =
    word_cut c.args.line.now c.in-Some.i (position_from_yields_List space _ _ _ c.in-Some.ensures.ran (YieldsList-from_slice _ c.iter.ensures.rest) (λ x b q k. search (rules, tests))) in
    record { word = cut.0; rest = take_rest c.args.line.now (c.in-Some.i + 1) ∙ cut.1 }

pub returns-in-None : goal.returns-in-None
returns-in-None c =
    let whole = word_whole c.args.line.now (position_from_yields_List space _ _ _ c.in-None.ensures.ran (YieldsList-from_slice _ c.iter.ensures.rest) (λ x b q k. search (rules, tests))) in
    record { word = whole.0; rest = whole.1 }
