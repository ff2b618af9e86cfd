-- The place of the first character that ends a word is where the word ends.
use Rattle.std.proofs.Common.{rules, tests, ◌∙◌}
use Rattle.std.proofs.lemmas.Iterator.{YieldsList-from_slice}
use Rattle.std.proofs.lemmas.Iterator.Search.{position_from_yields_List}
use Rattle.words.proofs.WordSteps.{ender, word_cut, word_whole}
use Rattle.words.proofs.reading.cut_word.Goals as goal

pub returns-in-Some : goal.returns-in-Some
returns-in-Some c =
    let cut =
    word_cut c.args.text.now c.in-Some.i (position_from_yields_List ender _ _ _ c.in-Some.ensures.ran (YieldsList-from_slice _ c.iter.ensures.rest) (λ x b q k. search (rules, tests))) in
    record { word = c.split_at.ensures.front ∙ cut.0; rest = c.split_at.ensures.back ∙ cut.1 }

pub returns-in-None : goal.returns-in-None
returns-in-None c =
    let whole = word_whole c.args.text.now (position_from_yields_List ender _ _ _ c.in-None.ensures.ran (YieldsList-from_slice _ c.iter.ensures.rest) (λ x b q k. search (rules, tests))) in
    record { word = whole.0; rest = whole.1 }
