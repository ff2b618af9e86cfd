-- The place of the first character that is no space is where the spaces end.
use Rattle.std.proofs.Common.{rules, tests, ◌∙◌}
use Rattle.std.proofs.lemmas.Iterator.{YieldsList-from_slice}
use Rattle.std.proofs.lemmas.Iterator.Search.{position_from_yields_List}
use Rattle.std.proofs.lemmas.List.{take_rest}
use Rattle.words.proofs.WordSteps.{no_space, unspaced_from, unspaced_none}
use Rattle.words.proofs.reading.skip_spaces.Goals as goal

pub returns-in-Some : goal.returns-in-Some
returns-in-Some c =
    take_rest c.args.text.now c.in-Some.i
    ∙ unspaced_from c.args.text.now c.in-Some.i (position_from_yields_List no_space _ _ _ c.in-Some.ensures.ran (YieldsList-from_slice _ c.iter.ensures.rest) (λ x b q k. search (rules, tests)))

pub returns-in-None : goal.returns-in-None
returns-in-None c =
    unspaced_none c.args.text.now (position_from_yields_List no_space _ _ _ c.in-None.ensures.ran (YieldsList-from_slice _ c.iter.ensures.rest) (λ x b q k. search (rules, tests)))
