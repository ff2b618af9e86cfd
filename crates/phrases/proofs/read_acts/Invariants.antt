-- What is still to read, behind the acts that were read, is what there was to read.
use Rattle.std.proofs.Common.{◌≡◌, ◌-◌, map, length, vec_items}
use Rattle.words.specs.Values.{act_of}
use Rattle.words.specs.Words.{many_while}
use Rattle.phrases.specs.Acts.{acts_at, at_brace, piece_at}
use Rattle.words.proofs.Many.{before}
use Rattle.phrases.proofs.read_acts.Given as goal

abbrev pub invariant-loop : goal.invariant-loop
invariant-loop l = acts_at l.text ≡ before (map act_of (vec_items l.acts)) (many_while at_brace piece_at (length l.text - l.counter) l.rest)
