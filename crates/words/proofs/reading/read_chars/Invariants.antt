-- What is still to read, behind the characters that were read, is what there was to read.
use Rattle.std.proofs.Common.{◌≤◌, length, vec_items}
use Rattle.words.specs.Words.{chars_at, is_over, char_at}
use Rattle.words.proofs.Many.{IsLeft}
use Rattle.words.proofs.reading.read_chars.Given as goal

abbrev pub invariant-loop-rest : goal.invariant-loop-rest
invariant-loop-rest l =
    record {
      within : length l.rest ≤ length l.text;
      left : IsLeft (is_over l.quoted) char_at (chars_at l.quoted l.text) (vec_items l.chars) l.rest;
    }

abbrev pub decreases-loop-rest : goal.decreases-loop-rest
decreases-loop-rest l = length l.rest
