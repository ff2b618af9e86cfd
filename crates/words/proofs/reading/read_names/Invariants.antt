-- What is still to read, behind the names that were read, is what there was to read.
use Rattle.std.proofs.Common.{map, length, vec_items}
use Rattle.words.specs.Values.{name_of}
use Rattle.words.specs.Words.{names_at, no_slash, slash_name}
use Rattle.words.proofs.Many.{IsLeft}
use Rattle.words.proofs.reading.read_names.Given as goal

abbrev pub invariant-loop-heap : goal.invariant-loop-heap
invariant-loop-heap l = IsLeft no_slash slash_name (names_at l.text) (map name_of (vec_items l.names)) l.rest

abbrev pub decreases-loop-heap : goal.decreases-loop-heap
decreases-loop-heap l = length l.rest
