-- What is written is what the names before the index are written as.
use Rattle.std.proofs.Common.{map, take}
use Rattle.std.specs.Fmt.{HasWritten, IsPlainFormatter}
use Rattle.words.specs.Values.{name_of}
use Rattle.spelling.specs.Spelled.{name_spelled, many}
use Rattle.spelling.proofs.wording.InWordsPathDisplay.fmt.Given as goal

abbrev pub invariant-loop-name : goal.invariant-loop-name
invariant-loop-name g l = IsPlainFormatter l.initial.f → HasWritten g.W.Write.write_str_gives l.initial.f (many name_spelled (map name_of (take l.name-index l.name-items))) l.f
