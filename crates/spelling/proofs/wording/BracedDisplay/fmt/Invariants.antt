-- What is written is what the acts before the index are written as.
use Rattle.std.proofs.Common.{map, take}
use Rattle.std.specs.Fmt.{HasWritten, IsPlainFormatter}
use Rattle.words.specs.Values.{act_of}
use Rattle.spelling.specs.Spelled.{piece_spelled, many}
use Rattle.spelling.proofs.wording.BracedDisplay.fmt.Given as goal

abbrev pub invariant-loop-act : goal.invariant-loop-act
invariant-loop-act g l = IsPlainFormatter l.initial.f → HasWritten g.W.Write.write_str_gives l.initial.f (many piece_spelled (map act_of (take l.act-index l.act-items))) l.f
