-- What is written is what the bytes before the index are written as, and short enough to leave room for the others.
use Rattle.std.proofs.Common.{◌*◌, ◌≤◌, IsAscii, take}
use Rattle.lent_bytes.specs.Writers.{Wrote}
use Rattle.spelling.specs.Spelled.{chars_spelled}
use Rattle.spelling.proofs.wording.spell_part.Given as goal

abbrev pub invariant-loop-byte : goal.invariant-loop-byte
invariant-loop-byte l = record {
  short : l.text.used ≤ 4 * l.byte-index;
  ascii : IsAscii (chars_spelled l.quoted (take l.byte-index l.bytes));
  wrote : Wrote l.initial.text (chars_spelled l.quoted (take l.byte-index l.bytes)) l.text;
}
