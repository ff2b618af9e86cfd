-- What is written is what the bytes before the index write.
use Rattle.std.proofs.Common.{◌≡◌, ◌++◌, take, vec_items}
use Rattle.text.specs.Hex.{hex_of}
use Rattle.text.proofs.hex.push_hex.Given as goal

abbrev pub invariant-loop-b : goal.invariant-loop-b
invariant-loop-b l = vec_items l.out ≡ vec_items l.initial.out ++ hex_of (take l.b-index l.bytes)
