-- What is still to read, behind the bytes that were read, is what there was to read.
use Rattle.std.proofs.Common.{◌≡◌, ◌*◌, drop, vec_items}
use Rattle.text.specs.Hex.{unhex, unhex_from, bytes_before}
use Rattle.text.proofs.hex.read_hex.Given as goal

abbrev pub invariant-loop-i : goal.invariant-loop-i
invariant-loop-i l = unhex l.text ≡ bytes_before (vec_items l.out) (unhex_from (2 * l.i) (drop (2 * l.i) l.text))
