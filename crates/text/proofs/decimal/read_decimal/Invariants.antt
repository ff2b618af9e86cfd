-- What is still to read, behind what is read, is what there was to read.
use Rattle.std.proofs.Common.{◌≡◌, drop}
use Rattle.text.specs.Decimal.{undecimal, undecimal_from}
use Rattle.text.proofs.decimal.read_decimal.Given as goal

abbrev pub invariant-loop-i : goal.invariant-loop-i
invariant-loop-i l = undecimal l.text ≡ undecimal_from l.i l.n (drop l.i l.text)
