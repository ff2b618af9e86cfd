-- Each way out, and each turn, is one step of the definition.
use Rattle.std.proofs.Common.{sym, ◌∙◌, arith}
use Rattle.std.proofs.lemmas.Bool.Decides.{nat_tests}
use Rattle.text.proofs.DecimalSteps.{digit_step, digits_end}
use Rattle.text.proofs.decimal.read_decimal.Goals as goal

pub returns-then-not-is_ascii_digit : goal.returns-then-not-is_ascii_digit
returns-then-not-is_ascii_digit c = let s = digit_step c.args.text.now c.loop-i.i c.loop-i.n c.loop-i-test.true in grind (arith, nat_tests)

pub returns-then-n-digit : goal.returns-then-n-digit
returns-then-n-digit c = let s = digit_step c.args.text.now c.loop-i.i c.loop-i.n c.loop-i-test.true in grind (arith, nat_tests)

pub loop-i-preserved : goal.loop-i-preserved
loop-i-preserved c = let s = digit_step c.args.text.now c.loop-i.i c.loop-i.n c.loop-i-test.true in grind (arith, nat_tests)

pub returns : goal.returns
returns c = sym (c.loop-i.invariant ∙ digits_end c.args.text.now c.loop-i.i c.loop-i.n c.loop-i-test.false)
