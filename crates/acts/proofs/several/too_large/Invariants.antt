use Rattle.std.proofs.Common.{◌-◌}
use Rattle.calls.specs.Reading.{acts_in}
use Rattle.acts.proofs.Readings.{Summed}
use Rattle.acts.proofs.several.too_large.Given as goal

abbrev pub invariant-loop-n : goal.invariant-loop-n
invariant-loop-n l = Summed (acts_in l.acts.count l.acts.bytes.now) (l.acts.count - l.n) l.rest l.sum
