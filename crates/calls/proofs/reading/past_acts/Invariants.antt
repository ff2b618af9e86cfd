use Rattle.std.proofs.Common.{◌≡◌, ◌-◌}
use Rattle.calls.specs.Format.{act_at}
use Rattle.calls.specs.Reading.{past}
use Rattle.calls.proofs.reading.past_acts.Given as goal

abbrev pub invariant-loop : goal.invariant-loop
invariant-loop l = past act_at l.count l.bytes ≡ past act_at (l.count - l.counter) l.rest
