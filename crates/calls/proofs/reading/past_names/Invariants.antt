use Rattle.std.proofs.Common.{◌≡◌, ◌-◌}
use Rattle.calls.specs.Format.{name_at}
use Rattle.calls.specs.Reading.{past}
use Rattle.calls.proofs.reading.past_names.Given as goal

abbrev pub invariant-loop : goal.invariant-loop
invariant-loop l = past name_at l.count l.bytes ≡ past name_at (l.count - l.counter) l.rest
