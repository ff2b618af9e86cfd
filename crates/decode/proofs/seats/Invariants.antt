use Rattle.decode.proofs.Seating.{Seated}
use Rattle.decode.proofs.seats.Given as goal

abbrev pub invariant-loop-i : goal.invariant-loop-i
invariant-loop-i l = Seated l.bytes l.i l.places l.outcomes l.rest
