use Rattle.std.proofs.Common.{◌≡◌, ◌+◌, ◌*◌, length, take}
use Rattle.lent_bytes.specs.Writers.{Wrote}
use Rattle.wire.specs.Messages.{seats_bytes}
use Rattle.encode.proofs.write_seats.Given as goal

abbrev pub invariant-loop-place : goal.invariant-loop-place
invariant-loop-place l =
    Wrote l.initial.out (seats_bytes (take (length l.yielded) l.fn.seats.places) (take (length l.yielded) l.fn.seats.outcomes)) l.out
    × (l.out.used ≡ l.initial.out.used + 17 * length l.yielded)
