use Rattle.std.proofs.Common.{◌≡◌, ◌+◌, [], ◌∷◌, ◌++◌, length, arith, rules}
use Rattle.std.specs.Slice.Iter.{iter_rest}
use Rattle.std.specs.Iterator.Adapters.{zip_first, zip_second}
use Rattle.std.proofs.lemmas.List.{length_push}
use Rattle.std.proofs.lemmas.Slice.Zip.{zip_turn}
use Rattle.lent_bytes.proofs.Writes.{wrote_then, wrote_same}
use Rattle.encode.proofs.Seating.{seats_begun, seats_more}
use Rattle.encode.proofs.write_seats.Goals as goal

pub loop-place-init : goal.loop-place-init
loop-place-init c = (seats_begun c.args.out.now, omega arith)

pub loop-place-preserved : goal.loop-place-preserved
loop-place-preserved c =
    let l = c.loop-place in
    let s = c.args.seats in
    let first : iter_rest (zip_first c.into_iter-place-iterator.result) ≡ s.places = search rules in
    let second : iter_rest (zip_second c.into_iter-place-iterator.result) ≡ s.outcomes = search rules in
    let turn = zip_turn s.places s.outcomes l.yielded c.into_iter-place-iterator.result l.place-iterator c.next.new.self c.next.result first second l.yielded_by (c.in-Some.place, c.in-Some.outcome) c.in-Some.is c.next.ensures.steps in
    let more : length (l.yielded ++ (c.in-Some.place, c.in-Some.outcome) ∷ []) ≡ length l.yielded + 1 = length_push l.yielded (c.in-Some.place, c.in-Some.outcome) in (
      wrote_same _ _ (seats_more (length l.yielded) _ s.places s.outcomes c.in-Some.place.now c.in-Some.outcome.now more turn.0 turn.1 turn.2 turn.3) (wrote_then l.invariant.0 c.write_seat.ensures.wrote),
      omega (arith, l.invariant.1, c.write_seat.ensures.used, more),
    )
