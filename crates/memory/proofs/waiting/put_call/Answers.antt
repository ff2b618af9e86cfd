use Rattle.std.proofs.Common.{◌≡◌, ℕ, ◌+◌, ◌%◌, length, set, refl, arith, rules}
use Rattle.memory.proofs.Waits.{slot_below, filled, waits_more, queue_still}
use Rattle.memory.proofs.waiting.put_call.Goals as goal

pub write_at-requires : goal.write_at-requires
write_at-requires c =
    let j : ℕ = (c.args.kept.first + c.args.kept.count) % 8 in
    let q = slot_below c.args.kept.slot j 15 (omega arith) in omega (arith, c.requires.sound.slots.inside, c.requires.fits)

pub returns : goal.returns
returns c =
    let k = c.args.kept in
    let s = c.requires.sound in
    let ends = c.args.memory.now.ends.now in
    let calls = c.args.memory.now.calls.now in
    let call = c.args.call.now in
    let is = c.write_at.new.out in
    let eight : length k.numbers ≡ 8 = search rules in
    let seven : length k.queue ≡ 7 = search rules in
    let w = filled k.slot ends calls ((k.first + k.count) % 8) call is s.slots (omega arith) c.requires.fits c.write_at.ensures in
    record {
      waiting = λ room. waits_more room k.slot ends calls call (set ends ((k.first + k.count) % 8) (length call)) is k.first k.count c.args.number k.numbers c.requires.few s.first (omega arith) w;
      queued = λ room. queue_still room k.slot ends calls call (set ends ((k.first + k.count) % 8) (length call)) is ((k.first + k.count) % 8) k.queue seven (omega arith) w;
      state = refl;
      count = refl;
      beside = record { room = refl; slot = refl; outcomes = refl; replied = refl };
      replies = refl;
      sound = record { left = s.left; right = s.right; stands = s.stands; slots = w.slots; first = s.first; count = omega (arith, c.requires.few); answering = s.answering; replied = s.replied };
    }
