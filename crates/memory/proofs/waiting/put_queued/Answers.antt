use Rattle.std.proofs.Common.{◌≡◌, ◌+◌, length, set, refl, arith, rules}
use Rattle.memory.proofs.Waits.{slot_below, filled, waits_still, queue_more}
use Rattle.memory.proofs.waiting.put_queued.Goals as goal

pub write_at-requires : goal.write_at-requires
write_at-requires c =
    let q = slot_below c.args.kept.slot (8 + c.args.by) 15 (omega (arith, c.requires.there)) in omega (arith, c.requires.sound.slots.inside, c.requires.fits)

pub returns : goal.returns
returns c =
    let k = c.args.kept in
    let s = c.requires.sound in
    let ends = c.args.memory.now.ends.now in
    let calls = c.args.memory.now.calls.now in
    let call = c.args.call.now in
    let is = c.write_at.new.out in
    let seven : length k.queue ≡ 7 = search rules in
    let w = filled k.slot ends calls (8 + c.args.by) call is s.slots (omega (arith, c.requires.there)) c.requires.fits c.write_at.ensures in
    record {
      queued = λ room. queue_more room k.slot ends calls call (set ends (8 + c.args.by) (length call)) is c.args.by k.queue c.args.queued seven c.requires.there w;
      waiting = λ room. waits_still room k.slot ends calls call (set ends (8 + c.args.by) (length call)) is k.first k.count (8 + c.args.by) k.numbers s.first (omega arith) w;
      state = refl;
      count = refl;
      beside = record { room = refl; slot = refl; outcomes = refl; replied = refl };
      replies = refl;
      sound = record { left = s.left; right = s.right; stands = s.stands; slots = w.slots; first = s.first; count = s.count; answering = s.answering; replied = s.replied };
    }
