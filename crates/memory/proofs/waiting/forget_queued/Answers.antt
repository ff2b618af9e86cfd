use Rattle.std.proofs.Common.{◌≡◌, length, refl, arith, rules}
use Rattle.memory.specs.Keeps.{slot_at}
use Rattle.memory.proofs.Waits.{queue_forget}
use Rattle.memory.proofs.waiting.forget_queued.Goals as goal

pub returns : goal.returns
returns c =
    let seven : length c.args.kept.queue ≡ 7 = search rules in
    record {
      waiting = λ room m. refl;
      queued = λ room m. queue_forget room (slot_at c.args.kept m) c.args.by c.args.kept.queue (omega (arith, c.requires));
      same =
          record {
            beside = record { room = refl; slot = refl; outcomes = refl; replied = refl };
            state = λ m. refl;
            sound = λ m s. record { left = s.left; right = s.right; stands = s.stands; slots = s.slots; first = s.first; count = s.count; answering = s.answering; replied = s.replied };
          };
    }
