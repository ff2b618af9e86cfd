use Rattle.std.proofs.Common.{refl}
use Rattle.memory.specs.Keeps.{slot_at}
use Rattle.memory.proofs.Waits.{queue_none}
use Rattle.memory.proofs.waiting.forget_all.Goals as goal

pub returns : goal.returns
returns c =
    record {
      waiting = λ room m. refl;
      queued = λ room m. queue_none room (slot_at c.args.kept m);
      same =
          record {
            beside = record { room = refl; slot = refl; outcomes = refl; replied = refl };
            state = λ m. refl;
            sound = λ m s. record { left = s.left; right = s.right; stands = s.stands; slots = s.slots; first = s.first; count = s.count; answering = s.answering; replied = s.replied };
          };
    }
