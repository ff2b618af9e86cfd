use Rattle.std.proofs.Common.{refl, arith}
use Rattle.memory.proofs.Waits.{ring_head}
use Rattle.memory.proofs.waiting.drop_head.Goals as goal

pub returns : goal.returns
returns c =
    record {
      dropped =
          record {
            waiting = λ room m. ring_head c.args.kept.count _ c.args.kept.first c.requires.some;
            queued = λ room m. refl;
            same =
                record {
                  beside = record { room = refl; slot = refl; outcomes = refl; replied = refl };
                  state = λ m. refl;
                  sound = λ m s. record { left = s.left; right = s.right; stands = s.stands; slots = s.slots; first = omega arith; count = omega (arith, s.count); answering = s.answering; replied = s.replied };
                };
          };
      count = omega (arith, c.requires.some);
    }
