use Rattle.std.proofs.Common.{refl}
use Rattle.agreement.specs.Machine.{learned}
use Rattle.turning.proofs.Changing.{changed_turn}
use Rattle.turning.proofs.changes.learned.Goals as goal

pub returns : goal.returns
returns c = changed_turn (λ room. learned) c.args.turn _ _ c.learned-turn.ensures (record { id = refl; places = refl }) (λ room m. refl)
