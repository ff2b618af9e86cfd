use Rattle.std.proofs.Common.{refl}
use Rattle.agreement.specs.Machine.{ticks}
use Rattle.turning.proofs.Changing.{changed_turn}
use Rattle.turning.proofs.changes.ticked.Goals as goal

pub returns : goal.returns
returns c = changed_turn (λ room. ticks) c.args.turn _ _ c.ticked-turn.ensures (record { id = refl; places = refl }) (λ room m. refl)
