use Rattle.std.proofs.Common.{refl}
use Rattle.agreement.specs.Machine.{anew}
use Rattle.turning.proofs.Changing.{changed_turn}
use Rattle.turning.proofs.changes.anew.Goals as goal

pub returns : goal.returns
returns c = changed_turn (λ room. anew) c.args.turn _ _ c.anew-turn.ensures (record { id = refl; places = refl }) (λ room m. refl)
