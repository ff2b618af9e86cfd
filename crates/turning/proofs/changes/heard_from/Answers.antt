use Rattle.std.proofs.Common.{refl}
use Rattle.agreement.specs.Machine.{heard_from}
use Rattle.turning.proofs.Changing.{changed_turn}
use Rattle.turning.proofs.changes.heard_from.Goals as goal

pub returns : goal.returns
returns c = changed_turn (λ room. heard_from c.args.j.index) c.args.turn _ _ c.heard_from-turn.ensures (record { id = refl; places = refl }) (λ room m. refl)
