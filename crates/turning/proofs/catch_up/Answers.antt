use Rattle.agreement.specs.Machine.{then_do}
use Rattle.turning.proofs.Saying.{added_turn}
use Rattle.turning.proofs.catch_up.Goals as goal

pub returns-clause-moves : goal.returns-clause-moves
unfolding then_do
returns-clause-moves c = λ room m. added_turn room m c.args.turn c.push.new.self _ c.push.ensures.list
