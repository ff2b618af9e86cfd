use Rattle.std.proofs.Common.{◌≡◌, true, false, rules}
use Rattle.turning.specs.Turns.{may_forward}
use Rattle.turning.proofs.Forwarding.{forwarded_turn, not_forwarded}
use Rattle.turning.proofs.forward.Goals as goal

pub returns-then-not-may_forward-clause-moves : goal.returns-then-not-may_forward-clause-moves
returns-then-not-may_forward-clause-moves c =
    let e : may_forward c.args.turn.house ≡ false = search rules in
    λ room m. not_forwarded room m c.args.turn e

pub returns-clause-moves : goal.returns-clause-moves
returns-clause-moves c =
    let e : may_forward c.args.turn.house ≡ true = search rules in
    λ room m. forwarded_turn room m c.args.turn c.push.new.self e c.push.ensures.list
