use Rattle.agreement.specs.Machine.{tell_done}
use Rattle.outbox.specs.Deeds.{tellDoneBy}
use Rattle.turning.proofs.Saying.{moved_by, done_told, tell_done_mind}
use Rattle.turning.proofs.tell_done.Goals as goal

pub returns-clause-moves : goal.returns-clause-moves
returns-clause-moves c =
    let t = c.args.turn in
    let o = t.house.agreement.job in
    λ room m. moved_by room m t c.tell_done.new.self (tellDoneBy t.house.agreement o) (λ n. tell_done n.agreement.job n) c.tell_done.ensures.list (done_told room t.house m o) (tell_done_mind room t.house m o)
