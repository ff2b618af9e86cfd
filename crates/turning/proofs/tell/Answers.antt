use Rattle.agreement.specs.Machine.{tell}
use Rattle.outbox.specs.Deeds.{tellBy}
use Rattle.turning.proofs.Saying.{moved_by, one_told, tell_mind}
use Rattle.turning.proofs.tell.Goals as goal

pub returns-clause-moves : goal.returns-clause-moves
returns-clause-moves c =
    let t = c.args.turn in
    let j = c.args.j.index in
    λ room m. moved_by room m t c.tell.new.self (tellBy t.house.agreement j) (tell j) c.tell.ensures.list (one_told room t.house m j) (tell_mind room t.house m j)
