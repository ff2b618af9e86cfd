use Rattle.std.proofs.Common.{refl}
use Rattle.agreement.specs.Machine.{tell_all}
use Rattle.outbox.specs.Deeds.{tellAllBy}
use Rattle.turning.proofs.Saying.{moved_by, tell_all_done}
use Rattle.turning.proofs.tell_all.Goals as goal

pub returns-clause-moves : goal.returns-clause-moves
unfolding tell_all
returns-clause-moves c =
    let t = c.args.turn in
    λ room m. moved_by room m t c.tell_all.new.self (tellAllBy t.house.agreement) tell_all c.tell_all.ensures.list (tell_all_done room t.house m) refl
