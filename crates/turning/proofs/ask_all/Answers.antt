use Rattle.std.proofs.Common.{refl}
use Rattle.agreement.specs.Machine.{ask_all}
use Rattle.outbox.specs.Deeds.{askAllBy}
use Rattle.turning.proofs.Saying.{moved_by, ask_all_done}
use Rattle.turning.proofs.ask_all.Goals as goal

pub returns-clause-moves : goal.returns-clause-moves
unfolding ask_all
returns-clause-moves c =
    let t = c.args.turn in
    λ room m. moved_by room m t c.ask_all.new.self (askAllBy t.house.agreement) ask_all c.ask_all.ensures.list (ask_all_done room t.house m) refl
