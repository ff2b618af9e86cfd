use Rattle.std.proofs.Common.{sym, refl, arith}
use Rattle.model.specs.Tree.{Look, Kids, does}
use Rattle.calls.specs.Reading.{path_now}
use Rattle.calls.specs.Screening.{LetIn, screened}
use Rattle.cells.specs.Layout.{state_of, entries_of}
use Rattle.cells.proofs.Cells.{length_entries}
use Rattle.service.specs.declared.asking.Asked.TheVariants as asked
use Rattle.service.proofs.Clerking.{weight_count, asked_ok, asked_is}
use Rattle.serving.proofs.Said.{said}
use Rattle.serving.proofs.answering.say.Goals as goal

pub say_kids-requires-clause-room : goal.say_kids-requires-clause-room
say_kids-requires-clause-room c =
    let mem = c.args.tree.bytes.now in
    let ps = c.args.tree.places.now in
    omega (arith, weight_count (entries_of mem ps), length_entries mem ps, c.requires.fits.weighs, c.requires.room)

pub returns-in-Look : goal.returns-in-Look
returns-in-Look c =
    let p = path_now c.in-Look.path in
    let s = state_of c.args.tree.bytes.now c.args.tree.places.now in
    let is = asked_is (screened c.args.call.now) c.in_ok-asked.asked (asked.Look c.in-Look.path) (asked_ok (screened c.args.call.now) c.ask.result c.in_ok-asked.asked c.ask.ensures (sym c.in_ok-asked.ensures.value)) c.in-Look.is in
    said c.args.room c.args.call.now s c.args.outcome c.say_look.new.out c.say_look.result (LetIn (Look p)) (does c.args.room (Look p) s).reply is.0 refl (c.say_look.ensures c.args.room)

pub returns-in-Kids : goal.returns-in-Kids
returns-in-Kids c =
    let p = path_now c.in-Kids.path in
    let s = state_of c.args.tree.bytes.now c.args.tree.places.now in
    let is = asked_is (screened c.args.call.now) c.in_ok-asked.asked (asked.Kids c.in-Kids.path) (asked_ok (screened c.args.call.now) c.ask.result c.in_ok-asked.asked c.ask.ensures (sym c.in_ok-asked.ensures.value)) c.in-Kids.is in
    said c.args.room c.args.call.now s c.args.outcome c.say_kids.new.out c.say_kids.result (LetIn (Kids p)) (does c.args.room (Kids p) s).reply is.0 refl (c.say_kids.ensures c.args.room)
