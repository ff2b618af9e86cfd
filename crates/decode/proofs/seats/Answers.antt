use Rattle.std.proofs.Common.{sym, refl, arith, rules}
use Rattle.decode.proofs.Seating.{seated_none, seated_stop, seated_stop_behind, seated_more, seated_all}
use Rattle.decode.proofs.seats.Goals as goal

pub loop-i-init : goal.loop-i-init
loop-i-init c = seated_none c.args.bytes.now _ _ refl refl

pub returns-in_err-place : goal.returns-in_err-place
returns-in_err-place c =
    let l = c.loop-i in
    let none = seated_stop c.args.bytes.now l.i l.places l.outcomes l.rest.now l.invariant c.loop-i-test.true (sym c.in_err-place.ensures) in
    search (rules, sym none)

pub returns-in_err-outcome : goal.returns-in_err-outcome
returns-in_err-outcome c =
    let l = c.loop-i in
    let none = seated_stop_behind c.args.bytes.now l.i l.places l.outcomes l.rest.now l.invariant c.loop-i-test.true c.in_ok-place.place c.in_ok-place.after.now (sym c.in_ok-place.ensures) (sym c.in_err-outcome.ensures) in
    search (rules, sym none)

pub loop-i-preserved : goal.loop-i-preserved
loop-i-preserved c =
    let l = c.loop-i in
    seated_more c.args.bytes.now l.i l.places l.outcomes l.rest.now l.invariant c.loop-i-test.true c.in_ok-place.place c.in_ok-place.after.now (sym c.in_ok-place.ensures) c.in_ok-outcome.outcome
    c.in_ok-outcome.after.now (sym c.in_ok-outcome.ensures)

pub returns : goal.returns
returns c = let l = c.loop-i in sym (seated_all c.args.bytes.now l.i l.places l.outcomes l.rest.now l.invariant (omega arith))
