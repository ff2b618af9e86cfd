use Rattle.std.proofs.Common.{◌≡◌, Some, None, sym, rules}
use Rattle.calls.specs.Format.{and_then, number_at}
use Rattle.agreement.specs.Machine.{Promise}
use Rattle.wire.specs.Messages.{view_at, proposal_at, promise_at}
use Rattle.wire.proofs.MessagesAgain.{then_again}
use Rattle.decode.proofs.Refusing.{none_then}
use Rattle.decode.proofs.promise.Goals as goal

pub returns-in_err-proposal : goal.returns-in_err-proposal
returns-in_err-proposal c room =
    let all = c.args.all in
    let v = c.in_ok-view.view in
    let as' = c.in_ok-view.rest.now in
    let x = c.in_ok-incarnation.incarnation in
    let bs = c.in_ok-incarnation.rest.now in
    let none : promise_at room all c.args.bytes.now ≡ None =
    then_again (view_at all c.args.bytes.now) (λ v. and_then (number_at v.1) (λ x. and_then (proposal_at room all x.1) (λ p. Some (Promise v.0 x.0 p)))) (v, as') None (sym c.in_ok-view.ensures)
    (then_again (number_at as') (λ x. and_then (proposal_at room all x.1) (λ p. Some (Promise v x.0 p))) (x, bs) None (sym c.in_ok-incarnation.ensures)
    (none_then (proposal_at room all bs) (λ p. Some (Promise v x p)) (sym (c.in_err-proposal.ensures room)))) in
    search (rules, sym none)
