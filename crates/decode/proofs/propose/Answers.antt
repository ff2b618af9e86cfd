use Rattle.std.proofs.Common.{◌≡◌, Some, None, sym, rules}
use Rattle.calls.specs.Format.{and_then, flag_at}
use Rattle.agreement.specs.Machine.{Propose}
use Rattle.wire.specs.Messages.{proposal_at, propose_at}
use Rattle.wire.proofs.MessagesAgain.{then_again}
use Rattle.decode.proofs.Refusing.{none_then}
use Rattle.decode.proofs.propose.Goals as goal

pub returns-in_err-proposal : goal.returns-in_err-proposal
returns-in_err-proposal c room =
    let all = c.args.all in
    let b = c.in_ok-chosen.chosen in
    let bs = c.in_ok-chosen.rest.now in
    let none : propose_at room all c.args.bytes.now ≡ None =
    then_again (flag_at c.args.bytes.now) (λ c. and_then (proposal_at room all c.1) (λ p. Some (Propose p c.0))) (b, bs) None (sym c.in_ok-chosen.ensures)
    (none_then (proposal_at room all bs) (λ p. Some (Propose p b)) (sym (c.in_err-proposal.ensures room))) in
    search (rules, sym none)
