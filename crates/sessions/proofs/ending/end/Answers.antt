use Rattle.std.proofs.Common.{ℕ, ◌+◌, ◌<◌, not, eqb, [], length, sym, refl, ap, ◌∙◌, subst, arith}
use Rattle.model.specs.Tree.{Entry, State, Out, Done, End, keep}
use Rattle.cells.specs.Layout.{state_of}
use Rattle.cells.specs.Fits.{Fits}
use Rattle.drafts.proofs.Grows.{next}
use Rattle.doing.proofs.Keeping.{fits_stays}
use Rattle.tree.proofs.Weighs.{space}
use Rattle.drafts.proofs.Written.{next_state}
use Rattle.sessions.specs.Ending.{others}
use Rattle.sessions.proofs.Others.{others_few}
use Rattle.sessions.proofs.Ends.{ended_state, others_low, end_not_open, end_is}
use Rattle.sessions.proofs.ending.end.Goals as goal

pub returns-then-not-is_open : goal.returns-then-not-is_open
returns-then-not-is_open c =
    let s = state_of c.args.current.tree.bytes.now c.args.current.tree.places.now in
    record { answer = end_not_open c.args.current.room c.args.session.0 s (sym c.if-not-is_open.ensures); drafts = tt; fits = tt }

pub start_ended-begun-requires : goal.start_ended-begun-requires
start_ended-begun-requires c =
    let room = space c.args.current.tree.bytes.now c.args.current.tree.places.now c.args.current.tree.holds c.args.current.fits.few in
    record { room = omega (arith, c.requires.bytes); small = c.requires.small; more = omega (arith, c.requires.words) }

pub push_unowned-requires : goal.push_unowned-requires
push_unowned-requires c =
    let room = space c.args.current.tree.bytes.now c.args.current.tree.places.now c.args.current.tree.holds c.args.current.fits.few in
    let begun = c.start_ended-begun.ensures.begun in
    record {
      drafts = begun.drafts;
      room = omega (arith, c.start_ended-begun.ensures.used, c.requires.bytes, c.args.current.fits.weighs);
      small = omega (arith, c.requires.small);
      more = omega (arith, begun.count, c.requires.words, c.args.current.fits.weighs);
    }

pub returns : goal.returns
returns c =
    let mem = c.args.current.tree.bytes.now in
    let ps = c.args.current.tree.places.now in
    let s = state_of mem ps in
    let k = c.args.session.0 in
    let ys = others k s.sessions in
    let es = keep (λ (e : Entry). not (eqb k e.owner)) s.entries in
    let m = c.changes.result.0 + 1 in
    let lm : m < 18446744073709551616 = omega (arith, c.changes.ensures, c.args.current.calm) in
    let lt : s.top < 18446744073709551616 = omega (arith, c.args.current.fits.counts.top, c.args.current.calm) in
    let lx : s.last_session < 18446744073709551616 = omega (arith, c.args.current.fits.opened, c.args.current.calm) in
    let lk : length ys < 4294967296 = omega (arith, others_few k s.sessions, c.args.current.fits.few) in
    let written = next refl c.start_ended-begun.ensures.begun c.push_unowned.ensures in
    let state = next_state written ∙ ended_state m s.top s.last_session ys lm lt lx lk es (others_low k s.sessions s.last_session c.args.current.fits.rises lx) in
    let answer = ap (λ (t : State). record { reply = Done []; state = t }) state ∙
    ap (λ (n : ℕ). record { reply = Done []; state = record { changes = n + 1; top = s.top; entries = es; sessions = ys; last_session = s.last_session } }) c.changes.ensures ∙ end_is c.args.current.room k s (sym c.if-not-is_open.ensures) in
    record {
      answer = answer;
      drafts = written.drafts;
      fits = subst (λ (y : Out). Fits c.args.current.room y.state) (sym answer) (fits_stays c.args.current.room (End k) s c.args.current.calm c.args.current.fits);
    }
