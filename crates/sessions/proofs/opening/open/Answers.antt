use Rattle.std.proofs.Common.{◌≡◌, ℕ, ◌+◌, ◌-◌, ◌<◌, List, [], ◌∷◌, ◌++◌, length, take, drop, sym, refl, ap, ◌∙◌, subst, add-one, arith}
use native.Mathlib.Nat.{sub-zero}
use Rattle.std.proofs.lemmas.List.{take_all}
use Rattle.model.specs.Tree.{State, Out, Open, Session}
use Rattle.lent_bytes.specs.Numbers.{be64}
use Rattle.cells.specs.Layout.{entries_of, prelude_of, state_of}
use Rattle.cells.proofs.Cells.{length_entries}
use Rattle.cells.proofs.Pushes.{ends_at}
use Rattle.drafts.proofs.Grows.{next, next_as}
use Rattle.cells.specs.Fits.{Fits}
use Rattle.doing.proofs.Keeping.{fits_stays}
use Rattle.tree.proofs.Weighs.{space}
use Rattle.drafts.proofs.Written.{next_state}
use Rattle.sessions.proofs.Opens.{opened_sessions, opened_state, begins_count, others_long, others_are, open_full, open_is}
use Rattle.sessions.proofs.opening.open.Goals as goal

pub returns-then-session_count-ge4096 : goal.returns-then-session_count-ge4096
returns-then-session_count-ge4096 c =
    let s = state_of c.args.current.tree.bytes.now c.args.current.tree.places.now in
    record { answer = open_full c.args.current.room s (omega (arith, c.session_count.ensures)); drafts = tt; fits = tt }

pub start_opened-begun-requires : goal.start_opened-begun-requires
start_opened-begun-requires c =
    let first = begins_count c.args.current.tree.bytes.now c.args.current.tree.places.now c.args.current.tree.holds in
    let few = c.session_count.ensures in
    record { few = omega arith; room = omega (arith, c.requires.bytes); small = c.requires.small; more = omega (arith, c.requires.words) }

pub push_cells-size-requires : goal.push_cells-size-requires
push_cells-size-requires c =
    let mem = c.args.current.tree.bytes.now in
    let ps = c.args.current.tree.places.now in
    let first = begins_count mem ps c.args.current.tree.holds in
    let few = c.session_count.ensures in
    let room = space mem ps c.args.current.tree.holds c.args.current.fits.few in
    let end = ends_at mem ps c.len.result c.args.current.tree.holds c.len.ensures in
    let some = c.args.current.tree.holds.some in
    let begun = c.start_opened-begun.ensures.begun in
    record {
      order = omega arith;
      within = omega arith;
      drafts = begun.drafts;
      room = omega (arith, c.requires.bytes, c.args.current.fits.weighs, c.args.current.tree.holds.within 0 some);
      small = omega (arith, c.requires.small);
      more = omega (arith, c.requires.words, c.args.current.fits.weighs);
    }

pub returns : goal.returns
returns c =
    let mem = c.args.current.tree.bytes.now in
    let ps = c.args.current.tree.places.now in
    let s = state_of mem ps in
    let es = entries_of mem ps in
    let n = c.len.result in
    let k = length s.sessions in
    let others = drop 28 (prelude_of mem ps) in
    let last : c.last_session.result.0 ≡ s.last_session = c.last_session.ensures ∙ ap (λ (bs : List ℕ). be64 bs 16) c.prelude.ensures.value in
    let x = c.last_session.result.0 + 1 in
    let m = c.changes.result.0 + 1 in
    let lm : m < 18446744073709551616 = omega (arith, c.changes.ensures, c.args.current.calm) in
    let lx : x < 18446744073709551616 = omega (arith, last, c.args.current.fits.opened, c.args.current.calm) in
    let lt : s.top < 18446744073709551616 = omega (arith, c.args.current.fits.counts.top, c.args.current.calm) in
    let few = c.session_count.ensures in
    let lk : k + 1 < 4294967296 = omega arith in
    let written = next_as _ _ (ap (λ (j : ℕ). take j es) (sub-zero n) ∙ take_all n es (omega (arith, length_entries mem ps))) (next refl c.start_opened-begun.ensures.begun c.push_cells-size.ensures) in
    let sessions = opened_sessions m s.top x (k + 1) others lm lt lx lk k (add-one k) (others_long mem ps c.args.current.tree.holds) ∙ ap (λ (l : List ℕ). l ++ (x ∷ [])) (others_are mem ps c.args.current.tree.holds) in
    let state = next_state written ∙ opened_state m s.top x (k + 1) others lm lt lx lk es _ sessions in
    let numbers : ◌≡◌ {A = Out} (record { reply = Session x; state = record { changes = m; top = s.top; entries = es; sessions = s.sessions ++ (x ∷ []); last_session = x } })
    (record { reply = Session (s.last_session + 1); state = record { changes = s.changes + 1; top = s.top; entries = es; sessions = s.sessions ++ ((s.last_session + 1) ∷ []); last_session = s.last_session + 1 } }) =
    λ i. record { reply = Session (last i + 1); state = record { changes = c.changes.ensures i + 1; top = s.top; entries = es; sessions = s.sessions ++ ((last i + 1) ∷ []); last_session = last i + 1 } } in
    let answer = ap (λ (t : State). record { reply = Session x; state = t }) state ∙ numbers ∙ open_is c.args.current.room s (omega arith) in
    record {
      answer = answer;
      drafts = written.drafts;
      fits = subst (λ (y : Out). Fits c.args.current.room y.state) (sym answer) (fits_stays c.args.current.room Open s c.args.current.calm c.args.current.fits);
    }
