-- Every state that a run of the service comes to can be sent: the first one can, and a call that may be done leaves one that can. Assumes nothing.
use Rattle.std.proofs.Common.{◌≡◌, ℕ, suc, ◌+◌, ◌<◌, ◌≤◌, Bool, true, not, ◌||◌, eqb, ltb, leb, List, [], ◌∷◌, ◌++◌, length, sym, refl, subst, ⊎_elim, arith}
use Rattle.std.specs.List.{AllByRecursion}
use Rattle.std.proofs.ByRecursion.{All-push}
use Rattle.std.proofs.lemmas.Bool.{and_parts, or_parts, or_cases, cond_both, eqb-true, not-false, ltb-true, leb-true}
use Rattle.model.specs.Tree as Tree
use Rattle.model.specs.Tree.{Path, Entry, State, Step, Bad, Good, Act, Make, Put, Drop, Check, Call, Do, Look, Kids, Open, End, Going, Failed, Fine, acts, goes, all_of, stepped, closed, does, values_in, some, at, put_in, path_ok, value_ok, weight, weight_of}
use Rattle.model.proofs.Deeds.{counting, not_refused, make_parts, true_ok, act_did}
use Rattle.cells.specs.Fits.{rising, Calm}
use Rattle.calls.specs.Screening.{Screen, NotBuilt, NoCall, LetIn, screened}
use Rattle.tree.specs.Steps.{overweight}
use Rattle.doing.proofs.Keeping.{all_change, all_keep, good_of, same_state, fits_stays}
use Rattle.service.specs.Service.{next_to}
use Rattle.wire.specs.Trees.{TidyEntry, Tidy, Sendable}
use Rattle.wire.specs.Laws.{StartSendable, NextSendable}
use Rattle.wire.proofs.TreesAgain.{sessions_small}

-- a state whose entries are tidy, and stay so by one act more
record Orderly (s : State) : Type 0 where
  early : s.changes < 72057594037927936
  sessions : AllByRecursion (λ x. x < 18446744073709551616) s.sessions
  entries : AllByRecursion TidyEntry s.entries

open_small : (o : ℕ) (xs : List ℕ) → AllByRecursion (λ x. x < 18446744073709551616) xs → some (eqb o) xs ≡ true → o < 18446744073709551616
unfolding some
open_small o [] h e = absurd (let z : ◌≡◌ {A = ℕ} 0 1 = cc in omega arith)
open_small o (x ∷ xs) h e = ⊎_elim (λ t. omega (arith, eqb-true o x t, h.0)) (λ t. open_small o xs h.1 t) (or_cases (eqb o x) (some (eqb o) xs) e)

value_short : (v : List ℕ) → value_ok v ≡ true → length v ≤ 65536
value_short v h = leb-true (length v) 65536 (and_parts (leb (length v) 65536) _ h).0

counting_tidy : (e : Entry) → TidyEntry e → TidyEntry (counting e)
counting_tidy e t = record { named = t.named; short = t.short; made = t.made; changed = t.changed; owner = t.owner }

module _ (s : State) (h : Orderly s) (qs : List Path) (t : State) where
  make_tidy : (p : Path) (v : List ℕ) (n : Bool) (o : ℕ) → acts (Make p v n o) s ≡ Good qs t → AllByRecursion TidyEntry t.entries
  unfolding acts
  make_tidy p v n o e =
      let m = make_parts p v n o s qs t e in
      let q = Tree.true_name p n s in
      let ways = or_parts (not (path_ok p) || not (value_ok v)) _ (not_refused 1 _ _ qs t e).0 in
      let fine = not-false (value_ok v) (or_parts (not (path_ok p)) (not (value_ok v)) ways.0).1 in
      let owner : o < 18446744073709551616 = ⊎_elim (λ z. omega arith) (open_small o s.sessions h.sessions) m.open' in
      subst (λ (u : State). AllByRecursion TidyEntry u.entries) (sym m.state)
      (All-push TidyEntry _ _ (all_change TidyEntry TidyEntry (at (Tree.above q)) counting (λ e t. t) counting_tidy s.entries h.entries)
      (record { named = true_ok p n s m.range m.short; short = value_short v fine; made = omega (arith, h.early); changed = omega (arith, h.early); owner = owner }))

  put_tidy : (p : Path) (v : List ℕ) (x : Tree.Expect) → acts (Put p v x) s ≡ Good qs t → AllByRecursion TidyEntry t.entries
  unfolding acts
  put_tidy p v x e =
      let is = same_state [] qs _ t (good_of 4 _ _ qs t (good_of 2 _ _ qs t (good_of 1 _ _ qs t e))) in
      let fine = not-false (value_ok v) (or_parts (not (path_ok p)) (not (value_ok v)) (not_refused 1 _ _ qs t e).0).1 in
      subst (λ (u : State). AllByRecursion TidyEntry u.entries) is
      (all_change TidyEntry TidyEntry (at p) (put_in v (s.changes + 1)) (λ e t. t) (λ e t. record { named = t.named; short = value_short v fine; made = t.made; changed = omega (arith, h.early); owner = t.owner }) s.entries h.entries)

  act_tidy : (a : Act) → acts a s ≡ Good qs t → AllByRecursion TidyEntry t.entries
  unfolding acts
  act_tidy (Make p v n o) e = make_tidy p v n o e
  act_tidy (Put p v x) e = put_tidy p v x e
  act_tidy (Drop p x) e =
      let is = same_state [] qs _ t (good_of 5 _ _ qs t (good_of 4 _ _ qs t (good_of 2 _ _ qs t (good_of 1 _ _ qs t e)))) in
      subst (λ (u : State). AllByRecursion TidyEntry u.entries) is (all_keep TidyEntry TidyEntry (λ (y : Entry). not (at p y)) s.entries h.entries)
  act_tidy (Check p x) e =
      let is = same_state [] qs s t (good_of 4 _ _ qs t (good_of 2 _ _ qs t (good_of 1 _ _ qs t e))) in
      subst (λ (u : State). AllByRecursion TidyEntry u.entries) is h.entries

  orderly_act : (a : Act) → acts a s ≡ Good qs t → Orderly t
  orderly_act a e =
      let d = act_did a s qs t e in
      record { early = omega (arith, d.changes, h.early); sessions = subst (AllByRecursion (λ x. x < 18446744073709551616)) (sym d.sessions) h.sessions; entries = act_tidy a e }

-- SEVERAL ACTS
abbrev OrderlyGoing : Going → Type 0
OrderlyGoing (Failed n k) = Unit {0}
OrderlyGoing (Fine n ps t) = Orderly t

orderly_step : (room n : ℕ) (ps : List Path) (s : State) (a : Act) (o : Step) → Orderly s → acts a s ≡ o → OrderlyGoing (stepped room n ps s o)
unfolding stepped
orderly_step room n ps s a (Bad k) h e = tt
orderly_step room n ps s a (Good qs t) h e = cond_both (overweight room (weight s) (weight t)) (Failed n 9) (Fine (suc n) (ps ++ qs) t) OrderlyGoing (λ _. tt) (λ _. orderly_act s h qs t a e)

orderly_one : (room : ℕ) (a : Act) (g : Going) → OrderlyGoing g → OrderlyGoing (goes room a g)
unfolding goes
orderly_one room a (Failed n k) h = tt
orderly_one room a (Fine n ps t) h = orderly_step room n ps t a (acts a t) h refl

orderly_all : (room : ℕ) (as' : List Act) (g : Going) → OrderlyGoing g → OrderlyGoing (all_of room as' g)
unfolding all_of
orderly_all room [] g h = h
orderly_all room (a ∷ as') g h = orderly_all room as' (goes room a g) (orderly_one room a g h)

orderly_closed : (s : State) (g : Going) → Orderly s → OrderlyGoing g → Tidy (closed s g).state
unfolding closed
orderly_closed s (Failed n k) h g = record { entries = h.entries }
orderly_closed s (Fine n ps t) h g = record { entries = g.entries }

-- EVERY CALL
tidy_stays : (room : ℕ) (c : Call) (s : State) → Orderly s → Tidy (does room c s).state
unfolding does
tidy_stays room (Do as') s h =
    cond_both (ltb 64 (length as') || ltb 262144 (values_in as')) _ _ (λ (o : Tree.Out). Tidy o.state) (λ _. record { entries = h.entries })
    (λ _. orderly_closed s (all_of room as' (Fine 0 [] s)) h (orderly_all room as' (Fine 0 [] s) h))
tidy_stays room (Look p) s h = record { entries = h.entries }
tidy_stays room (Kids p) s h = record { entries = h.entries }
tidy_stays room Open s h =
    cond_both (leb 4096 (length s.sessions)) _ _ (λ (o : Tree.Out). Tidy o.state) (λ _. record { entries = h.entries }) (λ _. record { entries = h.entries })
tidy_stays room (End k) s h =
    cond_both (some (eqb k) s.sessions) _ _ (λ (o : Tree.Out). Tidy o.state)
    (λ _. record { entries = all_keep TidyEntry TidyEntry (λ (e : Entry). not (eqb k e.owner)) s.entries h.entries })
    (λ _. record { entries = h.entries })

pub call_sendable : (room : ℕ) (c : Call) (s : State) → Calm s → Sendable room s → Sendable room (does room c s).state
call_sendable room c s calm h = record {
  fits = fits_stays room c s calm h.fits;
  tidy = tidy_stays room c s (record { early = calm; sessions = sessions_small room s h.fits; entries = h.tidy.entries });
}

-- THE SERVICE
pub start_sendable : StartSendable
unfolding weight_of rising
start_sendable room = record {
  fits = record { weighs = omega arith; few = omega arith; rises = refl; opened = omega arith; early = omega arith; counts = record { top = omega arith; entries = tt } };
  tidy = record { entries = tt };
}

next_of : (room : ℕ) (sc : Screen) (s : State) → Calm s → Sendable room s → Sendable room (next_to room sc s)
next_of room NotBuilt s calm h = h
next_of room NoCall s calm h = h
next_of room (LetIn c) s calm h = call_sendable room c s calm h

pub next_sendable : NextSendable
next_sendable room call s calm h = next_of room (screened call) s (ltb-true s.changes 72057594037927936 calm) h
