-- Whatever happens to the replicas, there is a history behind it, over which the invariant holds of each replica and each letter (Rel): by induction over runs. Then what follows: one line, members are named, what is said fits.
use Rattle.std.proofs.Common.{◌≡◌, ℕ, ◌<◌, ◌≤◌, Bool, true, false, cond, not, T, eqb, ◌⊎◌, List, [], ◌∷◌, ◌++◌, length, Some, None, Option, sym, refl, ap, ◌∙◌, subst, inl, inr, ⊎_elim, arith, T_not}
use Rattle.std.proofs.lemmas.Option.{none-some}
use mathlib.Core.List.Memᴰ
use mathlib.Core.List.{Memᴰ}
use Rattle.std.proofs.lemmas.Bool.Decides.{nat_tests}
use Rattle.std.proofs.lemmas.Bool.{cond_both, eqb-true, cases_lt, cases_eq, true≢false, false≢true, ne_eqb, cases_Bool, or_left, or_right, or_cases}
use Rattle.runs.specs.Replicas.{Letter, Does, Says, Gives, Whole', posted, there, gone, Scene, Seen, asked, given, was_asked, Said, Beat, at, is_in, New, Goes, first, hears, is_asked, beats, falls, wakes, turned, with_call, woken, fallen}
use Rattle.agreement.specs.declared.Role.{Role}
use Rattle.agreement.specs.declared.Role.TheVariants.{Recovering, Follower, Leader}
use Rattle.agreement.specs.declared.Place.{Place}
use Rattle.agreement.specs.Facts.{at_first, Welcome, Line, here, onward}
use Rattle.agreement.specs.Content.{Service, Proposal, limit, rank, id_of, root, place_at, roster, seven, first_view, FitView}
use Rattle.agreement.specs.Log.{Event, draws, asks, ask_of, is_used, makes, votes, pledges, age_in, top, pledge_of, vote_of, made_of, world, Log, begins, goes_on}
use Rattle.agreement.specs.Machine.{Msg, Prepare, Promise, Propose, Alive, Accepted, Join, Forward, Waiting, Mind, accepted, Turn, turn, is_full, wait_or_not, quick_or_not, first_role, woke, code}
use Rattle.agreement.specs.Agree.{Found, held, brought, reported', Told, known', said, IsChosen, Accord, OneLine, MemberIsNamed}
use Rattle.agreement.specs.Said.{ToOthers, FitWord, SaidFits}
use Rattle.agreement.proofs.Scenes.{at_same, at_other, un_there, was_given}
use Rattle.agreement.proofs.Age.{age_below, age_one}
use Rattle.agreement.proofs.Ranks.{rank_first}
use Rattle.agreement.proofs.Seven.{get_seven}
use Rattle.agreement.proofs.History.{drawn, zero_drawn, once, facts, pledge_made, vote_made, made_fits, base_of}
use Rattle.agreement.proofs.Heart.{agreement, grows}
use Rattle.agreement.proofs.Inv.{Member, Self, unanswered, Holds, JobsInv, MindInv, WordInv, LetterInv, Well, word_stays, mind_stays}
use Rattle.agreement.proofs.Moves.{Ext, same, more, Good, ext_log, ext_age, ext_used, ext_word, chosen_made}
use Rattle.agreement.proofs.Turns.{hears_good, on_beat_good, asked_now, ask_ok, starts_good, waits_good}

-- log: each thing of the history had what it needed. replicas, letters: the invariant. drawn: what came up in the history was drawn in the scene, so that a fresh incarnation is fresh. used: likewise for the clients' numbers.
pub record Rel {sv : Service} (all : ℕ) (h : List (Event sv)) (es : List (Seen sv.O sv.R)) (s : Scene (Mind sv) (Msg sv)) : Type 0 where
  pub log : Log all h
  pub replicas : (j : ℕ) (m : Mind sv) → j < all → s.house j ≡ there m → MindInv all h j m
  pub letters : (l : Letter (Msg sv)) → Memᴰ l s.letters → LetterInv all h l
  pub drawn : (j x : ℕ) → 0 < age_in h j x → is_in x s.drawn ≡ true
  pub used : (n : ℕ) → is_used n h ≡ true → was_asked n es ≡ true

module _ {sv : Service} (all i : ℕ) (h : List (Event sv)) where
  ext_mind : {k : List (Event sv)} → Ext all i h k → (j : ℕ) (m : Mind sv) → (j ≡ i → ⊥) → MindInv all h j m → MindInv all k j m
  ext_mind same j m n v = v
  ext_mind (more {k = k} {e = e} x ok b a) j m n v = mind_stays all k e ok j (λ q. n (sym q ∙ b)) m (ext_mind x j m n v)

  -- what is said is posted
  posted_well : i < all → (ds : List (Does (Msg sv) sv.R)) → Well all h i ds → (l : Letter (Msg sv)) → Memᴰ l (posted i ds) → LetterInv all h l
  unfolding posted
  posted_well lt [] w l d = absurd (Memᴰ.not-nil d)
  posted_well lt (Says j x ∷ ds) (o, a, w) l d = ⊎_elim (λ e. rw e (lt, o, a)) (λ r. posted_well lt ds w l r) (Memᴰ.cases_cons d)
  posted_well lt (Gives n r ∷ ds) (b, w) l d = posted_well lt ds w l d
  posted_well lt (Whole' ∷ ds) w l d = posted_well lt ds w l d

-- what holds of a scene but for the replica i
pub record Beside {sv : Service} (all i : ℕ) (h : List (Event sv)) (es : List (Seen sv.O sv.R)) (s : Scene (Mind sv) (Msg sv)) : Type 0 where
  pub log : Log all h
  pub others : (j : ℕ) (m : Mind sv) → j < all → (j ≡ i → ⊥) → s.house j ≡ there m → MindInv all h j m
  pub letters : (l : Letter (Msg sv)) → Memᴰ l s.letters → LetterInv all h l
  pub drawn : (j x : ℕ) → 0 < age_in h j x → is_in x s.drawn ≡ true
  pub used : (n : ℕ) → is_used n h ≡ true → was_asked n es ≡ true

pub beside : {sv : Service} (all i : ℕ) (h : List (Event sv)) (es : List (Seen sv.O sv.R)) (s : Scene (Mind sv) (Msg sv)) → Rel all h es s → Beside all i h es s
beside all i h es s r = record { log = r.log; others = λ j m lt _ e. r.replicas j m lt e; letters = r.letters; drawn = r.drawn; used = r.used }

module _ {sv : Service} (all i : ℕ) (h : List (Event sv)) (es : List (Seen sv.O sv.R)) (s : Scene (Mind sv) (Msg sv)) (r : Beside all i h es s) where
  -- a turn, after which the history is k
  pub turned_by : (x : Turn sv) (k : List (Event sv)) → Ext all i h k → MindInv all k i x.mind → ((l : Letter (Msg sv)) → Memᴰ l (posted i x.does) → LetterInv all k l) → Rel all k (given i x.does ++ es) (turned (code sv) i x s)
  turned_by x k ext v new =
      record {
        log = ext_log all i h ext r.log;
        replicas = λ j m jl e. replicas j m jl e (cases_eq j i);
        letters = λ l d. letters l (Memᴰ.append_cases (posted i x.does) d);
        drawn = λ j y p. r.drawn j y (omega (arith, ext_age all i h ext j y));
        used = λ n u. was_given {sv = sv} i n x.does es ∙ r.used n (sym (ext_used all i h ext n) ∙ u);
      }
    where
      letters : (l : Letter (Msg sv)) → Memᴰ l (posted i x.does) ⊎ Memᴰ l s.letters → LetterInv all k l
      letters l (inl d) = new l d
      letters l (inr d) = let w = r.letters l d in (w.0, w.1, ext_word all i h ext l.by l.to l.word w.2)

      replicas : (j : ℕ) (m : Mind sv) → j < all → at i (there x.mind) s.house j ≡ there m → (j ≡ i) ⊎ (j ≡ i → ⊥) → MindInv all k j m
      replicas j m jl e (inl q) = rw (q, ← un_there x.mind m (sym (at_same i (there x.mind) s.house j q) ∙ e)) v
      replicas j m jl e (inr n) = ext_mind all i h ext j m n (r.others j m jl n (sym (at_other i (there x.mind) s.house j n) ∙ e))

  pub turned_rel : (x : Turn sv) → i < all → (g : Good all h i x) → Rel all g.then (given i x.does ++ es) (turned (code sv) i x s)
  turned_rel x lt g = turned_by x g.then g.ext g.mind (posted_well all i g.then lt x.does g.words)

-- a call comes in
module _ {sv : Service} (all i : ℕ) (h : List (Event sv)) (es : List (Seen sv.O sv.R)) (s : Scene (Mind sv) (Msg sv)) (r : Rel all h es s) (lt : i < all) (t : Waiting sv) (fits : t.number < limit) (new : T (not (was_asked t.number es))) (m : Mind sv) (here' : s.house i ≡ there m) where
  abbrev Called : Turn sv → Type 0
  Called x = (k : List (Event sv)) × Rel all k (given i x.does ++ asked i t.number t.call ∷ es) (turned (code sv) i x (with_call i t.number s))

  pub mind_here : MindInv all h i m
  mind_here = r.replicas i m lt here'

  pub unused : is_used t.number h ≡ false
  unused = ⊎_elim (λ e. absurd (T_not (was_asked t.number es) new (rw (r.used t.number e) tt))) (λ e. e) (cases_Bool (is_used t.number h))

  -- it is answered at once: nothing is done that agreement knows of
  pub at_once_rel : (q : sv.R) → Rel all h (given {M = Msg sv} i (Gives t.number q ∷ []) ++ asked i t.number t.call ∷ es) (turned (code sv) i (record { does = Gives t.number q ∷ []; mind = m }) (with_call i t.number s))
  unfolding posted was_asked
  at_once_rel q = turned_by all i h (asked i t.number t.call ∷ es) (with_call i t.number s) (record { log = r.log; others = λ j n jl _ e. r.replicas j n jl e; letters = r.letters; drawn = r.drawn; used = λ n u. or_right (eqb n t.number) (was_asked n es) (r.used n u) })
      (record { does = Gives t.number q ∷ []; mind = m }) h same mind_here (λ l d. absurd (Memᴰ.not-nil d))

  -- it waits
  pub waits_beside : Beside all i (asked_now all i h r.log t fits unused m mind_here) (asked i t.number t.call ∷ es) (with_call i t.number s)
  unfolding was_asked
  waits_beside =
      record {
        log = goes_on r.log (ask_ok all i h r.log t fits unused m mind_here);
        others = λ j n jl ne e. mind_stays all h _ (ask_ok all i h r.log t fits unused m mind_here) j (λ q. ne (sym q)) n (r.replicas j n jl e);
        letters = λ l d. let w = r.letters l d in (w.0, w.1, word_stays all h _ (ask_ok all i h r.log t fits unused m mind_here) l.by l.to l.word w.2);
        drawn = r.drawn;
        used = λ n u. ⊎_elim (λ e. or_left (eqb n t.number) (was_asked n es) e) (λ e. or_right (eqb n t.number) (was_asked n es) (r.used n e)) (or_cases (eqb n t.number) (is_used n h) u);
      }

  wait_or_not_rel : Called (wait_or_not t m)
  unfolding wait_or_not
  wait_or_not_rel =
      cond_both (is_full m.waiting) _ _ Called (λ _. (h, at_once_rel sv.clerk.busy))
      (λ _. cond_both (eqb (length m.waiting) 0) _ _ Called
      (λ _. let g = starts_good all i h r.log t fits unused m mind_here in (g.then, turned_rel all i _ _ _ waits_beside _ lt g))
      (λ _. let g = waits_good all i h r.log t fits unused m mind_here in (g.then, turned_rel all i _ _ _ waits_beside _ lt g)))

  quick_or_not_rel : (o : Option sv.R) → Called (quick_or_not o t m)
  unfolding quick_or_not
  quick_or_not_rel None = wait_or_not_rel
  quick_or_not_rel (Some q) = (h, at_once_rel q)

abbrev FirstInv : (sv : Service) → (all i : ℕ) → Role → Type 0
FirstInv sv all i r = Holds {sv = sv} all [] i i all 0 r first_view (root sv) true (seven None) 0

first_fits : (all i : ℕ) → i < all → FitView all first_view
first_fits all i lt = record { number = omega arith; leader = omega arith; incarnation = omega arith }

module _ {sv : Service} (all : ℕ) (small : all ≤ 7) where
  -- at the first beginning
  first_sees : (i : ℕ) → Member {sv = sv} all [] i 0 (rank first_view) (root sv)
  first_sees i = record { welcome = record { by = root sv; chosen = at_first; named = ap (λ (p : Place). p.incarnation) (get_seven _ i); below = omega arith }; view = omega (arith, rank_first); pledged = omega arith; voted = omega arith; mine = omega arith }

  first_self : (i : ℕ) → i < all → Self {sv = sv} all [] i i all 0
  first_self i lt = record { me = refl; all' = refl; here = lt; few = small; fits = omega arith; drawn = omega arith; latest = λ x. grind (arith, nat_tests) }

  first_inv : (i : ℕ) → i < all → FirstInv sv all i (cond (eqb i 0) Leader Follower)
  first_inv i lt = cond_both (eqb i 0) Leader Follower (FirstInv sv all i) (λ e. leader (eqb-true i 0 e)) (λ _. follower)
    where
      leader : i ≡ 0 → FirstInv sv all i Leader
      leader e =
          record {
            who = first_self i lt;
            fits = first_fits all i lt;
            made = inl refl;
            known = λ _. at_first;
            inside = λ _. first_sees i;
            outside = λ e. absurd (true≢false e);
            stands = λ e. absurd (false≢true e);
            leads = λ _. record { leader = omega (arith, rank_first); inc = omega (arith, rank_first); now = refl; last = omega arith; acked = λ s y t. absurd (none-some _ (sym (get_seven None s) ∙ t)) };
            answered = unanswered refl;
          }

      follower : FirstInv sv all i Follower
      follower = record { who = first_self i lt; fits = first_fits all i lt; made = inl refl; known = λ _. at_first; inside = λ _. first_sees i; outside = λ e. absurd (true≢false e); stands = λ e. absurd (false≢true e); leads = λ e. absurd (false≢true e); answered = unanswered refl }

  -- nothing is to be done
  idle : (h : List (Event sv)) (i x : ℕ) → i < all → top (ask_of i x) h ≡ 0 → JobsInv {sv = sv} all h i x (seven None) None 0 0 [] (seven None)
  idle h i x lt z = record { joins = λ j q e. absurd (none-some _ (sym (get_seven None j) ∙ e)); calls = λ j a e. absurd (none-some _ (sym (get_seven None j) ∙ e)); job = λ j e. absurd (none-some _ e); turn = omega arith; waits = tt; last = omega arith }

  pub first_rel : Rel {sv = sv} all [] [] (record { house = λ i. there ((code sv).wakes i all 0); frail = λ i. false; letters = []; waits = []; drawn = 0 ∷ [] })
  unfolding is_in
  first_rel = record { log = begins; replicas = λ j m lt e. rw (← un_there (woke sv j all 0) m e) (first_inv j lt, idle [] j 0 lt refl); letters = λ l d. absurd (Memᴰ.not-nil d); drawn = λ j x lt. grind (arith, nat_tests); used = λ n e. absurd (false≢true e) }

  pub fall_rel : (h : List (Event sv)) (es : List (Seen sv.O sv.R)) (s : Scene (Mind sv) (Msg sv)) (i : ℕ) → Rel all h es s → Rel all h es (fallen i s)
  fall_rel h es s i r = record { log = r.log; replicas = λ j m lt e. replicas j m lt e (cases_eq j i); letters = r.letters; drawn = r.drawn; used = r.used }
    where
      replicas : (j : ℕ) (m : Mind sv) → j < all → at i gone s.house j ≡ there m → (j ≡ i) ⊎ (j ≡ i → ⊥) → MindInv all h j m
      replicas j m lt e (inl q) = absurd (let a : gone ≡ there m = sym (at_same i gone s.house j q) ∙ e in let z : ◌≡◌ {A = ℕ} 0 1 = cc in omega arith)
      replicas j m lt e (inr n) = r.replicas j m lt (sym (at_other i gone s.house j n) ∙ e)

  -- who was welcomed was drawn
  welcome_drawn : (h : List (Event sv)) → Log all h → (s x : ℕ) (p : Proposal sv) → Welcome (world all h) (length h) s x p → 0 < age_in h s x
  welcome_drawn h l s x p w = rw w.named at (drawn all h l w.by (chosen_made h w.chosen) s)

  -- nothing was done by one that was not drawn
  undone : (h : List (Event sv)) → Log all h → (s x : ℕ) → age_in h s x ≡ 0 → (top (pledge_of s x) h ≡ 0) × (top (vote_of s x) h ≡ 0) × (top (made_of s x) h ≡ 0) × (top (ask_of s x) h ≡ 0)
  undone [] l s x z = (refl, refl, refl, refl)
  undone (draws j y ∷ h) (goes_on l o) s x z = let k = undone h l s x (grind (arith, nat_tests)) in omega (arith, k)
  undone (asks j y k n c ∷ h) (goes_on l o) s x z = let k = undone h l s x z in let d = o.drawn in grind (arith, nat_tests)
  undone (makes p ∷ h) (goes_on l o) s x z = let k = undone h l s x z in let d = o.leader in grind (arith, nat_tests)
  undone (votes j y p ∷ h) (goes_on l o) s x z = let k = undone h l s x z in let d = welcome_drawn h l j y p o.welcome in grind (arith, nat_tests)
  undone (pledges j y v p ∷ h) (goes_on l o) s x z = let k = undone h l s x z in let d = welcome_drawn h l j y p o.welcome in grind (arith, nat_tests)

  -- one that comes up
  abbrev WokenInv : List (Event sv) → (i x : ℕ) → Role → Bool → Type 0
  WokenInv h i x r c = Holds {sv = sv} all (draws i x ∷ h) i i all x r first_view (root sv) c (seven None) 0

  pub wake_rel : (h : List (Event sv)) (es : List (Seen sv.O sv.R)) (s : Scene (Mind sv) (Msg sv)) (i x : ℕ) → i < all → New x s → Rel all h es s → Rel all (draws i x ∷ h) es (woken (code sv) all i x s)
  unfolding is_in
  wake_rel h es s i x lt new r =
      record {
        log = goes_on r.log none;
        replicas = λ j m jl e. replicas j m jl e (cases_eq j i);
        letters = λ l d. let w = r.letters l d in (w.0, w.1, word_stays all h (draws i x) none l.by l.to l.word w.2);
        drawn = λ j y p. let a = r.drawn j y in grind (arith, nat_tests);
        used = r.used;
      }
    where
      -- what is drawn was not drawn before
      out : (y : ℕ) → 0 < age_in h i y → y ≡ x → ⊥
      out y p e = T_not (is_in x s.drawn) new.1 (rw (rw e at (r.drawn i y p)) tt)

      none : age_in h i x ≡ 0
      none = ⊎_elim (λ p. absurd (out x p refl)) (λ le. omega arith) (cases_lt 0 (age_in h i x))

      zero' : x ≡ 0 → ⊥
      zero' e = out 0 (zero_drawn all h r.log i) (sym e)

      nothing : (top (pledge_of i x) h ≡ 0) × (top (vote_of i x) h ≡ 0) × (top (made_of i x) h ≡ 0) × (top (ask_of i x) h ≡ 0)
      nothing = undone h r.log i x none

      fresh : WokenInv h i x (first_role i x) (eqb x 0)
      fresh = subst (λ (b : Bool). WokenInv h i x (cond b (cond (eqb i 0) Leader Follower) Recovering) b) (sym (ne_eqb x 0 zero'))
          (record {
            who = record { me = refl; all' = refl; here = lt; few = small; fits = new.0; drawn = grind (arith, nat_tests); latest = λ y. let b = age_below h i y in grind (arith, nat_tests) };
            fits = first_fits all i lt;
            made = inl refl;
            known = λ e. absurd (false≢true e);
            inside = λ e. absurd (false≢true e);
            outside = λ _. record { pledged = omega (arith, nothing); voted = omega (arith, nothing); mine = omega (arith, nothing) };
            stands = λ e. absurd (false≢true e);
            leads = λ e. absurd (false≢true e);
            answered = unanswered refl;
          })

      replicas : (j : ℕ) (m : Mind sv) → j < all → at i (there (woke sv i all x)) s.house j ≡ there m → (j ≡ i) ⊎ (j ≡ i → ⊥) → MindInv all (draws i x ∷ h) j m
      replicas j m jl e (inl q) = rw (q, ← un_there (woke sv i all x) m (sym (at_same i (there (woke sv i all x)) s.house j q) ∙ e)) (fresh, idle (draws i x ∷ h) i x lt (omega (arith, nothing.3)))
      replicas j m jl e (inr n) =
          mind_stays all h (draws i x) none j (λ q. n (sym q)) m (r.replicas j m jl (sym (at_other i (there (woke sv i all x)) s.house j n) ∙ e))

  -- a letter that comes
  pub heard_good : (h : List (Event sv)) (es : List (Seen sv.O sv.R)) (s : Scene (Mind sv) (Msg sv)) → Rel all h es s → (i : ℕ) (m : Mind sv) (l : Letter (Msg sv)) → i < all → s.house i ≡ there m → Memᴰ l s.letters → l.to ≡ i → Good all h i (turn (Said l.by l.word) m)
  unfolding turn
  heard_good h es s r i m l lt e d to =
      let w : LetterInv all h l = r.letters l d in hears_good all h r.log i m (r.replicas i m lt e) l.by l.word (w.0, λ q. w.1.1 (to ∙ sym q)) (subst (λ (z : ℕ). WordInv all h l.by z l.word) to w.2)

  pub run : {n : ℕ} {es : List (Seen sv.O sv.R)} {s : Scene (Mind sv) (Msg sv)} → Goes (code sv) all n es s → (h : List (Event sv)) × Rel all h es s
  unfolding turn
  run first = ([], first_rel)
  run (hears {es = es} {s = s} i m l lt g e d to) = let (h, r) = run g in let x = heard_good h es s r i m l lt e d to in (x.then, turned_rel all i h es s (beside all i h es s r) (turn (Said l.by l.word) m) lt x)
  run (is_asked {es = es} {s = s} i k o m lt fits g e new) = let (h, r) = run g in quick_or_not_rel all i h es s r lt (record { number = k; call = o }) fits new m e (sv.quick o)
  run (beats {es = es} {s = s} i m lt g e) = let (h, r) = run g in let x = on_beat_good all i h r.log m (r.replicas i m lt e) in (x.then, turned_rel all i h es s (beside all i h es s r) (turn Beat m) lt x)
  run (falls {es = es} {s = s} i m lt g e few) = let (h, r) = run g in (h, fall_rel h es s i r)
  run (wakes {es = es} {s = s} i x lt new g e) = let (h, r) = run g in (draws i x ∷ h, wake_rel h es s i x lt new r)

-- what is said to be chosen is chosen, and what is found was made
module _ {sv : Service} (all : ℕ) (h : List (Event sv)) (es : List (Seen sv.O sv.R)) (s : Scene (Mind sv) (Msg sv)) (r : Rel all h es s) where
  pub told_chosen : (p : Proposal sv) → Told all s p → IsChosen all h p
  told_chosen p (known' i m lt e a c) = rw a at ((r.replicas i m lt e).0.known c)
  told_chosen p (said l d e) = let w : WordInv all h l.by l.to (Propose p true) = rw e at (r.letters l d).2 in w.1 refl

  pub found_made : (p : Proposal sv) → Found all s p → (world all h).Made p
  found_made p (held i m lt e a) = rw a at (r.replicas i m lt e).0.made
  found_made p (brought l c d e) = let w : WordInv all h l.by l.to (Propose p c) = rw e at (r.letters l d).2 in w.0
  found_made p (reported' l v x d e) = let w : WordInv all h l.by l.to (Promise v x p) = rw e at (r.letters l d).2 in (pledge_made all h r.log w.2.0 l.by x (rank v) p w.2.1).0

  in_line : (p q : Proposal sv) → IsChosen all h p → (world all h).Made q → id_of p < id_of q → Line (world all h) p q
  in_line p q c m lt = agreement (world all h) (facts all h r.log) (length h) p q c m lt

  -- the same, also for p itself
  pub from_here : (p q : Proposal sv) → IsChosen all h p → (world all h).Made q → id_of p ≤ id_of q → Line (world all h) p q
  from_here p q c m le = go (cases_lt (id_of p) (id_of q))
    where
      go : (id_of p < id_of q) ⊎ (id_of q ≤ id_of p) → Line (world all h) p q
      go (inl o) = in_line p q c m o
      go (inr o) = rw (once all h r.log p q (chosen_made h c) m (omega arith)) here

  lines : (p q : Proposal sv) → IsChosen all h p → IsChosen all h q → Line (world all h) p q ⊎ Line (world all h) q p
  lines p q a b = go (cases_lt (id_of p) (id_of q))
    where
      go : (id_of p < id_of q) ⊎ (id_of q ≤ id_of p) → Line (world all h) p q ⊎ Line (world all h) q p
      go (inl o) = inl (in_line p q a (chosen_made h b) o)
      go (inr o) = inr (from_here q p b (chosen_made h a) o)

  -- as long as an incarnation stands in a place, the number of its calls does not fall
  pub calls_rise : {p q : Proposal sv} → Line (world all h) p q → (i : ℕ) → roster p i ≡ roster q i → (place_at p i).no ≤ (place_at q i).no
  calls_rise here i e = omega arith
  calls_rise {p} (onward {q = m} {p = q} l st) i e = omega (arith, calls_rise l i (e ∙ sym between), st.rises i between)
    where
      between : roster m i ≡ roster q i
      between = age_one h i (roster m i) (roster q i) (st.drawn i) (omega (arith, st.younger i, grows (world all h) (facts all h r.log) l i, ap (age_in h i) e))

  pub accord : Accord all h s
  accord = record { log = r.log; told = told_chosen; one = lines; above = λ p q c f lt. in_line p q c (found_made q f) lt; base = λ p f. base_of all h r.log p (found_made p f); calls = λ p q l. calls_rise l }

  -- a member's welcome is in the line of every proposal above it, and there is none younger
  pub named : (i : ℕ) (m : Mind sv) → i < all → s.house i ≡ there m → (u : Member all h i m.agreement.incarnation (rank m.agreement.promised) (accepted m)) (p : Proposal sv) → Found all s p → id_of u.welcome.by ≤ id_of p → roster p i ≡ m.agreement.incarnation
  named i m lt e u p f le = sym (age_one h i m.agreement.incarnation (roster p i) self.drawn (omega (arith, self.latest (roster p i), younger)))
    where
      self : Self all h i m.agreement.me m.agreement.all m.agreement.incarnation
      self = (r.replicas i m lt e).0.who

      younger : age_in h i m.agreement.incarnation ≤ age_in h i (roster p i)
      younger = rw (← u.welcome.named) (grows (world all h) (facts all h r.log) (from_here u.welcome.by p u.welcome.chosen (found_made p f) le) i)

  pub fitting : 0 < all → (by to : ℕ) (w : Msg sv) → WordInv all h by to w → FitWord all w
  fitting some b t (Prepare v) a = a
  fitting some b t (Promise v x p) (f, g, a) = (f, g, made_fits all some h r.log p (pledge_made all h r.log a.0 b x (rank v) p a.1).0)
  fitting some b t (Propose p c) a = made_fits all some h r.log p a.0
  fitting some b t (Alive d c x) (z, f, p, is, m, y) = let q = made_fits all some h r.log p m in rw (← is) ((q.view, q.seq), f)
  fitting some b t (Accepted d x) (f, p, is, u, a) = let q = made_fits all some h r.log p (vote_made all h r.log u b x p a) in rw (← is) ((q.view, q.seq), f)
  fitting some b t (Join q) a = (a.fits, a.fits0)
  fitting some b t (Forward q) (f, g, z, a) = (f, g, z)

pub one_line : (sv : Service) → OneLine sv
one_line sv all n small es s g = let (h, r) = run all small g in (h, accord all h es s r)

pub member_is_named : (sv : Service) → MemberIsNamed sv
member_is_named sv all n small es s g i m lt e k =
    let (h, r) = run all small g in let u = (r.replicas i m lt e).0.inside k in (id_of u.welcome.by, u.welcome.below, λ p f le. named all h es s r i m lt e u p f le)

pub to_others : (sv : Service) → ToOthers sv
to_others sv all n small es s g l d = let (h, r) = run all small g in let w = r.letters l d in (w.0, w.1.0, w.1.1)

pub said_fits : (sv : Service) → SaidFits sv
said_fits sv all n small es s g l d = let (h, r) = run all small g in let w = r.letters l d in fitting all h es s r (omega (arith, w.0)) l.by l.to l.word w.2
