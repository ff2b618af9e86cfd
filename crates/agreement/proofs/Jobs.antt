-- A leader's next proposal: the places after a job are as young as before, a job that is taken up was asked for, and so serving keeps the invariant.
use Rattle.std.proofs.Common.{◌≡◌, ℕ, zero, suc, ◌<◌, ◌≤◌, true, cond, ◌&&◌, eqb, ltb, ◌⊎◌, List, [], ◌∷◌, length, get_or, set, Some, None, Option, sym, refl, ap, ◌∙◌, subst, inl, inr, arith}
use Rattle.std.proofs.lemmas.Option.{none-some, same_Some}
use Rattle.std.proofs.lemmas.List.{length-set}
use Rattle.std.specs.Option.{option_or}
use Rattle.std.proofs.lemmas.Bool.Decides.{nat_tests}
use Rattle.std.proofs.lemmas.Bool.{cond_both, and_parts, ltb-true, eqb-true, eqb-false, not-true}
use Rattle.agreement.specs.declared.Place.{Place}
use Rattle.agreement.specs.declared.Joining.{Joining}
use Rattle.agreement.specs.Facts.{is_next}
use Rattle.agreement.specs.Content.{Service, Content, Proposal, limit, rank, view_of, fresh_place, place_in, place_at, roster, called, joined, Change, by_call, by_join, FitPlace}
use Rattle.agreement.specs.Log.{Event, age_in, CallAsked, MakesOk, Log}
use Rattle.agreement.specs.Machine.{is_leader, Forwarded, Waiting, Mind, accepted, content_of, names, Job, DoCall, DoJoin, call_fits, join_fits, call_job, join_job, after, first_from, own_head, join_at, call_at, first_of, next_job, proposes, next_of, job_of, with_calls, with_joins, does, may_serve, serve}
use Rattle.agreement.proofs.History.{drawn}
use Rattle.agreement.proofs.Seven.{get_set}
use Rattle.agreement.proofs.Inv.{Member, Leading, JoinOk, AskedAs, Lined, JobsInv, MindInv}
use Rattle.agreement.proofs.Moves.{Good, Keeps, still_good}
use Rattle.agreement.proofs.Changes.{leader_member, cleared_is, fits_all, making_good}

-- THE PLACES AFTER A JOB
pub set_place : (ps : List Place) (j : ℕ) (q : Place) (P : ℕ → Place → Type 0) → ((s : ℕ) → P s (get_or ps s (fresh_place 0))) → P j q → (s : ℕ) → P s (get_or (set ps j q) s (fresh_place 0))
set_place ps j q P a b s = go (get_set ps j q (fresh_place 0) s)
  where
    go : (get_or (set ps j q) s (fresh_place 0) ≡ get_or ps s (fresh_place 0)) ⊎ ((s ≡ j) × (get_or (set ps j q) s (fresh_place 0) ≡ q)) → P s (get_or (set ps j q) s (fresh_place 0))
    go (inl t) = subst (P s) (sym t) (a s)
    go (inr (e, t)) = subst (P s) (sym t) (subst (λ (z : ℕ). P z q) (sym e) b)

-- whatever holds of each place, and of the one that is set, holds after a call
pub called_places : {sv : Service} (j : ℕ) (o : sv.O) (c : Content sv) (P : ℕ → Place → Type 0) → ((s : ℕ) → P s (place_in c s)) → P j (record { incarnation = (place_in c j).incarnation; no = suc (place_in c j).no }) → (s : ℕ) → P s (place_in (called j o c) s)
called_places {sv} j o c P a b s = cond_both (sv.is_read o) _ _ (λ (z : Content sv). P s (place_in z s)) (λ _. set_place c.places j _ P a b s) (λ _. set_place c.places j _ P a b s)

called_seven : {sv : Service} (j : ℕ) (o : sv.O) (c : Content sv) → (length c.places ≡ 7) × (length c.outcomes ≡ 7) → (length (called j o c).places ≡ 7) × (length (called j o c).outcomes ≡ 7)
called_seven {sv} j o c z = cond_both (sv.is_read o) _ _ (λ (d : Content sv). (length d.places ≡ 7) × (length d.outcomes ≡ 7)) (λ _. (length-set c.places j _ ∙ z.0, z.1)) (λ _. (length-set c.places j _ ∙ z.0, length-set c.outcomes j _ ∙ z.1))

-- WHAT HOLDS OF A JOB that is taken up: it is of a replica that there is; a call's number fits; a join was asked for in place of who stands there
abbrev JobOk : {sv : Service} → (all : ℕ) → List (Event sv) → Proposal sv → Job sv → Type 0
JobOk all h p (DoCall j a) = (j < all) × (suc (place_at p j).no < limit) × AskedAs h j (roster p j) (suc (place_at p j).no) a.number a.call
JobOk all h p (DoJoin j q) = (j < all) × JoinOk h j q × (roster p j ≡ q.replaces) × (q.incarnation ≡ q.replaces → ⊥)

abbrev SomeOk : {A : Type 0} → (A → Type 0) → Option A → Type 0
SomeOk P None = Unit {0}
SomeOk P (Some x) = P x

or_ok : {A : Type 0} (P : A → Type 0) (a b : Option A) → SomeOk P a → SomeOk P b → SomeOk P (option_or a b)
or_ok P None b x y = y
or_ok P (Some z) b x y = x

after_below : (n j : ℕ) → j < n → after n j < n
after_below n j lt = grind (arith, nat_tests)

first_ok : {A : Type 0} (P : A → Type 0) (f : ℕ → Option A) (n : ℕ) → ((j : ℕ) → j < n → SomeOk P (f j)) → (k j : ℕ) → j < n → SomeOk P (first_from k n j f)
unfolding first_from
first_ok P f n a zero j lt = tt
first_ok P f n a (suc k) j lt = or_ok P (f j) _ (a j lt) (first_ok P f n a k (after n j) (after_below n j lt))

join_job_ok : {sv : Service} (all : ℕ) (h : List (Event sv)) (p : Proposal sv) (j : ℕ) (o : Option Joining) → j < all → ((q : Joining) → o ≡ Some q → JoinOk h j q) → SomeOk (JobOk all h p) (join_job p j o)
join_job_ok all h p j None lt k = tt
join_job_ok all h p j (Some q) lt k = cond_both (join_fits j q p) _ _ (SomeOk (JobOk all h p)) (λ e. (lt, k q refl, eqb-true _ _ (and_parts _ _ e).0, eqb-false _ _ (not-true _ (and_parts _ _ e).1))) (λ _. tt)

call_job_ok : {sv : Service} (all : ℕ) (h : List (Event sv)) (p : Proposal sv) (j : ℕ) (o : Option (Forwarded sv)) → j < all → ((a : Forwarded sv) → o ≡ Some a → AskedAs h j a.incarnation a.no a.number a.call) → SomeOk (JobOk all h p) (call_job p j o)
call_job_ok all h p j None lt k = tt
call_job_ok {sv} all h p j (Some a) lt k = cond_both (call_fits j a p) _ _ (SomeOk (JobOk all h p)) (λ e. fits (and_parts (names j a.incarnation p) (eqb a.no (suc (place_at p j).no) && ltb a.no limit) (and_parts _ _ e).0)) (λ _. tt)
  where
    fits : (names j a.incarnation p ≡ true) × ((eqb a.no (suc (place_at p j).no) && ltb a.no limit) ≡ true) → (j < all) × (suc (place_at p j).no < limit) × AskedAs h j (roster p j) (suc (place_at p j).no) a.number a.call
    fits (n, e) = (lt, grind (arith, nat_tests), asked)
      where
        number : a.no ≡ suc (place_at p j).no
        number = grind (arith, nat_tests)

        asked : AskedAs h j (roster p j) (suc (place_at p j).no) a.number a.call
        asked = rw (eqb-true _ _ n, ← number) (k a refl)

own_asked : {sv : Service} (h : List (Event sv)) (i : ℕ) (m : Mind sv) (ts : List (Waiting sv)) → Lined h i m.agreement.incarnation (suc m.agreement.no) ts → (a : Forwarded sv) → own_head ts m ≡ Some a → AskedAs h i a.incarnation a.no a.number a.call
unfolding own_head
own_asked h i m [] w a e = absurd (none-some _ e)
own_asked h i m (t ∷ ts) (n, b, w) a e = rw (← same_Some _ _ e) b

module _ {sv : Service} (all : ℕ) (h : List (Event sv)) (lg : Log all h) (i : ℕ) (m : Mind sv) (v : MindInv all h i m) where
  job_ok : SomeOk (JobOk all h (accepted m)) (next_job m)
  job_ok =
      or_ok (JobOk all h (accepted m)) (first_of (join_at m) m) (first_of (call_at m) m)
      (first_ok (JobOk all h (accepted m)) (join_at m) m.agreement.all (λ j lt. join_job_ok all h (accepted m) j (get_or m.agreement.joins j None) (omega (arith, v.0.who.all')) (v.1.joins j)) m.agreement.all m.agreement.turn (omega (arith, v.0.who.all', v.1.turn)))
      (first_ok (JobOk all h (accepted m)) (call_at m) m.agreement.all (λ j lt. call_job_ok all h (accepted m) j (cond (eqb j m.agreement.me) (own_head m.waiting m) (get_or m.calls j None)) (omega (arith, v.0.who.all')) (asked j)) m.agreement.all m.agreement.turn (omega (arith, v.0.who.all', v.1.turn)))
    where
      -- a call that a leader has came in where it says: the own head, or one that was forwarded
      asked : (j : ℕ) (a : Forwarded sv) → cond (eqb j m.agreement.me) (own_head m.waiting m) (get_or m.calls j None) ≡ Some a → AskedAs h j a.incarnation a.no a.number a.call
      asked j a =
          cond_both (eqb j m.agreement.me) _ _ (λ (o : Option (Forwarded sv)). o ≡ Some a → AskedAs h j a.incarnation a.no a.number a.call)
          (λ e q. subst (λ (z : ℕ). AskedAs h z a.incarnation a.no a.number a.call) (sym (eqb-true _ _ e ∙ v.0.who.me)) (own_asked h i m m.waiting v.1.waits a q)) (λ _ q. v.1.calls j a q)

  -- whose job it is, and who is next
  jobs_of : (j : ℕ) (qs : List (Option Joining)) (cs : List (Option (Forwarded sv))) → j < all → ((s : ℕ) (q : Joining) → get_or qs s None ≡ Some q → JoinOk h s q) → ((s : ℕ) (a : Forwarded sv) → get_or cs s None ≡ Some a → AskedAs h s a.incarnation a.no a.number a.call) →
      JobsInv all h i m.agreement.incarnation qs (Some j) (after m.agreement.all j) m.agreement.no m.waiting cs
  jobs_of j qs cs lt f g =
      record { joins = f; calls = g; job = λ k e. let z : k ≡ j = cc in omega arith; turn = let b = after_below m.agreement.all j (omega (arith, v.0.who.all')) in omega (arith, v.0.who.all'); waits = v.1.waits; last = v.1.last }

-- the next proposal of the view. n is the mind m, with its jobs changed
module _ {sv : Service} (all : ℕ) (h : List (Event sv)) (lg : Log all h) (i : ℕ) (m : Mind sv) (v : MindInv all h i m) where
  next_good : (c : Content sv) (ch : Change (content_of m) c) → CallAsked h (accepted m) ch → ((s : ℕ) → age_in h s (roster (accepted m) s) ≤ age_in h s (place_in c s).incarnation) → ((s : ℕ) → FitPlace (place_in c s)) → (length c.places ≡ 7) × (length c.outcomes ≡ 7) → ((s : ℕ) → roster (accepted m) s ≡ (place_in c s).incarnation → (place_at (accepted m) s).no ≤ (place_in c s).no) →
      is_leader m.agreement.role ≡ true → m.agreement.chosen ≡ true → suc m.agreement.accepted.seq < limit → Good all h i (proposes (next_of c (accepted m)) m)
  next_good c ch as' up fit sev ris e known seq = making_good all h lg i m v u (next_of c (accepted m)) mok nv l.now (rw l.now l.leader) (rw l.now l.inc) (omega (arith, l.last)) (omega arith)
    where
      l : Leading all h i m.agreement.incarnation (rank m.agreement.promised) (accepted m) m.agreement.votes
      l = v.0.leads e

      u : Member all h i m.agreement.incarnation (rank m.agreement.promised) (accepted m)
      u = v.0.inside (leader_member m.agreement.role e)

      nv : view_of (next_of c (accepted m)) ≡ rank m.agreement.accepted.view
      nv = omega arith

      old : (s : ℕ) → 0 < age_in h s (roster (accepted m) s)
      old s = drawn all h lg (accepted m) v.0.made s

      mok : MakesOk all h (next_of c (accepted m))
      mok =
          record {
            origin = is_next (accepted m) v.0.made (length h, v.0.known known) (record { change = ch; asked = as'; drawn = old; younger = up; rises = ris }) (omega arith) (omega arith);
            base = (accepted m, v.0.known known, ch);
            new = rw (nv, l.now, l.leader, l.inc) (omega (arith, l.last, l.now));
            not_root = omega arith;
            fits = record { view = (fits_all all h lg i m v (accepted m) v.0.made).view; seq = seq; places = fit; arrays = sev };
            drawn = λ s. omega (arith, old s, up s);
            leader = rw (nv, l.now, l.leader, l.inc) v.0.who.drawn;
          }

module _ {sv : Service} (all i : ℕ) where
  does_good : (h : List (Event sv)) → Log all h → (m : Mind sv) → MindInv all h i m → is_leader m.agreement.role ≡ true → m.agreement.chosen ≡ true → suc m.agreement.accepted.seq < limit → (o : Option (Job sv)) → SomeOk (JobOk all h (accepted m)) o → Good all h i (does o m)
  unfolding does
  does_good h lg m v e c s None k = still_good all i h m v
  does_good h lg m v e c s (Some (DoCall j a)) k =
      next_good all h lg i (with_calls (set m.calls j None) (job_of j m)) (v.0, jobs_of all h lg i m v j m.agreement.joins (set m.calls j None) k.0 v.1.joins (λ t b n. v.1.calls t b (cleared_is m.calls j t b n))) (called j a.call (content_of m)) (by_call j a.number a.call) (omega (arith, k.0, v.0.who.few), k.2.0, k.2.1)
      (called_places j a.call (content_of m) (λ t q. age_in h t (roster (accepted m) t) ≤ age_in h t q.incarnation) (λ t. omega arith) (omega arith))
      (called_places j a.call (content_of m) (λ t q. FitPlace q) (fits_all all h lg i m v (accepted m) v.0.made).places (record { incarnation = ((fits_all all h lg i m v (accepted m) v.0.made).places j).incarnation; no = k.1 }))
      (called_seven j a.call (content_of m) (fits_all all h lg i m v (accepted m) v.0.made).arrays)
      (called_places j a.call (content_of m) (λ t q. roster (accepted m) t ≡ q.incarnation → (place_at (accepted m) t).no ≤ q.no) (λ t _. omega arith) (λ _. omega arith)) e c s
  does_good h lg m v e c s (Some (DoJoin j q)) k =
      next_good all h lg i (with_joins (set m.agreement.joins j None) (job_of j m)) (v.0, jobs_of all h lg i m v j (set m.agreement.joins j None) m.calls k.0 (λ t a n. v.1.joins t a (cleared_is m.agreement.joins j t a n)) v.1.calls) (joined j q.incarnation (content_of m)) (by_join j q.incarnation) tt
      (set_place m.agreement.places j (fresh_place q.incarnation) (λ t z. age_in h t (roster (accepted m) t) ≤ age_in h t z.incarnation) (λ t. omega arith) (omega (arith, k.1.younger, ap (age_in h j) k.2)))
      (set_place m.agreement.places j (fresh_place q.incarnation) (λ t z. FitPlace z) (fits_all all h lg i m v (accepted m) v.0.made).places (record { incarnation = k.1.fits; no = omega arith }))
      (let z = (fits_all all h lg i m v (accepted m) v.0.made).arrays in (length-set m.agreement.places j _ ∙ z.0, length-set m.outcomes j _ ∙ z.1))
      (set_place m.agreement.places j (fresh_place q.incarnation) (λ t z. roster (accepted m) t ≡ z.incarnation → (place_at (accepted m) t).no ≤ z.no) (λ t _. omega arith) (λ n. absurd (k.3 (sym n ∙ k.2)))) e c s

  pub serve_keeps : Keeps {sv = sv} all i serve
  unfolding serve
  serve_keeps h lg m v =
      cond_both (may_serve m) _ _ (Good all h i)
      (λ e. let a = and_parts _ _ e in let b = and_parts _ _ a.1 in does_good h lg m v a.0 b.0 (ltb-true _ _ b.1) (next_job m) (job_ok all h lg i m v)) (λ _. still_good all i h m v)
