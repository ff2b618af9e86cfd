-- Every turn of a replica keeps the invariant, whatever comes to it: a handler for each message, a call, a tick.
use Rattle.std.proofs.Common.{◌≡◌, ℕ, suc, ◌+◌, ◌<◌, ◌≤◌, Bool, true, false, cond, not, ◌&&◌, eqb, ltb, ◌⊎◌, List, [], ◌∷◌, ◌++◌, length, get_or, set, Some, None, sym, refl, ap, ◌∙◌, subst, inl, inr, arith}
use Rattle.std.proofs.lemmas.List.{length-append}
use Rattle.std.proofs.lemmas.Bool.Decides.{nat_tests}
use Rattle.std.proofs.lemmas.Bool.{cond_both, and_parts, ltb-true, ltb-false, leb-true, eqb-true, true≢false, false≢true}
use Rattle.agreement.specs.declared.View.{View}
use Rattle.agreement.specs.declared.ProposalId.{ProposalId}
use Rattle.agreement.specs.declared.Joining.{Joining}
use Rattle.agreement.specs.Facts.{Chosen, is_first}
use Rattle.agreement.specs.Content.{Service, Proposal, limit, rank, rank_id, id_of, view_of, roster, copied, FitView}
use Rattle.agreement.specs.Log.{Event, asks, is_used, goes_on, votes, pledges, At, age_in, world, Ok, MakesOk, Log}
use Rattle.agreement.specs.Machine.{Msg, Prepare, Promise, Propose, Alive, Accepted, Join, Forward, is_member, is_candidate, is_leader, Forwarded, Waiting, Mind, accepted, names, counts, quorum, counted, still, says, then_do, tell_done, forward, answer, learn, call_fits, join_fits, copy_in, serve, is_settled, settle, lead, elect, same_view, hold, welcome, enter, is_below, is_own, may_promise, is_mine, promise, on_prepare, on_promise, follows, is_named, implied, may_hold, is_late, hold_or_not, offered, take_or_not, leads, on_propose, holds, is_welcome, is_stale, alive_here, alive_there, on_alive, heard_from, count_vote, on_accepted, on_join, on_forward, comes_in, may_stand, own_view, ask_all, stand, say_again, has_job, stand_or_not, on_beat, hears, with_patience, with_heard, with_job}
use Rattle.agreement.proofs.History.{drawn, once, vote_made, passed, base_of}
use Rattle.agreement.proofs.Inv.{Candid, Leading, Member, VoterInv, JoinOk, AskedAs, Lined, by_asking, voter_stays, join_stays, QueueInv, MindInv, WordInv, Other, Well}
use Rattle.agreement.proofs.Moves.{Ext, same, more, Good, Keeps, ext_word, ext_queue, then_good, then_keeps, still_good, still_keeps, says_good, catch_up_good, others, tell_keeps, tell_done_keeps, tell_all_keeps, ask_all_keeps, forward_keeps, answer_keeps}
use Rattle.agreement.proofs.Changes.{vote_is, set_is, leader_member, candidate_member, no_jobs, chosen_is, made_view, fits_all, learned_inv, promised_ok, promised_to, promising_inv, own_fits, own_le, own_lt, standing_inv, making_good, reported_inv, member_votes, member_holds, welcome_votes, welcome_holds, keeping_inv, entering_inv}
use Rattle.agreement.proofs.Jobs.{serve_keeps}

module _ {sv : Service} (all : ℕ) (h : List (Event sv)) (lg : Log all h) (i : ℕ) (m : Mind sv) (v : MindInv all h i m) where
  learn_good : Chosen (world all h) (length h) (accepted m) → Good all h i (learn m)
  learn_good c = then_keeps all i h lg _ answer (still_good all i h _ (learned_inv all h lg i m v c, v.1)) (answer_keeps all i)

  -- PREPARE
  promise_good : (w : View) → FitView all w → Member all h i m.agreement.incarnation (rank m.agreement.promised) (accepted m) → rank m.agreement.promised ≤ rank w → view_of (accepted m) < rank w → Good all h i (promise w m)
  promise_good w fw u le lt =
      record {
        then = promised_to all h lg i m v u w fw le lt;
        ext = ext;
        mind = (promising_inv all h lg i m v u w fw le lt, no_jobs all i _ m (ext_queue all i h ext m v.1));
        words = cond_both (is_mine w m) _ _ (Well all (promised_to all h lg i m v u w fw le lt) i) (λ _. tt) (λ e. (others all i h w.leader _ _ _ v.0.who fw.leader e, (fw, v.0.who.fits, (length h, inl (refl, refl))), tt));
      }
    where
      ext : Ext all i h (promised_to all h lg i m v u w fw le lt)
      ext = more same (promised_ok all h lg i m v u w fw le lt) refl tt

  on_prepare_good : (j : ℕ) (w : View) → Other all i j → FitView all w → Good all h i (on_prepare j w m)
  unfolding on_prepare
  on_prepare_good j w o fw =
      cond_both (is_member m.agreement.role && not (is_own w m)) _ _ (Good all h i)
      (λ e. cond_both (is_below w m) _ _ (Good all h i) (λ _. catch_up_good all i h j m o v)
      (λ n. cond_both (may_promise w m) _ _ (Good all h i)
      (λ t. promise_good w fw (v.0.inside (and_parts _ _ e).0) (ltb-false _ _ n) (omega (arith, made_view all h lg i m v (accepted m) v.0.made, ltb-true _ _ t))) (λ _. still_good all i h m v)))
      (λ _. still_good all i h m v)

  -- it stands
  stand_good : Member all h i m.agreement.incarnation (rank m.agreement.promised) (accepted m) → suc m.agreement.promised.number < limit → Good all h i (stand m)
  stand_good u nf =
      then_keeps all i h lg _ ask_all
      (record {
        then = pledges i m.agreement.incarnation (rank (own_view m.agreement)) (accepted m) ∷ h;
        ext = ext;
        mind = (standing_inv all h lg i m v u nf, no_jobs all i _ m (ext_queue all i h ext m v.1));
        words = tt;
      }) (ask_all_keeps all i)
    where
      ext : Ext all i h (pledges i m.agreement.incarnation (rank (own_view m.agreement)) (accepted m) ∷ h)
      ext = more same (promised_ok all h lg i m v u (own_view m.agreement) (own_fits all h lg i m v u nf) (own_le all h lg i m v u nf) (own_lt all h lg i m v u nf)) refl tt

  -- the candidate has a quorum, or not yet
  elect_good : Good all h i (elect m)
  unfolding elect
  elect_good = cond_both (is_candidate m.agreement.role && quorum m.agreement.all m.agreement.places m.agreement.votes) _ _ (Good all h i) (λ e. let b = and_parts _ _ e in yes' b.0 b.1) (λ _. still_good all i h m v)
    where
      yes' : is_candidate m.agreement.role ≡ true → quorum m.agreement.all m.agreement.places m.agreement.votes ≡ true → Good all h i (lead m)
      yes' e q =
          making_good all h lg i (with_job None m.agreement.turn (with_patience 6 (with_heard _ m))) (v.0, record { joins = v.1.joins; job = λ j n. absurd (let z : ◌≡◌ {A = ℕ} 0 1 = cc in omega arith); turn = v.1.turn; calls = v.1.calls; waits = v.1.waits; last = v.1.last }) u p mok qv refl c.leader c.inc
          (omega (arith, c.none)) (omega (arith, c.before))
        where
          p : Proposal sv
          p = copy_in m.agreement.promised (accepted m)

          c : Candid all h i m.agreement.incarnation (rank m.agreement.promised) (accepted m) m.agreement.votes
          c = v.0.stands e

          u : Member all h i m.agreement.incarnation (rank m.agreement.promised) (accepted m)
          u = v.0.inside (candidate_member m.agreement.role e)

          qv : view_of (copy_in m.agreement.promised (accepted m)) ≡ rank m.agreement.promised
          qv = omega arith

          each : (s : ℕ) → counts m.agreement.votes m.agreement.places s ≡ true → (r : Proposal sv) × (world all h).Pledge s (roster (accepted m) s) (view_of (copy_in m.agreement.promised (accepted m))) r × (id_of r ≤ id_of (accepted m))
          each s t = rw qv (c.got s (roster (accepted m) s) (vote_is _ _ t))

          mok : MakesOk all h (copy_in m.agreement.promised (accepted m))
          mok =
              record {
                origin = is_first (accepted m) v.0.made (record { change = copied; asked = tt; drawn = drawn all h lg _ v.0.made; younger = λ s. omega arith; rises = λ s _. omega arith }) (omega (arith, c.before)) (λ c lt. omega arith)
                    (record { who = counts m.agreement.votes m.agreement.places; most = rw (← v.0.who.all') (ltb-true _ _ q); each = each });
                base = base_of all h lg (accepted m) v.0.made;
                new = rw (qv, c.leader, c.inc) (omega (arith, c.none));
                not_root = omega (arith, c.before);
                fits = record { view = v.0.fits; seq = omega arith; places = (fits_all all h lg i m v (accepted m) v.0.made).places; arrays = (fits_all all h lg i m v (accepted m) v.0.made).arrays };
                drawn = drawn all h lg (accepted m) v.0.made;
                leader = rw (qv, c.leader, c.inc) v.0.who.drawn;
              }

  -- PROPOSE. A member holds what was made
  hold_good : (j : ℕ) (p : Proposal sv) (c : Bool) → Other all i j → (made : (world all h).Made p) → (c ≡ true → Chosen (world all h) (length h) p) → Member all h i m.agreement.incarnation (rank m.agreement.promised) (accepted m) → rank m.agreement.promised ≤ rank p.id.view → id_of (accepted m) ≤ id_of p →
      Good all h i (hold j p c m)
  hold_good j p c o made ch u le up =
      then_keeps all i h lg _ answer
      (then_keeps all i h lg _ (cond (same_view p m) still forward)
      (record {
        then = votes i m.agreement.incarnation p ∷ h;
        ext = ext;
        mind = (member_holds all h lg i m v p c made ch u le up, no_jobs all i _ m (ext_queue all i h ext m v.1));
        words = (o, (v.0.who.fits, p, refl, length h, inl (refl, refl)), tt);
      })
      (cond_both (same_view p m) still forward (Keeps all i) (λ _. still_keeps all i) (λ _. forward_keeps all i)))
      (answer_keeps all i)
    where
      ext : Ext all i h (votes i m.agreement.incarnation p ∷ h)
      ext = more same (member_votes all h lg i m v p c made ch u le up) refl tt

  -- one that recovers is welcome
  welcome_good : (j : ℕ) (p : Proposal sv) → Other all i j → (made : (world all h).Made p) → is_member m.agreement.role ≡ false → Chosen (world all h) (length h) p → roster p i ≡ m.agreement.incarnation → id_of (accepted m) ≤ id_of p → Good all h i (welcome j p m)
  welcome_good j p o made r ch n up =
      then_keeps all i h lg _ forward
      (record {
        then = votes i m.agreement.incarnation p ∷ h;
        ext = ext;
        mind = (welcome_holds all h lg i m v p true made (λ _. ch) r ch n up, no_jobs all i _ m (ext_queue all i h ext m v.1));
        words = (o, (v.0.who.fits, p, refl, length h, inl (refl, refl)), tt);
      })
      (forward_keeps all i)
    where
      ext : Ext all i h (votes i m.agreement.incarnation p ∷ h)
      ext = more same (welcome_votes all h lg i m v p true made (λ _. ch) r ch n) refl tt

  enter_good : is_member m.agreement.role ≡ false → Chosen (world all h) (length h) (accepted m) → roster (accepted m) i ≡ m.agreement.incarnation → Good all h i (enter m)
  enter_good r c n = then_keeps all i h lg _ forward (record { then = h; ext = same; mind = (entering_inv all h lg i m v r c n, v.1); words = tt }) (forward_keeps all i)

  -- who is named by its own number
  named_is : (p : Proposal sv) → is_named p m ≡ true → roster p i ≡ m.agreement.incarnation
  named_is p e = ap (λ (z : ℕ). roster p z) (sym v.0.who.me) ∙ eqb-true _ _ e

  implied_good : (p : Proposal sv) → (world all h).Made p → Good all h i (implied p m)
  unfolding implied
  implied_good p made =
      cond_both (follows p m) _ _ (Good all h i)
      (λ e. cond_both (is_member m.agreement.role) _ _ (Good all h i) (λ _. learn_good (was e)) (λ r. cond_both (is_named (accepted m) m) _ _ (Good all h i) (λ n. enter_good r (was e) (named_is (accepted m) n)) (λ _. still_good all i h m v))) (λ _. still_good all i h m v)
    where
      was : follows p m ≡ true → Chosen (world all h) (length h) (accepted m)
      was e =
          let b = and_parts (same_view p m) (ltb (id_of (accepted m)) (id_of p)) e in
          passed all h lg (accepted m) p v.0.made made (made_view all h lg i m v (accepted m) v.0.made ∙ (eqb-true _ _ b.0 ∙ sym (made_view all h lg i m v p made))) (ltb-true _ _ b.1)

  join_good : (j x : ℕ) → Other all i j → 0 < age_in h i x → x < limit → Good all h i (says j (Join (record { incarnation = m.agreement.incarnation; replaces = x })) m)
  join_good j x o d f = says_good all i h j _ m o (record { was = d; younger = v.0.who.latest x; fits = v.0.who.fits; fits0 = f }) v

  hold_or_not_good : (j : ℕ) (p : Proposal sv) (c : Bool) → Other all i j → WordInv all h j i (Propose p c) → is_member m.agreement.role ≡ true → Good all h i (hold_or_not j p c m)
  unfolding hold_or_not
  hold_or_not_good j p c o w e =
      cond_both (is_late p m) _ _ (Good all h i) (λ _. catch_up_good all i h j m o v)
      (λ n. cond_both (may_hold p m) _ _ (Good all h i) (λ t. hold_good j p c o w.0 w.1 (v.0.inside e) (ltb-false _ _ n) (leb-true _ _ t)) (λ _. still_good all i h m v))

  offered_good : (j : ℕ) (p : Proposal sv) (c : Bool) → Other all i j → WordInv all h j i (Propose p c) → is_member m.agreement.role ≡ false → Good all h i (offered j p c m)
  unfolding offered
  offered_good j p c o w r =
      cond_both (is_named p m) _ _ (Good all h i)
      (λ n. cond_both (may_hold p m) _ _ (Good all h i)
      (λ q. cond_both c _ _ (Good all h i) (λ t. welcome_good j p o w.0 r (w.1 t) (named_is p n) (leb-true _ _ q)) (λ _. still_good all i h _ (keeping_inv all h lg i m v p w.0 r (leb-true _ _ q), v.1))) (λ _. still_good all i h m v))
      (λ _. join_good j (roster p m.agreement.me) o (rw v.0.who.me (drawn all h lg p w.0 i)) ((fits_all all h lg i m v p w.0).places m.agreement.me).incarnation)

  take_or_not_good : (j : ℕ) (p : Proposal sv) (c : Bool) → Other all i j → WordInv all h j i (Propose p c) → Good all h i (take_or_not j p c m)
  unfolding take_or_not
  take_or_not_good j p c o w = cond_both (is_member m.agreement.role) _ _ (Good all h i) (λ e. hold_or_not_good j p c o w e) (λ e. offered_good j p c o w e)

  -- ALIVE
  on_alive_good : (j : ℕ) (d : ProposalId) (c : Bool) (x : ℕ) → Other all i j → WordInv all h j i (Alive d c x) → Good all h i (on_alive j d c x m)
  unfolding on_alive alive_here alive_there
  on_alive_good j d c x o (age, fx, p, is, made, ch) =
      cond_both (is_member m.agreement.role) _ _ (Good all h i)
      (λ e. cond_both (is_stale d m) _ _ (Good all h i) (λ _. catch_up_good all i h j m o v)
      (λ n. cond_both (leads d.view m) _ _ (Good all h i) (λ _. still_good all i h m v)
      (λ _. cond_both (holds d m) _ _ (Good all h i) (λ t. hold_good j (accepted m) c o v.0.made (λ y. here t (ch y)) (v.0.inside e) (up t (ltb-false _ _ n)) (omega arith))
      (λ _. cond_both (eqb (rank d.view) (rank m.agreement.promised)) _ _ (Good all h i) (λ _. still_good all i h _ (v.0, v.1)) (λ _. still_good all i h m v)))))
      (λ r. cond_both (eqb x m.agreement.incarnation) _ _ (Good all h i)
      (λ _. cond_both (is_welcome d c m) _ _ (Good all h i)
      (λ t. let a = and_parts _ _ t in let b = and_parts _ _ a.1 in welcome_good j (accepted m) o v.0.made r (here b.0 (ch a.0)) (named_is (accepted m) b.1) (omega arith)) (λ _. still_good all i h m v))
      (λ _. join_good j x o age fx))
    where
      -- what is alive is what is held
      here : holds d m ≡ true → Chosen (world all h) (length h) p → Chosen (world all h) (length h) (accepted m)
      here t y = subst (Chosen (world all h) (length h)) (once all h lg p (accepted m) made v.0.made (ap rank_id is ∙ eqb-true _ _ t)) y

      -- and it is of the view that was promised
      up : holds d m ≡ true → rank m.agreement.promised ≤ rank d.view → rank m.agreement.promised ≤ rank m.agreement.accepted.view
      up t le = omega (arith, eqb-true _ _ t, made_view all h lg i m v (accepted m) v.0.made, made_view all h lg i m v p made, ap rank_id is, ap (λ (z : ProposalId). rank z.view) is)

  -- ACCEPTED
  count_inv : (j : ℕ) (d : ProposalId) (x : ℕ) → WordInv all h j i (Accepted d x) → is_leader m.agreement.role ≡ true → VoterInv all h i (count_vote j d x m)
  count_inv j d x (fx, p, pd, t, vote) e = cond_both (holds d m && names j x (accepted m)) _ _ (VoterInv all h i) (λ b. yes' (eqb-true _ _ (and_parts _ _ b).0)) (λ _. v.0)
    where
      l : Leading all h i m.agreement.incarnation (rank m.agreement.promised) (accepted m) m.agreement.votes
      l = v.0.leads e

      yes' : rank_id d ≡ id_of (accepted m) → VoterInv all h i (counted j x (heard_from j m))
      yes' q =
          record {
            who = v.0.who;
            fits = v.0.fits;
            made = v.0.made;
            known = v.0.known;
            inside = λ _. v.0.inside (leader_member m.agreement.role e);
            outside = λ e. absurd (true≢false e);
            stands = λ e. absurd (false≢true e);
            leads = λ _. record { leader = l.leader; inc = l.inc; now = l.now; last = l.last; acked = acked };
            answered = v.0.answered;
          }
        where
          is : p ≡ accepted m
          is = once all h lg p (accepted m) (vote_made all h lg t j x p vote) v.0.made (ap rank_id pd ∙ q)

          acked : (s y : ℕ) → get_or (set m.agreement.votes j (Some x)) s None ≡ Some y → (t : ℕ) × At h t (votes s y (accepted m))
          acked s y k = go (set_is m.agreement.votes j x s y k)
            where
              go : (get_or m.agreement.votes s None ≡ Some y) ⊎ ((s ≡ j) × (y ≡ x)) → (t : ℕ) × At h t (votes s y (accepted m))
              go (inl q) = l.acked s y q
              go (inr (q, r)) = let z : ◌≡◌ {A = Event sv} (votes j x p) (votes s y (accepted m)) = cc is in (t, subst (At h t) z vote)

module _ {sv : Service} (all i : ℕ) where
  settle_keeps : Keeps {sv = sv} all i settle
  unfolding settle
  settle_keeps h lg m v =
      cond_both (is_leader m.agreement.role && is_settled m) _ _ (Good all h i)
      (λ e. let a = and_parts _ _ e in let b = and_parts _ _ a.1 in
      then_keeps all i h lg _ serve (then_keeps all i h lg _ answer (then_keeps all i h lg _ (λ n. tell_done n.agreement.job n)
      (still_good all i h _ (learned_inv all h lg i m v (chosen_is all i h m.agreement.all m.agreement.votes (accepted m) v.0.who.all' v.0.made (v.0.leads a.0).acked b.1), v.1))
      (λ k l n w. tell_done_keeps all i n.agreement.job w.1.job k l n w)) (answer_keeps all i)) (serve_keeps all i))
      (λ _. still_good all i h m v)

  say_again_keeps : Keeps {sv = sv} all i say_again
  unfolding say_again
  say_again_keeps h lg m v =
      cond_both (is_leader m.agreement.role) _ _ (Good all h i) (λ _. tell_all_keeps all i h lg m v) (λ _. cond_both (is_candidate m.agreement.role) _ _ (Good all h i) (λ _. ask_all_keeps all i h lg m v) (λ _. still_good all i h m v))

  stand_or_not_keeps : Keeps {sv = sv} all i stand_or_not
  unfolding stand_or_not
  stand_or_not_keeps h lg m v =
      cond_both (is_member m.agreement.role && may_stand m) _ _ (Good all h i) (λ e. let a = and_parts _ _ e in stand_good all h lg i m v (v.0.inside a.0) (ltb-true _ _ (and_parts _ _ a.1).1))
      (λ _. cond_both (has_job m) _ _ (Good all h i) (λ _. serve_keeps all i h lg m v) (λ _. then_keeps all i h lg _ forward (say_again_keeps h lg m v) (forward_keeps all i)))

  pub on_beat_good : Keeps {sv = sv} all i on_beat
  unfolding on_beat
  on_beat_good h lg m v = cond_both (is_member m.agreement.role) _ _ (Good all h i) (λ _. then_keeps all i h lg _ stand_or_not (still_good all i h _ (v.0, v.1)) stand_or_not_keeps) (λ _. still_good all i h m v)

  -- A CALL that waits from now on: it came in as the next of its replica
  module _ (h : List (Event sv)) (lg : Log all h) (t : Waiting sv) (f : t.number < limit) (new : is_used t.number h ≡ false) (m : Mind sv) (v : MindInv all h i m) where
    abbrev pub asked_now : List (Event sv)
    asked_now = asks i m.agreement.incarnation (suc (m.agreement.no + length m.waiting)) t.number t.call ∷ h

    pub ask_ok : Ok all h (asks i m.agreement.incarnation (suc (m.agreement.no + length m.waiting)) t.number t.call)
    ask_ok = record { drawn = v.0.who.drawn; next = omega (arith, v.1.last); new = new }

    lined_more : (k : ℕ) (ts : List (Waiting sv)) → Lined h i m.agreement.incarnation k ts → k + length ts ≡ suc (m.agreement.no + length m.waiting) → Lined asked_now i m.agreement.incarnation k (ts ++ t ∷ [])
    lined_more k [] w e = (f, (length h, inl (refl, let z : k ≡ suc (m.agreement.no + length m.waiting) = omega arith in cc)), tt)
    lined_more k (u ∷ ts) (n, (a, b), w) e = (n, (a, inr b), lined_more (suc k) ts w (omega arith))

    comes_inv : MindInv all asked_now i (comes_in t m)
    comes_inv = (
      voter_stays all h _ ask_ok i (by_asking h i _ _ _ _ _) m v.0,
      record {
        joins = λ j q e. join_stays all h _ ask_ok j q (v.1.joins j q e);
        calls = λ j a e. let u = v.1.calls j a e in (u.0, inr u.1);
        job = v.1.job;
        turn = v.1.turn;
        waits = lined_more (suc m.agreement.no) m.waiting v.1.waits (omega arith);
        last = let l = length-append m.waiting (t ∷ []) in let b = v.1.last in grind (arith, nat_tests);
      },
    )

    pub starts_good : Good all asked_now i (then_do (then_do (still (comes_in t m)) forward) serve)
    starts_good = then_keeps all i asked_now (goes_on lg ask_ok) _ serve (then_keeps all i asked_now (goes_on lg ask_ok) _ forward (still_good all i asked_now _ comes_inv) (forward_keeps all i)) (serve_keeps all i)

    pub waits_good : Good all asked_now i (still (comes_in t m))
    waits_good = still_good all i asked_now _ comes_inv

  on_forward_good : (j : ℕ) (a : Forwarded sv) → j < all → (h : List (Event sv)) → Log all h → AskedAs h j a.incarnation a.no a.number a.call → (m : Mind sv) → MindInv all h i m → Good all h i (on_forward j a m)
  unfolding on_forward
  on_forward_good j a lt h lg as' m v =
      cond_both (is_leader m.agreement.role && names j a.incarnation (accepted m)) _ _ (Good all h i)
      (λ _. cond_both (eqb a.no (get_or m.agreement.places j _).no && m.agreement.chosen) _ _ (Good all h i) (λ _. tell_keeps all i j lt h lg m v)
      (λ _. cond_both (call_fits j a (accepted m)) _ _ (Good all h i)
      (λ _. then_keeps all i h lg _ serve (still_good all i h _ (v.0, record { joins = v.1.joins; calls = queued; job = v.1.job; turn = v.1.turn; waits = v.1.waits; last = v.1.last })) (serve_keeps all i)) (λ _. still_good all i h m v)))
      (λ _. still_good all i h m v)
    where
      queued : (s : ℕ) (b : Forwarded sv) → get_or (set m.calls j (Some a)) s None ≡ Some b → AskedAs h s b.incarnation b.no b.number b.call
      queued s b e = go (set_is m.calls j a s b e)
        where
          go : (get_or m.calls s None ≡ Some b) ⊎ ((s ≡ j) × (b ≡ a)) → AskedAs h s b.incarnation b.no b.number b.call
          go (inl z) = v.1.calls s b z
          go (inr (z, r)) = rw (z, r) as'

module _ {sv : Service} (all : ℕ) (h : List (Event sv)) (lg : Log all h) (i : ℕ) (m : Mind sv) (v : MindInv all h i m) where
  on_join_good : (j : ℕ) (q : Joining) → JoinOk h j q → Good all h i (on_join j q m)
  unfolding on_join
  on_join_good j q w =
      cond_both (is_leader m.agreement.role && join_fits j q (accepted m)) _ _ (Good all h i)
      (λ _. then_keeps all i h lg _ serve (still_good all i h _ (v.0, record { joins = queued; job = v.1.job; turn = v.1.turn; calls = v.1.calls; waits = v.1.waits; last = v.1.last })) (serve_keeps all i)) (λ _. still_good all i h m v)
    where
      queued : (s : ℕ) (a : Joining) → get_or (set m.agreement.joins j (Some q)) s None ≡ Some a → JoinOk h s a
      queued s a e = go (set_is m.agreement.joins j q s a e)
        where
          go : (get_or m.agreement.joins s None ≡ Some a) ⊎ ((s ≡ j) × (a ≡ q)) → JoinOk h s a
          go (inl z) = v.1.joins s a z
          go (inr (z, r)) = rw (z, r) w

  on_promise_good : (j : ℕ) (w : View) (x : ℕ) (p : Proposal sv) → (world all h).Pledge j x (rank w) p → Good all h i (on_promise j w x p m)
  unfolding on_promise
  on_promise_good j w x p pl =
      cond_both (is_candidate m.agreement.role && eqb (rank w) (rank m.agreement.promised)) _ _ (Good all h i)
      (λ e. let a = and_parts _ _ e in then_keeps all i h lg _ elect (still_good all i h _ (reported_inv all h lg i m v j (rank w) x p pl a.0 (eqb-true _ _ a.1), v.1)) (λ k l n u. elect_good all k l i n u)) (λ _. still_good all i h m v)

  on_accepted_good : (j : ℕ) (d : ProposalId) (x : ℕ) → WordInv all h j i (Accepted d x) → Good all h i (on_accepted j d x m)
  unfolding on_accepted
  on_accepted_good j d x w =
      cond_both (leads d.view m) _ _ (Good all h i)
      (λ e. then_keeps all i h lg _ settle (still_good all i h _ (count_inv all h lg i m v j d x w (and_parts _ _ e).0, cond_both (holds d m && names j x (accepted m)) _ _ (QueueInv all h i) (λ _. v.1) (λ _. v.1))) (settle_keeps all i)) (λ _. still_good all i h m v)

  on_propose_good : (j : ℕ) (p : Proposal sv) (c : Bool) → Other all i j → WordInv all h j i (Propose p c) → Good all h i (on_propose j p c m)
  unfolding on_propose
  on_propose_good j p c o w =
      cond_both (leads p.id.view m) _ _ (Good all h i) (λ _. still_good all i h m v)
      (λ _. then_good all i h lg _ (take_or_not j p c) (implied_good all h lg i m v p w.0) (λ k e l n. take_or_not_good all k l i (implied p m).mind n j p c o (ext_word all i h e j i (Propose p c) w)))

  pub hears_good : (j : ℕ) (w : Msg sv) → Other all i j → WordInv all h j i w → Good all h i (hears j w m)
  unfolding hears
  hears_good j (Prepare w) o a = on_prepare_good all h lg i m v j w o a
  hears_good j (Promise w x p) o (f, g, a) = on_promise_good j w x p a
  hears_good j (Propose p c) o a = on_propose_good j p c o a
  hears_good j (Alive d c x) o a = on_alive_good all h lg i m v j d c x o a
  hears_good j (Accepted d x) o a = on_accepted_good j d x a
  hears_good j (Join q) o a = on_join_good j q a
  hears_good j (Forward b) o a = on_forward_good all i j b o.0 h lg a.3 m v
