-- The ways in which a mind changes keep the invariant: each adds to the history what the replica did (a promise, a vote, a proposal with its own vote, or nothing), and shows that it was allowed.
use Rattle.std.proofs.Common.{◌≡◌, ℕ, suc, ◌<◌, ◌≤◌, Bool, true, false, ◌&&◌, eqb, ◌⊎◌, List, ◌∷◌, length, get_or, set, Some, None, Option, sym, refl, ap, ◌∙◌, subst, inl, inr, ⊎_elim, arith}
use Rattle.std.proofs.lemmas.Option.{none-some, same_Some}
use Rattle.std.proofs.lemmas.Bool.Decides.{nat_tests}
use Rattle.std.proofs.lemmas.Bool.{cond_both, and_parts, or_cases, ltb-true, eqb-true, not-true, true≢false, false≢true}
use Rattle.agreement.specs.declared.View.{View}
use Rattle.agreement.specs.declared.Role.{Role}
use Rattle.agreement.specs.declared.Role.TheVariants.{Recovering, Follower, Candidate, Leader}
use Rattle.agreement.specs.declared.Agreement.{Agreement}
use Rattle.agreement.specs.Facts.{Chosen, by_votes}
use Rattle.agreement.specs.Content.{Service, Proposal, limit, rank, id_of, view_of, leader_of, inc_of, seven, roster, FitView, FitProposal}
use Rattle.agreement.specs.Log.{Event, makes, votes, pledges, At, age_in, top, made_of, world, Ok, MakesOk, VotesOk, Log}
use Rattle.agreement.specs.Machine.{is_member, is_candidate, is_leader, Mind, accepted, own_vote, is_vote, counts, quorum, promising, standing, is_higher, higher, reported, making, learned, holding, keeping, entering, without_jobs, own_view, proposes, tell_all, answer}
use Rattle.agreement.proofs.Age.{at_below}
use Rattle.agreement.proofs.Ranks.{rank_leader, rank_incarnation, rank_above}
use Rattle.agreement.proofs.History.{made_stays, once, pledge_made, made_small, made_fits}
use Rattle.agreement.proofs.Seven.{get_seven, get_set}
use Rattle.agreement.proofs.Inv.{Candid, Member, Outsider, Self, VoterInv, QueueInv, MindInv, answered_up, chosen_now, answered_now, welcome_now}
use Rattle.agreement.proofs.Moves.{Ext, same, more, Good, ext_queue, then_keeps, tell_all_keeps, answer_keeps}

-- votes that were got
pub vote_is : (o : Option ℕ) (r : ℕ) → is_vote o r ≡ true → o ≡ Some r
vote_is None r e = absurd (false≢true e)
vote_is (Some y) r e = ap Some (eqb-true y r e)

pub set_is : {A : Type 0} (vs : List (Option A)) (j : ℕ) (y : A) (s : ℕ) (x : A) → get_or (set vs j (Some y)) s None ≡ Some x → (get_or vs s None ≡ Some x) ⊎ ((s ≡ j) × (x ≡ y))
set_is vs j y s x e = ⊎_elim (λ q. inl (sym q ∙ e)) (λ q. inr (q.0, same_Some _ _ (sym e ∙ q.1))) (get_set vs j (Some y) None s)

pub cleared_is : {A : Type 0} (vs : List (Option A)) (j s : ℕ) (x : A) → get_or (set vs j None) s None ≡ Some x → get_or vs s None ≡ Some x
cleared_is vs j s x e = ⊎_elim (λ q. sym q ∙ e) (λ q. absurd (none-some _ (sym q.1 ∙ e))) (get_set vs j None None s)

own_is : (a : Agreement) (s x : ℕ) → get_or (own_vote a) s None ≡ Some x → (s ≡ a.me) × (x ≡ a.incarnation)
own_is a s x e = ⊎_elim (λ q. absurd (none-some _ (sym (get_seven None s) ∙ q))) (λ q. q) (set_is (seven None) a.me a.incarnation s x e)

pub leader_member : (r : Role) → is_leader r ≡ true → is_member r ≡ true
leader_member Recovering e = absurd (false≢true e)
leader_member Follower e = refl
leader_member Candidate e = refl
leader_member Leader e = refl

pub candidate_member : (r : Role) → is_candidate r ≡ true → is_member r ≡ true
candidate_member Recovering e = absurd (false≢true e)
candidate_member Follower e = refl
candidate_member Candidate e = refl
candidate_member Leader e = refl

module _ {sv : Service} (all i : ℕ) where
  -- nothing is queued
  pub no_jobs : (h : List (Event sv)) (m : Mind sv) → QueueInv all h i m → QueueInv all h i (without_jobs m)
  no_jobs h m v = record { joins = λ j q e. absurd (none-some _ (sym (get_seven None j) ∙ e)); calls = λ j a e. absurd (none-some _ (sym (get_seven None j) ∙ e)); job = v.job; turn = v.turn; waits = v.waits; last = v.last }

  pub self_move : (h k : List (Event sv)) (j n x : ℕ) → ((s y : ℕ) → age_in k s y ≡ age_in h s y) → Self all h i j n x → Self all k i j n x
  self_move h k j n x a v = record { me = v.me; all' = v.all'; here = v.here; few = v.few; fits = v.fits; drawn = omega (arith, a i x, v.drawn); latest = λ y. omega (arith, a i x, a i y, v.latest y) }

  -- by the votes that a leader got
  pub chosen_is : (h : List (Event sv)) (n : ℕ) (vs : List (Option ℕ)) (p : Proposal sv) → n ≡ all → (world all h).Made p → ((s y : ℕ) → get_or vs s None ≡ Some y → (t : ℕ) × At h t (votes s y p)) → quorum n p.content.places vs ≡ true → Chosen (world all h) (length h) p
  chosen_is h n vs p en made acked e =
      by_votes made (record { who = counts vs p.content.places; most = rw (← en) (ltb-true _ _ e); each = λ s t. let k = acked s (roster p s) (vote_is (get_or vs s None) (roster p s) t) in (k.0, at_below h k.0 _ k.1, k.1) })

-- what one does oneself: a pledge, a vote, and a proposal with one's own vote
module _ {sv : Service} (all : ℕ) (h : List (Event sv)) (i x v : ℕ) (p : Proposal sv) (made : (world all h).Made p) (u : Member all h i x v p) where
  pledge_ok : (w : ℕ) → view_of p < w → Ok all h (pledges i x w p)
  pledge_ok w lt = record { made = made; welcome = u.welcome; reports = u.voted; later = lt }

  pledged : (w : ℕ) → v ≤ w → view_of p < w → Member all (pledges i x w p ∷ h) i x w p
  pledged w le lt =
      record {
        welcome = welcome_now all h _ (pledge_ok w lt) i x p u.welcome;
        view = omega arith;
        pledged = let a = u.pledged in grind (arith, nat_tests);
        voted = omega (arith, u.voted);
        mine = omega (arith, u.mine);
      }

  vote_ok : (q : Proposal sv) → (world all h).Made q → v ≤ view_of q → id_of p ≤ id_of q → Ok all h (votes i x q)
  vote_ok q made' le up =
      record { made = made'; welcome = record { by = u.welcome.by; chosen = u.welcome.chosen; named = u.welcome.named; below = omega (arith, u.welcome.below) }; not_below = omega (arith, u.pledged) }

  voted : (q : Proposal sv) → (m' : (world all h).Made q) → view_of q ≡ rank q.id.view → (le : v ≤ view_of q) → (up : id_of p ≤ id_of q) → Member all (votes i x q ∷ h) i x (rank q.id.view) q
  voted q made' qv le up =
      record {
        welcome = welcome_now all h _ ok i x q ok.welcome;
        view = omega arith;
        pledged = omega (arith, u.pledged);
        voted = let a = u.voted in grind (arith, nat_tests);
        mine = omega (arith, u.mine);
      }
    where
      ok : VotesOk all h i x q
      ok = vote_ok q made' le up

  midway : (q : Proposal sv) (ok : MakesOk all h q) → view_of q ≡ v → Member all (makes q ∷ h) i x v p
  midway q ok qv =
      record {
        welcome = welcome_now all h (makes q) ok i x p u.welcome;
        view = u.view;
        pledged = omega (arith, u.pledged);
        voted = omega (arith, u.voted);
        mine = let a = u.mine in let b = ok.fits.seq in grind (arith, nat_tests);
      }

-- one that did nothing so far is a member by a chosen proposal that names it
pub first_welcome : {sv : Service} (all : ℕ) (h : List (Event sv)) (i x : ℕ) (p : Proposal sv) → Outsider h i x → Chosen (world all h) (length h) p → roster p i ≡ x → view_of p ≡ rank p.id.view → Member all h i x (rank p.id.view) p
first_welcome all h i x p o c n pv =
    record { welcome = record { by = p; chosen = c; named = n; below = omega arith }; view = omega arith; pledged = omega (arith, o.pledged); voted = omega (arith, o.voted); mine = omega (arith, o.mine) }

module _ {sv : Service} (all : ℕ) (h : List (Event sv)) (lg : Log all h) (i : ℕ) (m : Mind sv) (v : MindInv all h i m) where
  abbrev IsMember : Type 0
  IsMember = Member all h i m.agreement.incarnation (rank m.agreement.promised) (accepted m)

  -- the view of a proposal that was made can be read off its id
  pub made_view : (p : Proposal sv) → (world all h).Made p → view_of p ≡ rank p.id.view
  made_view p made = omega (arith, made_small all h lg p made)

  pub fits_all : (p : Proposal sv) → (world all h).Made p → FitProposal all p
  fits_all p made = made_fits all (omega (arith, v.0.who.here)) h lg p made

  -- 6. accepted is chosen
  pub learned_inv : Chosen (world all h) (length h) (accepted m) → VoterInv all h i (learned m)
  learned_inv c = record { who = v.0.who; fits = v.0.fits; made = v.0.made; known = λ _. c; inside = v.0.inside; outside = v.0.outside; stands = v.0.stands; leads = v.0.leads; answered = v.0.answered }

  -- 1. it promised w
  module _ (u : IsMember) (w : View) (fw : FitView all w) (le : rank m.agreement.promised ≤ rank w) (lt : view_of (accepted m) < rank w) where
    pub promised_ok : Ok all h (pledges i m.agreement.incarnation (rank w) (accepted m))
    promised_ok = pledge_ok all h i m.agreement.incarnation (rank m.agreement.promised) (accepted m) v.0.made u (rank w) lt

    abbrev pub promised_to : List (Event sv)
    promised_to = pledges i m.agreement.incarnation (rank w) (accepted m) ∷ h

    pub promising_inv : VoterInv all promised_to i (promising w m)
    promising_inv =
        record {
          who = self_move all i h promised_to _ _ _ (λ s x. refl) v.0.who;
          fits = fw;
          made = made_stays all h _ promised_ok _ v.0.made;
          known = λ t. chosen_now all h _ promised_ok _ (v.0.known t);
          inside = λ _. pledged all h i _ _ _ v.0.made u (rank w) le lt;
          outside = λ e. absurd (true≢false e);
          stands = λ e. absurd (false≢true e);
          leads = λ e. absurd (false≢true e);
          answered = answered_now all h _ promised_ok i m.agreement.incarnation m.agreement.no (accepted m) v.0.answered;
        }

  -- 2. it stands
  module _ (u : IsMember) (nf : suc m.agreement.promised.number < limit) where
    pub own_fits : FitView all (own_view m.agreement)
    own_fits = record { number = nf; leader = omega (arith, v.0.who.me, v.0.who.here); incarnation = v.0.who.fits }

    pub own_le : rank m.agreement.promised ≤ rank (own_view m.agreement)
    own_le = omega (arith, rank_above all m.agreement.me m.agreement.incarnation m.agreement.promised v.0.who.few v.0.fits)

    pub own_lt : view_of (accepted m) < rank (own_view m.agreement)
    own_lt = omega (arith, u.view, rank_above all m.agreement.me m.agreement.incarnation m.agreement.promised v.0.who.few v.0.fits)

    pub standing_inv : VoterInv all (pledges i m.agreement.incarnation (rank (own_view m.agreement)) (accepted m) ∷ h) i (standing (own_view m.agreement) m)
    standing_inv =
        record {
          who = self_move all i h _ _ _ _ (λ s x. refl) v.0.who;
          fits = own_fits;
          made = made_stays all h _ ok _ v.0.made;
          known = λ t. chosen_now all h _ ok _ (v.0.known t);
          inside = λ _. pledged all h i _ _ _ v.0.made u (rank (own_view m.agreement)) own_le own_lt;
          outside = λ e. absurd (true≢false e);
          stands = λ _. record {
            leader = rank_leader _ m.agreement.me m.agreement.incarnation (omega (arith, v.0.who.me, v.0.who.here, v.0.who.few)) v.0.who.fits ∙ v.0.who.me;
            inc = rank_incarnation _ m.agreement.me m.agreement.incarnation v.0.who.fits;
            none = omega (arith, u.mine, above);
            before = own_lt;
            got = got;
          };
          leads = λ e. absurd (false≢true e);
          answered = answered_now all h _ ok i m.agreement.incarnation m.agreement.no (accepted m) v.0.answered;
        }
      where
        ok : Ok all h (pledges i m.agreement.incarnation (rank (own_view m.agreement)) (accepted m))
        ok = promised_ok u (own_view m.agreement) own_fits own_le own_lt

        above : rank m.agreement.promised < rank (own_view m.agreement)
        above = rank_above all m.agreement.me m.agreement.incarnation m.agreement.promised v.0.who.few v.0.fits

        got : (s y : ℕ) → get_or (own_vote m.agreement) s None ≡ Some y →
            (r : Proposal sv) × (world all (pledges i m.agreement.incarnation (rank (own_view m.agreement)) (accepted m) ∷ h)).Pledge s y (rank (own_view m.agreement)) r × (id_of r ≤ id_of (accepted m))
        got s y e = let o = own_is m.agreement s y e in let q = o.0 in let r = o.1 in (accepted m, (length h, inl (refl, cc v.0.who.me)), omega arith)

  -- 4. it makes p in its own view, and votes for it
  pub making_good : IsMember → (p : Proposal sv) (ok : MakesOk all h p) → view_of p ≡ rank p.id.view → rank p.id.view ≡ rank m.agreement.promised → leader_of (rank p.id.view) ≡ i → inc_of (rank p.id.view) ≡ m.agreement.incarnation →
      top (made_of i m.agreement.incarnation) h ≤ id_of p → id_of (accepted m) ≤ id_of p → Good all h i (proposes p m)
  making_good u p ok pv now own inc' new up =
      then_keeps all i h lg _ answer (then_keeps all i h lg _ tell_all (record { then = k2; ext = ext; mind = (inv, ext_queue all i h ext m v.1); words = tt }) (tell_all_keeps all i)) (answer_keeps all i)
    where
      mid : Member all (makes p ∷ h) i m.agreement.incarnation (rank m.agreement.promised) (accepted m)
      mid = midway all h i _ _ _ v.0.made u p ok (pv ∙ now)

      old : (world all (makes p ∷ h)).Made (accepted m)
      old = made_stays all h (makes p) ok _ v.0.made

      is_made : (world all (makes p ∷ h)).Made p
      is_made = inr (length h, inl (refl, refl))

      vok : Ok all (makes p ∷ h) (votes i m.agreement.incarnation p)
      vok = vote_ok all (makes p ∷ h) i _ _ _ old mid p is_made (omega arith) up

      k2 : List (Event sv)
      k2 = votes i m.agreement.incarnation p ∷ makes p ∷ h

      ext : Ext all i h (votes i m.agreement.incarnation p ∷ makes p ∷ h)
      ext = more (more same ok (ap leader_of pv ∙ own) tt) vok refl tt

      acked : (s y : ℕ) → get_or (own_vote m.agreement) s None ≡ Some y → (t : ℕ) × At (votes i m.agreement.incarnation p ∷ makes p ∷ h) t (votes s y p)
      acked s y e = let o = own_is m.agreement s y e in let q = o.0 in let r = o.1 in (suc (length h), inl (refl, cc v.0.who.me))

      made_now : (world all (votes i m.agreement.incarnation p ∷ makes p ∷ h)).Made p
      made_now = made_stays all (makes p ∷ h) _ vok p is_made

      inv : VoterInv all (votes i m.agreement.incarnation p ∷ makes p ∷ h) i (making p m)
      inv =
          record {
            who = self_move all i h _ _ _ _ (λ s x. refl) v.0.who;
            fits = v.0.fits;
            made = made_now;
            known = λ t. chosen_is all i _ m.agreement.all (own_vote m.agreement) p v.0.who.all' made_now acked t;
            inside = λ _. subst (λ (z : ℕ). Member all (votes i m.agreement.incarnation p ∷ makes p ∷ h) i m.agreement.incarnation z p) now (voted all (makes p ∷ h) i _ _ _ old mid p is_made pv (omega arith) up);
            outside = λ e. absurd (true≢false e);
            stands = λ e. absurd (false≢true e);
            leads = λ _. record { leader = rw now at own; inc = rw now at inc'; now = now; last = grind (arith, nat_tests); acked = acked };
            answered = answered_now all (makes p ∷ h) _ vok i m.agreement.incarnation m.agreement.no p (answered_now all h (makes p) ok i m.agreement.incarnation m.agreement.no p (answered_up p v.0.answered up));
          }

  -- 3. a promise comes
  higher_made : (p : Proposal sv) → (world all h).Made p → (world all h).Made (higher p m)
  higher_made p y = cond_both (is_higher p m) p (accepted m) (world all h).Made (λ _. y) (λ _. v.0.made)

  pub reported_inv : (j w x : ℕ) (p : Proposal sv) → (world all h).Pledge j x w p → is_candidate m.agreement.role ≡ true → w ≡ rank m.agreement.promised → VoterInv all h i (reported j x p m)
  reported_inv j w x p pl e ew =
      record {
        who = v.0.who;
        fits = v.0.fits;
        made = higher_made p k'.0;
        known = λ t. let b = and_parts _ _ t in known' (not-true _ b.0) b.1;
        inside = λ _. record { welcome = record { by = u.welcome.by; chosen = u.welcome.chosen; named = u.welcome.named; below = omega (arith, u.welcome.below, up) }; view = omega (arith, bef); pledged = u.pledged; voted = omega (arith, u.voted, up); mine = u.mine };
        outside = λ e. absurd (true≢false e);
        stands = λ _. record { leader = c.leader; inc = c.inc; none = c.none; before = bef; got = got };
        leads = λ e. absurd (false≢true e);
        answered = answered_up (higher p m) v.0.answered up;
      }
    where
      c : Candid all h i m.agreement.incarnation (rank m.agreement.promised) (accepted m) m.agreement.votes
      c = v.0.stands e

      u : IsMember
      u = v.0.inside (candidate_member m.agreement.role e)

      k' : (world all h).Made p × (view_of p < w)
      k' = pledge_made all h lg pl.0 j x w p pl.1

      up : id_of (accepted m) ≤ id_of (higher p m)
      up = grind (arith, nat_tests)

      up' : id_of p ≤ id_of (higher p m)
      up' = grind (arith, nat_tests)

      bef : view_of (higher p m) < rank m.agreement.promised
      bef = let b = c.before in let a = k'.1 in grind (arith, nat_tests)

      known' : is_higher p m ≡ false → m.agreement.chosen ≡ true → Chosen (world all h) (length h) (higher p m)
      known' f t = rw f (v.0.known t)

      got : (s y : ℕ) → get_or (set m.agreement.votes j (Some x)) s None ≡ Some y → (r : Proposal sv) × (world all h).Pledge s y (rank m.agreement.promised) r × (id_of r ≤ id_of (higher p m))
      got s y t = go (set_is m.agreement.votes j x s y t)
        where
          go : (get_or m.agreement.votes s None ≡ Some y) ⊎ ((s ≡ j) × (y ≡ x)) → (r : Proposal sv) × (world all h).Pledge s y (rank m.agreement.promised) r × (id_of r ≤ id_of (higher p m))
          go (inl q) = let g = c.got s y q in (g.0, g.1, omega (arith, g.2, up))
          go (inr (q, r)) = let z : ◌≡◌ {A = Event sv} (pledges j x w p) (pledges s y (rank m.agreement.promised) p) = cc in (p, (pl.0, subst (At h pl.0) z pl.1), up')

  -- 7. it holds p, which was made, and votes for it
  module _ (p : Proposal sv) (c : Bool) (made : (world all h).Made p) (ch : c ≡ true → Chosen (world all h) (length h) p) where
    known_is : (c ≡ true) ⊎ ((eqb (id_of p) (id_of (accepted m)) && m.agreement.chosen) ≡ true) → Chosen (world all h) (length h) p
    known_is (inl t) = ch t
    known_is (inr t) = let b = and_parts (eqb (id_of p) (id_of (accepted m))) m.agreement.chosen t in rw (once all h lg p (accepted m) made v.0.made (eqb-true _ _ b.0)) (v.0.known b.1)

    pub holding_inv : id_of (accepted m) ≤ id_of p → (vok : Ok all h (votes i m.agreement.incarnation p)) → Member all (votes i m.agreement.incarnation p ∷ h) i m.agreement.incarnation (rank p.id.view) p → VoterInv all (votes i m.agreement.incarnation p ∷ h) i (holding p c m)
    holding_inv up vok u =
        record {
          who = self_move all i h _ _ _ _ (λ s x. refl) v.0.who;
          fits = (fits_all p made).view;
          made = made_stays all h _ vok p made;
          known = λ t. chosen_now all h _ vok p (known_is (or_cases _ _ t));
          inside = λ _. u;
          outside = λ e. absurd (true≢false e);
          stands = λ e. absurd (false≢true e);
          leads = λ e. absurd (false≢true e);
          answered = answered_now all h _ vok i m.agreement.incarnation m.agreement.no p (answered_up p v.0.answered up);
        }

    -- as a member
    module _ (u : IsMember) (le : rank m.agreement.promised ≤ rank p.id.view) (up : id_of (accepted m) ≤ id_of p) where
      pub member_votes : Ok all h (votes i m.agreement.incarnation p)
      member_votes = vote_ok all h i _ _ _ v.0.made u p made (omega (arith, made_view p made)) up

      pub member_holds : VoterInv all (votes i m.agreement.incarnation p ∷ h) i (holding p c m)
      member_holds = holding_inv up member_votes (voted all h i _ _ _ v.0.made u p made (made_view p made) (omega (arith, made_view p made)) up)

    -- as one that recovers, by a chosen one that names it
    module _ (o : is_member m.agreement.role ≡ false) (ck : Chosen (world all h) (length h) p) (n : roster p i ≡ m.agreement.incarnation) where
      welcomed : Member all h i m.agreement.incarnation (rank p.id.view) p
      welcomed = first_welcome all h i m.agreement.incarnation p (v.0.outside o) ck n (made_view p made)

      pub welcome_votes : Ok all h (votes i m.agreement.incarnation p)
      welcome_votes = vote_ok all h i _ _ _ made welcomed p made (omega (arith, made_view p made)) (omega arith)

      pub welcome_holds : id_of (accepted m) ≤ id_of p → VoterInv all (votes i m.agreement.incarnation p ∷ h) i (holding p c m)
      welcome_holds up = holding_inv up welcome_votes (voted all h i _ _ _ made welcomed p made (made_view p made) (omega (arith, made_view p made)) (omega arith))

  -- 8. one that recovers keeps p
  pub keeping_inv : (p : Proposal sv) → (world all h).Made p → is_member m.agreement.role ≡ false → id_of (accepted m) ≤ id_of p → VoterInv all h i (keeping p m)
  keeping_inv p made o up =
      record { who = v.0.who; fits = v.0.fits; made = made; known = λ e. absurd (false≢true e); inside = λ e. absurd (false≢true e); outside = λ _. v.0.outside o; stands = λ e. absurd (false≢true e); leads = λ e. absurd (false≢true e); answered = answered_up p v.0.answered up }

  -- 9. and is a member by what it holds
  pub entering_inv : is_member m.agreement.role ≡ false → Chosen (world all h) (length h) (accepted m) → roster (accepted m) i ≡ m.agreement.incarnation → VoterInv all h i (entering m)
  entering_inv o c n =
      record {
        who = v.0.who;
        fits = (fits_all (accepted m) v.0.made).view;
        made = v.0.made;
        known = λ _. c;
        inside = λ _. first_welcome all h i m.agreement.incarnation (accepted m) (v.0.outside o) c n (made_view (accepted m) v.0.made);
        outside = λ e. absurd (true≢false e);
        stands = λ e. absurd (false≢true e);
        leads = λ e. absurd (false≢true e);
        answered = v.0.answered;
      }
