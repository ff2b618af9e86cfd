-- A history in which each thing had what it needs has the facts of `Facts`.
use Rattle.std.proofs.Common.{◌≡◌, ℕ, zero, suc, ◌/◌, ◌<◌, ◌≤◌, ◌⊎◌, List, [], ◌∷◌, length, sym, refl, ap, ◌∙◌, subst, inl, inr, arith}
use Rattle.std.proofs.lemmas.Bool.{cases_lt}
use Rattle.agreement.specs.Facts.{Quorum, Chosen, at_first, by_votes, Welcome, Origin, is_root, is_next, is_first, Facts}
use Rattle.agreement.specs.declared.Place.{Place}
use Rattle.agreement.specs.Content.{Service, Content, Proposal, Change, copied, by_call, by_join, id_of, view_of, leader_of, inc_of, root, roster, fresh_place, limit, FitProposal}
use Rattle.agreement.specs.Log.{age_in, CallAsked, Base, MakesOk, PledgesOk, Event, votes, pledges, At, world, Ok, Log, goes_on, Step, AllAgree}
use Rattle.agreement.proofs.Heart.{agreement}
use Rattle.agreement.proofs.Seven.{get_seven}
use Rattle.agreement.proofs.Ranks.{rank_first}
use Rattle.agreement.proofs.Age.{age_stays, age_one, pledge_top, vote_top, made_top, at_below}

-- what was stays
module _ {sv : Service} (all : ℕ) (h : List (Event sv)) (e : Event sv) (k : Ok all h e) where
  pub quorum_stays : {A B : ℕ → Type 0} → ((s : ℕ) → A s → B s) → Quorum all A → Quorum all B
  quorum_stays f q = record { who = q.who; most = q.most; each = λ s t. f s (q.each s t) }

  pub made_stays : (p : Proposal sv) → (world all h).Made p → (world all (e ∷ h)).Made p
  made_stays p (inl q) = inl q
  made_stays p (inr (t, a)) = inr (t, inr a)

  pub chosen_stays : (t : ℕ) (p : Proposal sv) → Chosen (world all h) t p → Chosen (world all (e ∷ h)) t p
  chosen_stays t p at_first = at_first
  chosen_stays t p (by_votes m q) = by_votes (made_stays p m) (quorum_stays (λ s v. (v.0, v.1, inr v.2)) q)

  pub welcome_stays : (t s x : ℕ) (p : Proposal sv) → Welcome (world all h) t s x p → Welcome (world all (e ∷ h)) t s x p
  welcome_stays t s x p w = record { by = w.by; chosen = chosen_stays t w.by w.chosen; named = w.named; below = w.below }

  pub asked_stays : (q : Proposal sv) {c : Content sv} (g : Change q.content c) → CallAsked h q g → CallAsked (e ∷ h) q g
  asked_stays q copied a = tt
  asked_stays q (by_call j n o) (lt, t, a) = (lt, t, inr a)
  asked_stays q (by_join j x) a = tt

  pub step_stays : (q p : Proposal sv) → Step h q p → Step (e ∷ h) q p
  step_stays q p f =
      record {
        change = f.change;
        asked = asked_stays q f.change f.asked;
        drawn = λ s. omega (arith, age_stays all h e k s (roster q s) (f.drawn s), f.drawn s);
        younger = λ s. let a = age_stays all h e k s (roster q s) (f.drawn s) in let b = age_stays all h e k s (roster p s) (omega (arith, f.drawn s, f.younger s)) in omega (arith, f.younger s);
        rises = f.rises;
      }

  pub origin_stays : (p : Proposal sv) → Origin (world all h) p → Origin (world all (e ∷ h)) p
  origin_stays p (is_root q) = is_root q
  origin_stays p (is_next q m (t, c) f v i) = is_next q (made_stays q m) (t, chosen_stays t q c) (step_stays q p f) v i
  origin_stays p (is_first m g f v l q) = is_first m (made_stays m g) (step_stays m p f) v l (quorum_stays (λ s a. (a.0, (a.1.0, inr a.1.1), a.2)) q)

module _ {sv : Service} (all : ℕ) where
  -- what a thing in a history had when it was done
  pub origin : (h : List (Event sv)) → Log all h → (p : Proposal sv) → (world all h).Made p → Origin (world all h) p
  origin h l p (inl q) = is_root q
  origin [] l p (inr (t, a)) = absurd a
  origin (e ∷ h) (goes_on l o) p (inr (t, inl (q, n))) = origin_stays all h e o p (subst (Ok all h) (sym n) o).origin
  origin (e ∷ h) (goes_on l o) p (inr (t, inr a)) = origin_stays all h e o p (origin h l p (inr (t, a)))

  pub voter : (h : List (Event sv)) → Log all h → (t s x : ℕ) (c : Proposal sv) → At h t (votes s x c) → Welcome (world all h) t s x c
  voter [] l t s x c a = absurd a
  voter (e ∷ h) (goes_on l o) t s x c (inl (q, n)) = rw q (welcome_stays all h e o (length h) s x c (subst (Ok all h) (sym n) o).welcome)
  voter (e ∷ h) (goes_on l o) t s x c (inr a) = welcome_stays all h e o t s x c (voter h l t s x c a)

  pub vote_made : (h : List (Event sv)) → Log all h → (t s x : ℕ) (c : Proposal sv) → At h t (votes s x c) → (world all h).Made c
  vote_made [] l t s x c a = absurd a
  vote_made (e ∷ h) (goes_on l o) t s x c (inl (q, n)) = made_stays all h e o c (subst (Ok all h) (sym n) o).made
  vote_made (e ∷ h) (goes_on l o) t s x c (inr a) = made_stays all h e o c (vote_made h l t s x c a)

  pub pledger : (h : List (Event sv)) → Log all h → (s x v : ℕ) (p : Proposal sv) → (t : ℕ) × At h t (pledges s x v p) → (t : ℕ) × Welcome (world all h) t s x p
  pledger [] l s x v p (t, a) = absurd a
  pledger (e ∷ h) (goes_on l o) s x v p (t, inl (q, n)) = (length h, welcome_stays all h e o (length h) s x p (subst (Ok all h) (sym n) o).welcome)
  pledger (e ∷ h) (goes_on l o) s x v p (t, inr a) = let k = pledger h l s x v p (t, a) in (k.0, welcome_stays all h e o k.0 s x p k.1)

  pub pledge_made : (h : List (Event sv)) → Log all h → (t s x v : ℕ) (p : Proposal sv) → At h t (pledges s x v p) → (world all h).Made p × (view_of p < v)
  pledge_made [] l t s x v p a = absurd a
  pledge_made (e ∷ h) (goes_on l o) t s x v p (inl (q, n)) = let k : PledgesOk all h s x v p = subst (Ok all h) (sym n) o in (made_stays all h e o p k.made, k.later)
  pledge_made (e ∷ h) (goes_on l o) t s x v p (inr a) = let k = pledge_made h l t s x v p a in (made_stays all h e o p k.0, k.1)

  pub made_fits : 0 < all → (h : List (Event sv)) → Log all h → (p : Proposal sv) → (world all h).Made p → FitProposal all p
  made_fits some h l p (inl q) = rw q (record { view = record { number = omega arith; leader = some; incarnation = omega arith }; seq = omega arith; places = λ s. rw (get_seven {A = Place} (fresh_place 0) s) (record { incarnation = omega arith; no = omega arith }); arrays = (refl, refl) })
  made_fits some [] l p (inr (t, a)) = absurd a
  made_fits some (e ∷ h) (goes_on l o) p (inr (t, inl (q, n))) = (subst (Ok all h) (sym n) o).fits
  made_fits some (e ∷ h) (goes_on l o) p (inr (t, inr a)) = made_fits some h l p (inr (t, a))

  pub made_small : (h : List (Event sv)) → Log all h → (p : Proposal sv) → (world all h).Made p → p.id.seq < limit
  made_small h l p (inl q) = rw q (omega arith)
  made_small [] l p (inr (t, a)) = absurd a
  made_small (e ∷ h) (goes_on l o) p (inr (t, inl (q, n))) = (subst (Ok all h) (sym n) o).fits.seq
  made_small (e ∷ h) (goes_on l o) p (inr (t, inr a)) = made_small h l p (inr (t, a))

  reports : (h : List (Event sv)) → Log all h → (t s x v : ℕ) (c p : Proposal sv) → At h t (votes s x c) → (u : ℕ) × At h u (pledges s x v p) → (v ≤ view_of c) ⊎ (id_of c ≤ id_of p)
  reports [] l t s x v c p a b = absurd a
  reports (e ∷ h) (goes_on l o) t s x v c p (inl (q, n)) (u, inl (q', n')) = absurd (let z : ◌≡◌ {A = ℕ} 0 1 = cc in omega arith)
  reports (e ∷ h) (goes_on l o) t s x v c p (inl (q, n)) (u, inr b) = inl (omega (arith, (subst (Ok all h) (sym n) o).not_below, pledge_top h u s x v p b))
  reports (e ∷ h) (goes_on l o) t s x v c p (inr a) (u, inl (q', n')) = inr (omega (arith, (subst (Ok all h) (sym n') o).reports, vote_top h t s x c a))
  reports (e ∷ h) (goes_on l o) t s x v c p (inr a) (u, inr b) = reports h l t s x v c p a (u, b)

  -- a proposal that is made now has an id that no other has
  fresh : (h : List (Event sv)) (p q : Proposal sv) → MakesOk all h p → (world all h).Made q → id_of q ≡ id_of p → ⊥
  fresh h p q k (inl a) e = let z = k.not_root in let r = rank_first in omega (arith, ap (λ (q : Proposal sv). id_of q) a)
  fresh h p q k (inr (t, a)) e = let n = k.new in let u = made_top h t (leader_of (view_of p)) (inc_of (view_of p)) q (ap (λ i. leader_of (i / 18446744073709551616)) e) (ap (λ i. inc_of (i / 18446744073709551616)) e) a in omega arith

  pub once : (h : List (Event sv)) → Log all h → (p q : Proposal sv) → (world all h).Made p → (world all h).Made q → id_of p ≡ id_of q → p ≡ q
  once h l p q (inl a) (inl b) e = cc
  once [] l p q (inl a) (inr (t, b)) e = absurd b
  once [] l p q (inr (t, b)) b' e = absurd b
  once (x ∷ h) (goes_on l o) p q (inl a) (inr (t, inl (_, n))) e = absurd (fresh h q p (subst (Ok all h) (sym n) o) (inl a) e)
  once (x ∷ h) (goes_on l o) p q (inl a) (inr (t, inr b)) e = once h l p q (inl a) (inr (t, b)) e
  once (x ∷ h) (goes_on l o) p q (inr (t, inl (_, n))) (inl b) e = absurd (fresh h p q (subst (Ok all h) (sym n) o) (inl b) (sym e))
  once (x ∷ h) (goes_on l o) p q (inr (t, inr a)) (inl b) e = once h l p q (inr (t, a)) (inl b) e
  once (x ∷ h) (goes_on l o) p q (inr (t, inl (_, n))) (inr (u, inl (_, m))) e = cc
  once (x ∷ h) (goes_on l o) p q (inr (t, inl (_, n))) (inr (u, inr b)) e = absurd (fresh h p q (subst (Ok all h) (sym n) o) (inr (u, b)) (sym e))
  once (x ∷ h) (goes_on l o) p q (inr (t, inr a)) (inr (u, inl (_, m))) e = absurd (fresh h q p (subst (Ok all h) (sym m) o) (inr (t, a)) e)
  once (x ∷ h) (goes_on l o) p q (inr (t, inr a)) (inr (u, inr b)) e = once h l p q (inr (t, a)) (inr (u, b)) e

  pub zero_drawn : (h : List (Event sv)) → Log all h → (s : ℕ) → 0 < age_in h s 0
  zero_drawn [] l s = omega arith
  zero_drawn (e ∷ h) (goes_on l o) s = omega (arith, age_stays all h e o s 0 (zero_drawn h l s), zero_drawn h l s)

  pub drawn : (h : List (Event sv)) → Log all h → (p : Proposal sv) → (world all h).Made p → (s : ℕ) → 0 < age_in h s (roster p s)
  drawn h l p (inl q) s = rw (q, get_seven {A = Place} (fresh_place 0) s) (zero_drawn h l s)
  drawn [] l p (inr (t, a)) s = absurd a
  drawn (e ∷ h) (goes_on l o) p (inr (t, inl (q, n))) s = let d = (subst (Ok all h) (sym n) o).drawn s in omega (arith, age_stays all h e o s (roster p s) d)
  drawn (e ∷ h) (goes_on l o) p (inr (t, inr a)) s = let d = drawn h l p (inr (t, a)) s in omega (arith, age_stays all h e o s (roster p s) d)

  apart : (h : List (Event sv)) → Log all h → (q p : Proposal sv) → (world all h).Made q → (world all h).Made p → (s : ℕ) → age_in h s (roster q s) ≡ age_in h s (roster p s) → roster q s ≡ roster p s
  apart h l q p a b s e = age_one h s (roster q s) (roster p s) (drawn h l q a s) e

  pub facts : (h : List (Event sv)) → Log all h → Facts (world all h)
  facts h l =
      record {
        root_made = inl refl;
        root_least = λ p. omega (arith, rank_first);
        view_up = λ p q le. omega arith;
        once = once h l;
        origin = origin h l;
        older = λ q p st s. st.younger s;
        apart = apart h l;
        reports = reports h l;
        voter = voter h l;
        pledger = pledger h l;
      }

  -- what was chosen is chosen by now
  pub by_now : (h : List (Event sv)) {t : ℕ} {p : Proposal sv} → Chosen (world all h) t p → Chosen (world all h) (length h) p
  by_now h at_first = at_first
  by_now h (by_votes m q) = by_votes m (record { who = q.who; most = q.most; each = λ s e. let v = q.each s e in (v.0, at_below h v.0 _ v.2, v.2) })

  -- one at a time: whatever is followed by another of its view was chosen
  earlier : (n : ℕ) (h : List (Event sv)) → Log all h → (q p : Proposal sv) → (world all h).Made q → (world all h).Made p → id_of p ≤ n → view_of q ≡ view_of p → id_of q < id_of p → Chosen (world all h) (length h) q
  earlier zero h l q p a b le v lt = absurd (omega arith)
  earlier (suc n) h l q p a b le v lt = go (λ r. earlier n h l q r a) (origin h l p b)
    where
      go : ((r : Proposal sv) → (world all h).Made r → id_of r ≤ n → view_of q ≡ view_of r → id_of q < id_of r → Chosen (world all h) (length h) q) → Origin (world all h) p → Chosen (world all h) (length h) q
      go ih (is_root e) = absurd (omega (arith, rank_first, ap (λ (q : Proposal sv). id_of q) e))
      go ih (is_first m g f mv low z) = absurd (omega (arith, low q lt))
      go ih (is_next r g (t, c) f rv i) = on (cases_lt (id_of q) (id_of r))
        where
          on : (id_of q < id_of r) ⊎ (id_of r ≤ id_of q) → Chosen (world all h) (length h) q
          on (inl o) = ih r g (omega arith) (v ∙ sym rv) o
          on (inr o) = rw (once h l q r a g (omega arith)) (by_now h c)

  pub passed : (h : List (Event sv)) → Log all h → (q p : Proposal sv) → (world all h).Made q → (world all h).Made p → view_of q ≡ view_of p → id_of q < id_of p → Chosen (world all h) (length h) q
  passed h l q p a b v lt = earlier (id_of p) h l q p a b (omega arith) v lt

  -- at most one job beyond what is chosen
  base_stays : (h : List (Event sv)) (e : Event sv) → Ok all h e → (p : Proposal sv) → Base all h p → Base all (e ∷ h) p
  base_stays h e k p (q, c, d) = (q, by_now (e ∷ h) (chosen_stays all h e k (length h) q c), d)

  pub base_of : (h : List (Event sv)) → Log all h → (p : Proposal sv) → (world all h).Made p → Base all h p
  base_of h l p (inl q) = rw q (root sv, at_first, copied)
  base_of [] l p (inr (t, a)) = absurd a
  base_of (e ∷ h) (goes_on l o) p (inr (t, inl (q, n))) = base_stays h e o p (subst (Ok all h) (sym n) o).base
  base_of (e ∷ h) (goes_on l o) p (inr (t, inr a)) = base_stays h e o p (base_of h l p (inr (t, a)))

pub all_agree : (sv : Service) → AllAgree sv
all_agree sv all h l = agreement (world all h) (facts all h l)
