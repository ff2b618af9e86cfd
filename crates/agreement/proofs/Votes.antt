-- A VOTE: a follower that is offered a proposal of its view, not below what it holds, holds it and says so to the leader, whatever else it does (it may answer a call of its own first).
use Rattle.std.proofs.Common.{◌≡◌, ℕ, suc, ◌≤◌, true, false, cond, List, [], ◌∷◌, Some, None, Option, sym, refl, ap, ◌∙◌, subst, arith}
use mathlib.Core.List.Memᴰ
use mathlib.Core.List.{Memᴰ}
use Rattle.std.proofs.lemmas.Bool.{cond_both, cond-true, cond-false, le-ltb, le-leb, and_left}
use Rattle.runs.specs.Replicas.{Said, Says}
use Rattle.agreement.specs.declared.Role.{Role}
use Rattle.agreement.specs.declared.Role.TheVariants.{Follower}
use Rattle.agreement.specs.Content.{Service, Proposal, rank, id_of}
use Rattle.agreement.specs.Machine.{Propose, Accepted, Waiting, Mind, accepted, is_member, is_leader, is_named, Turn, still, says, then_do, forward, may_answer, reply_to, hands, answer_head, answer, learn, learned, with_waiting, enter, same_view, takes_up, hold, follows, implied, is_late, may_hold, catch_up, hold_or_not, offered, take_or_not, leads, on_propose, hears, turn}
use Rattle.agreement.proofs.Carried.{forward_head_mind}

-- n is the mind m but for what it knows to be chosen and its own calls
pub record Akin {sv : Service} (m n : Mind sv) : Type 0 where
  pub me : n.agreement.me ≡ m.agreement.me
  pub all : n.agreement.all ≡ m.agreement.all
  pub incarnation : n.agreement.incarnation ≡ m.agreement.incarnation
  pub role : n.agreement.role ≡ m.agreement.role
  pub promised : n.agreement.promised ≡ m.agreement.promised
  pub holds : accepted n ≡ accepted m

module _ {sv : Service} where
  pub akin_self : (m : Mind sv) → Akin m m
  akin_self m = record { me = refl; all = refl; incarnation = refl; role = refl; promised = refl; holds = refl }

  pub forward_akin : (m : Mind sv) → Akin m (forward m).mind
  forward_akin m = subst (Akin m) (sym (forward_head_mind m.waiting m)) (akin_self m)

  pub akin_trans : {m n o : Mind sv} → Akin m n → Akin n o → Akin m o
  akin_trans a b = record { me = b.me ∙ a.me; all = b.all ∙ a.all; incarnation = b.incarnation ∙ a.incarnation; role = b.role ∙ a.role; promised = b.promised ∙ a.promised; holds = b.holds ∙ a.holds }

  hands_akin : (n : ℕ) (ts : List (Waiting sv)) (o : Option sv.R) (m : Mind sv) → Akin m (hands n ts o m).mind
  unfolding hands then_do
  hands_akin n ts None m = akin_self m
  hands_akin n ts (Some r) m = akin_trans (record { me = refl; all = refl; incarnation = refl; role = refl; promised = refl; holds = refl }) (forward_akin (with_waiting ts (suc m.agreement.no) m))

  answer_head_akin : (ts : List (Waiting sv)) (m : Mind sv) → Akin m (answer_head ts m).mind
  unfolding answer_head
  answer_head_akin [] m = akin_self m
  answer_head_akin (t ∷ ts) m = cond_both (may_answer m) _ _ (λ (x : Turn sv). Akin m x.mind) (λ _. hands_akin t.number ts (reply_to t.call m) m) (λ _. akin_self m)

  pub answer_akin : (m : Mind sv) → Akin m (answer m).mind
  answer_akin m = answer_head_akin m.waiting m

  learn_akin : (m : Mind sv) → Akin m (learn m).mind
  unfolding then_do
  learn_akin m = akin_trans (record { me = refl; all = refl; incarnation = refl; role = refl; promised = refl; holds = refl }) (answer_akin (learned m))

  implied_akin : (p : Proposal sv) (m : Mind sv) → is_member m.agreement.role ≡ true → Akin m (implied p m).mind
  unfolding implied
  implied_akin p m e = cond_both (follows p m) _ _ (λ (x : Turn sv). Akin m x.mind) (λ _. rw (cond-true (is_member m.agreement.role) (learn m) (cond (is_named (accepted m) m) (enter m) (still m)) e) (learn_akin m)) (λ _. akin_self m)

-- after the turn x of a replica that was offered p by the replica i, as the incarnation y
pub record Voted {sv : Service} (i : ℕ) (p : Proposal sv) (y : ℕ) (x : Turn sv) : Type 0 where
  pub role : x.mind.agreement.role ≡ Follower
  pub promised : x.mind.agreement.promised ≡ p.id.view
  pub holds : accepted x.mind ≡ p
  pub said : Memᴰ (Says i (Accepted p.id y)) x.does

module _ {sv : Service} (i : ℕ) (p : Proposal sv) where
  -- who forwards a call, or not, and then answers one, or not
  goes_on_akin : (f : Mind sv → Turn sv) → ((n : Mind sv) → Akin n (f n).mind) → (x : Turn sv) (y : ℕ) → Voted i p y x → Voted i p y (then_do x f)
  unfolding then_do
  goes_on_akin f a x y v = let k = a x.mind in record { role = k.role ∙ v.role; promised = k.promised ∙ v.promised; holds = k.holds ∙ v.holds; said = Memᴰ.append_left (f x.mind).does v.said }

  hold_votes : (m : Mind sv) → Voted i p m.agreement.incarnation (hold i p false m)
  hold_votes m =
      goes_on_akin answer answer_akin _ _ (goes_on_akin (cond (same_view p m) still forward) (cond_both (same_view p m) still forward (λ (f : Mind sv → Turn sv). (n : Mind sv) → Akin n (f n).mind) (λ _ n. akin_self n) (λ _ n. forward_akin n))
      (says i (Accepted p.id m.agreement.incarnation) (takes_up p false m)) m.agreement.incarnation (record { role = refl; promised = refl; holds = refl; said = Memᴰ.head refl }))

  takes_votes : (m : Mind sv) → m.agreement.role ≡ Follower → m.agreement.promised ≡ p.id.view → id_of (accepted m) ≤ id_of p → take_or_not i p false m ≡ hold i p false m
  unfolding take_or_not hold_or_not
  takes_votes m r v le =
      cond-true (is_member m.agreement.role) (hold_or_not i p false m) (offered i p false m) (rw r refl)
      ∙ (cond-false (is_late p m) (catch_up i m) (cond (may_hold p m) (hold i p false m) (still m)) (le-ltb _ _ (omega (arith, ap rank v))) ∙ cond-true (may_hold p m) (hold i p false m) (still m) (le-leb _ _ le))

  -- after a turn that leaves it as it is
  then_votes : (m : Mind sv) (x : Turn sv) → Akin m x.mind → m.agreement.role ≡ Follower → m.agreement.promised ≡ p.id.view → id_of (accepted m) ≤ id_of p → Voted i p m.agreement.incarnation (then_do x (take_or_not i p false))
  unfolding then_do
  then_votes m x a r v le = rw (takes_votes x.mind (a.role ∙ r) (a.promised ∙ v) (omega (arith, ap (λ (q : Proposal sv). id_of q) a.holds))) (let h = hold_votes x.mind in record { role = h.role; promised = h.promised; holds = h.holds; said = Memᴰ.append_right x.does (subst (λ (y : ℕ). Memᴰ (Says i (Accepted p.id y)) (hold i p false x.mind).does) a.incarnation h.said) })

  pub votes_for : (m : Mind sv) → m.agreement.role ≡ Follower → m.agreement.promised ≡ p.id.view → id_of (accepted m) ≤ id_of p → Voted i p m.agreement.incarnation (turn (Said i (Propose p false)) m)
  unfolding turn hears on_propose
  votes_for m r v le =
      rw (cond-false (leads p.id.view m) (still m) (then_do (implied p m) (take_or_not i p false)) (and_left _ _ (ap (λ (z : Role). is_leader z) r)))
      (then_votes m (implied p m) (implied_akin p m (rw r refl)) r v le)
