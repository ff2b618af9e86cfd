-- What one that recovers does when the leader speaks to it: it asks to be written in, keeps a proposal that names it, and is whole as soon as it hears that it is chosen. And that the leader takes up what it asks for.
use Rattle.std.proofs.Common.{◌≡◌, ℕ, Bool, true, false, cond, ◌&&◌, eqb, set, Some, refl, ap, ◌∙◌}
use Rattle.std.proofs.lemmas.Bool.{cond-true, cond-false, and_left, and_right, and_from, true≢false}
use Rattle.runs.specs.Replicas.{Said, whole}
use Rattle.agreement.specs.declared.Joining.{Joining}
use Rattle.agreement.specs.declared.Role.{Role}
use Rattle.agreement.specs.declared.Role.TheVariants.{Recovering, Follower, Candidate, Leader}
use Rattle.agreement.specs.Content.{Service, Proposal, roster}
use Rattle.agreement.specs.Machine.{Propose, Alive, Join, Mind, accepted, is_member, is_leader, Turn, still, says, then_do, learn, enter, join_fits, with_joins, keeping, takes_up, welcome, follows, is_named, implied, may_hold, hold_or_not, offered, take_or_not, leads, on_propose, is_welcome, alive_here, alive_there, on_alive, may_serve, does, next_job, serve, on_join, hears, turn}
use Rattle.agreement.proofs.Carried.{forward_head_mind}

not_leader : (r : Role) → is_member r ≡ false → is_leader r ≡ false
not_leader Recovering e = refl
not_leader Follower e = absurd (true≢false e)
not_leader Candidate e = absurd (true≢false e)
not_leader Leader e = absurd (true≢false e)

-- m recovers, and i speaks to it
module _ {sv : Service} (i : ℕ) (m : Mind sv) (r : is_member m.agreement.role ≡ false) where
  pub offered_is : (p : Proposal sv) (c : Bool) → follows p m ≡ false → turn (Said i (Propose p c)) m ≡ offered i p c m
  unfolding turn hears on_propose implied take_or_not then_do
  offered_is p c f =
      cond-false (leads p.id.view m) (still m) (then_do (implied p m) (take_or_not i p c)) (and_left _ _ (not_leader m.agreement.role r))
      ∙ (ap (λ (x : Turn sv). then_do x (take_or_not i p c)) (cond-false (follows p m) (cond (is_member m.agreement.role) (learn m) (cond (is_named (accepted m) m) (enter m) (still m))) (still m) f)
      ∙ cond-false (is_member m.agreement.role) (hold_or_not i p c m) (offered i p c m) r)

  abbrev pub asks_in : Proposal sv → Joining
  asks_in p = record { incarnation = m.agreement.incarnation; replaces = roster p m.agreement.me }

  pub joins_is : (p : Proposal sv) (c : Bool) → follows p m ≡ false → is_named p m ≡ false → turn (Said i (Propose p c)) m ≡ says i (Join (asks_in p)) m
  unfolding offered
  joins_is p c f n = offered_is p c f ∙ cond-false (is_named p m) (cond (may_hold p m) (cond c (welcome i p m) (still (keeping p m))) (still m)) (says i (Join (asks_in p)) m) n

  pub keeps_is : (p : Proposal sv) → follows p m ≡ false → is_named p m ≡ true → may_hold p m ≡ true → turn (Said i (Propose p false)) m ≡ still (keeping p m)
  unfolding offered
  keeps_is p f n h =
      offered_is p false f ∙ (cond-true (is_named p m) (cond (may_hold p m) (still (keeping p m)) (still m)) (says i (Join (asks_in p)) m) n ∙ cond-true (may_hold p m) (still (keeping p m)) (still m) h)

  pub welcome_is : (p : Proposal sv) → follows p m ≡ false → is_named p m ≡ true → may_hold p m ≡ true → turn (Said i (Propose p true)) m ≡ welcome i p m
  unfolding offered
  welcome_is p f n h = offered_is p true f ∙ (cond-true (is_named p m) (cond (may_hold p m) (welcome i p m) (still m)) (says i (Join (asks_in p)) m) n ∙ cond-true (may_hold p m) (welcome i p m) (still m) h)

  -- it is told that what it keeps is chosen
  pub alive_is : (x : ℕ) → eqb x m.agreement.incarnation ≡ true → is_welcome m.agreement.accepted true m ≡ true → turn (Said i (Alive m.agreement.accepted true x)) m ≡ welcome i (accepted m) m
  unfolding turn hears on_alive alive_there
  alive_is x e w =
      cond-false (is_member m.agreement.role) (alive_here i m.agreement.accepted true m) (alive_there i m.agreement.accepted true x m) r
      ∙ (cond-true (eqb x m.agreement.incarnation) (cond (is_welcome m.agreement.accepted true m) (welcome i (accepted m) m) (still m)) (says i (Join (record { incarnation = m.agreement.incarnation; replaces = x })) m) e
      ∙ cond-true (is_welcome m.agreement.accepted true m) (welcome i (accepted m) m) (still m) w)

module _ {sv : Service} (i : ℕ) (p : Proposal sv) (m : Mind sv) where
  pub welcome_whole : whole (welcome i p m).does ≡ true
  unfolding then_do whole
  welcome_whole = refl

  pub welcome_mind : (welcome i p m).mind ≡ takes_up p true m
  unfolding then_do
  welcome_mind = forward_head_mind m.waiting (takes_up p true m)

-- a leader whose proposal is not chosen yet keeps what was asked for
pub join_kept : {sv : Service} (j : ℕ) (q : Joining) (m : Mind sv) → m.agreement.role ≡ Leader → m.agreement.chosen ≡ false → join_fits j q (accepted m) ≡ true → turn (Said j (Join q)) m ≡ still (with_joins (set m.agreement.joins j (Some q)) m)
unfolding turn hears on_join serve then_do
join_kept {sv} j q m r c f =
    cond-true (is_leader m.agreement.role && join_fits j q (accepted m)) (then_do (still (with_joins (set m.agreement.joins j (Some q)) m)) serve) (still m) (and_from _ _ (ap (λ (z : Role). is_leader z) r) f)
    ∙ cond-false (may_serve (with_joins (set m.agreement.joins j (Some q)) m)) (does (next_job (with_joins (set m.agreement.joins j (Some q)) m)) (with_joins (set m.agreement.joins j (Some q)) m)) (still (with_joins (set m.agreement.joins j (Some q)) m)) (and_right (is_leader m.agreement.role) _ (and_left m.agreement.chosen _ c))
