-- What no turn changes of a replica: who it is; and, but for a call that comes in, how many calls came in, those that it answered and those that wait together. The number of those answered only rises.
-- So among themselves replicas keep a bound of it, and no more calls come to wait.
use Rattle.std.proofs.Common.{◌≡◌, ℕ, suc, ◌+◌, ◌≤◌, Bool, false, cond, not, ◌&&◌, eqb, List, [], ◌∷◌, length, set, Some, None, Option, sym, refl, ap, ◌∙◌, subst, ⊎_elim, arith}
use Rattle.std.proofs.lemmas.Bool.{cond_both, cases_eq}
use Rattle.runs.specs.Replicas.{Scene, Seen, there, at}
use Rattle.runs.specs.Progress.{Among, stay, talk, beat, wake}
use Rattle.agreement.specs.declared.ProposalId.{ProposalId}
use Rattle.agreement.specs.Content.{Service, Proposal, rank, place_at, seven}
use Rattle.agreement.specs.Machine.{Msg, Prepare, Promise, Propose, Alive, Accepted, Join, Forward, is_member, is_candidate, is_leader, Waiting, Mind, accepted, names, quorum, Turn, still, then_do, tell, tell_all, tell_done, forward, may_answer, reply_to, hands, answer_head, answer, with_calls, with_joins, with_job, with_patience, with_heard, job_of, Job, DoCall, DoJoin, call_fits, join_fits, next_job, proposes, does, may_serve, serve, is_settled, settle, elect, same_view, hold, welcome, is_below, is_own, may_promise, on_prepare, on_promise, follows, is_named, implied, may_hold, is_late, hold_or_not, offered, take_or_not, leads, on_propose, holds, is_welcome, is_stale, alive_here, alive_there, on_alive, on_accepted, on_join, on_forward, may_stand, ask_all, say_again, has_job, stand_or_not, on_beat, hears, turn, woke, code}
use Rattle.agreement.proofs.Scenes.{at_same, at_other, un_there}
use Rattle.agreement.proofs.Carried.{forward_head_mind}

abbrev pub came_in : {sv : Service} → Mind sv → ℕ
came_in m = m.agreement.no + length m.waiting

module _ {sv : Service} where
  -- who it is, how many came in, how many were answered
  abbrev pub Kept : Mind sv → Mind sv → Type 0
  Kept m n = (n.agreement.me ≡ m.agreement.me) × (n.agreement.incarnation ≡ m.agreement.incarnation) × (came_in n ≡ came_in m) × (m.agreement.no ≤ n.agreement.no)

  abbrev pub Has : Mind sv → Turn sv → Type 0
  Has m x = Kept m x.mind

  kept_trans : (m n o : Mind sv) → Kept m n → Kept n o → Kept m o
  kept_trans m n o a b = (b.0 ∙ a.0, b.1 ∙ a.1, b.2 ∙ a.2, omega (arith, a.3, b.3))

  abbrev pub Counts : (Mind sv → Turn sv) → Type 0
  Counts f = (m : Mind sv) → Has m (f m)

  pub then_has : (m : Mind sv) (x : Turn sv) (f : Mind sv → Turn sv) → Has m x → Counts f → Has m (then_do x f)
  unfolding then_do
  then_has m x f a b = kept_trans m x.mind (f x.mind).mind a (b x.mind)

  pub forward_counts : Counts forward
  forward_counts m = subst (Kept m) (sym (forward_head_mind m.waiting m)) (refl, refl, refl, omega arith)

  hands_has : (n : ℕ) (ts : List (Waiting sv)) (r : Option sv.R) (m : Mind sv) → length m.waiting ≡ suc (length ts) → Has m (hands n ts r m)
  unfolding hands
  hands_has n ts None m e = (refl, refl, refl, omega arith)
  hands_has n ts (Some r) m e = then_has m _ forward (refl, refl, omega arith, omega arith) forward_counts

  answer_head_has : (ts : List (Waiting sv)) (m : Mind sv) → m.waiting ≡ ts → Has m (answer_head ts m)
  unfolding answer_head
  answer_head_has [] m e = (refl, refl, refl, omega arith)
  answer_head_has (t ∷ ts) m e = cond_both (may_answer m) _ _ (Has m) (λ _. hands_has t.number ts (reply_to t.call m) m (ap length e)) (λ _. (refl, refl, refl, omega arith))

  pub answer_counts : Counts answer
  answer_counts m = answer_head_has m.waiting m refl

  pub tell_counts : (j : ℕ) → Counts (tell j)
  unfolding tell
  tell_counts j m = cond_both (eqb j m.agreement.me) _ _ (Has m) (λ _. (refl, refl, refl, omega arith)) (λ _. (refl, refl, refl, omega arith))

  pub tell_all_counts : Counts tell_all
  unfolding tell_all
  tell_all_counts m = (refl, refl, refl, omega arith)

  pub ask_all_counts : Counts ask_all
  unfolding ask_all
  ask_all_counts m = (refl, refl, refl, omega arith)

  pub tell_done_counts : (o : Option ℕ) → Counts (tell_done o)
  unfolding tell_done
  tell_done_counts None m = (refl, refl, refl, omega arith)
  tell_done_counts (Some j) m = cond_both (eqb j m.agreement.me) _ _ (Has m) (λ _. (refl, refl, refl, omega arith)) (λ _. (refl, refl, refl, omega arith))

  -- n is the mind m, with its jobs changed
  proposes_has : (p : Proposal sv) (m n : Mind sv) → Kept m n → Has m (proposes p n)
  proposes_has p m n e = then_has m _ answer (then_has m _ tell_all e tell_all_counts) answer_counts

  does_has : (o : Option (Job sv)) (m : Mind sv) → Has m (does o m)
  unfolding does
  does_has None m = (refl, refl, refl, omega arith)
  does_has (Some (DoCall j a)) m = proposes_has _ m (with_calls (set m.calls j None) (job_of j m)) (refl, refl, refl, omega arith)
  does_has (Some (DoJoin j q)) m = proposes_has _ m (with_joins (set m.agreement.joins j None) (job_of j m)) (refl, refl, refl, omega arith)

  pub serve_counts : Counts serve
  unfolding serve
  serve_counts m = cond_both (may_serve m) _ _ (Has m) (λ _. does_has (next_job m) m) (λ _. (refl, refl, refl, omega arith))

  pub settle_counts : Counts settle
  unfolding settle
  settle_counts m = cond_both (is_leader m.agreement.role && is_settled m) _ _ (Has m) (λ _. then_has m _ serve (then_has m _ answer (then_has m _ (λ n. tell_done n.agreement.job n) (refl, refl, refl, omega arith) (λ n. tell_done_counts n.agreement.job n)) answer_counts) serve_counts) (λ _. (refl, refl, refl, omega arith))

  pub elect_counts : Counts elect
  unfolding elect
  elect_counts m = cond_both (is_candidate m.agreement.role && quorum m.agreement.all m.agreement.places m.agreement.votes) _ _ (Has m) (λ _. proposes_has _ m (with_job None m.agreement.turn (with_patience 6 (with_heard (seven false) m))) (refl, refl, refl, omega arith)) (λ _. (refl, refl, refl, omega arith))

  hold_counts : (j : ℕ) (p : Proposal sv) (c : Bool) (m : Mind sv) → Has m (hold j p c m)
  hold_counts j p c m = then_has m _ answer (then_has m _ (cond (same_view p m) still forward) (refl, refl, refl, omega arith) (cond_both (same_view p m) still forward Counts (λ _ n. (refl, refl, refl, omega arith)) (λ _. forward_counts))) answer_counts

  welcome_counts : (j : ℕ) (p : Proposal sv) → Counts (welcome j p)
  welcome_counts j p m = then_has m _ forward (refl, refl, refl, omega arith) forward_counts

  pub implied_counts : (p : Proposal sv) → Counts (implied p)
  unfolding implied
  implied_counts p m =
      cond_both (follows p m) _ _ (Has m) (λ _. cond_both (is_member m.agreement.role) _ _ (Has m) (λ _. then_has m _ answer (refl, refl, refl, omega arith) answer_counts)
      (λ _. cond_both (is_named (accepted m) m) _ _ (Has m) (λ _. then_has m _ forward (refl, refl, refl, omega arith) forward_counts) (λ _. (refl, refl, refl, omega arith)))) (λ _. (refl, refl, refl, omega arith))

  pub take_or_not_counts : (j : ℕ) (p : Proposal sv) (c : Bool) → Counts (take_or_not j p c)
  unfolding take_or_not hold_or_not offered
  take_or_not_counts j p c m =
      cond_both (is_member m.agreement.role) _ _ (Has m) (λ _. cond_both (is_late p m) _ _ (Has m) (λ _. (refl, refl, refl, omega arith)) (λ _. cond_both (may_hold p m) _ _ (Has m) (λ _. hold_counts j p c m) (λ _. (refl, refl, refl, omega arith))))
      (λ _. cond_both (is_named p m) _ _ (Has m) (λ _. cond_both (may_hold p m) _ _ (Has m) (λ _. cond_both c _ _ (Has m) (λ _. welcome_counts j p m) (λ _. (refl, refl, refl, omega arith))) (λ _. (refl, refl, refl, omega arith))) (λ _. (refl, refl, refl, omega arith)))

  on_alive_counts : (j : ℕ) (d : ProposalId) (c : Bool) (x : ℕ) → Counts (on_alive j d c x)
  unfolding on_alive alive_here alive_there
  on_alive_counts j d c x m =
      cond_both (is_member m.agreement.role) _ _ (Has m)
      (λ _. cond_both (is_stale d m) _ _ (Has m) (λ _. (refl, refl, refl, omega arith)) (λ _. cond_both (leads d.view m) _ _ (Has m) (λ _. (refl, refl, refl, omega arith))
      (λ _. cond_both (holds d m) _ _ (Has m) (λ _. hold_counts j (accepted m) c m) (λ _. cond_both (eqb (rank d.view) (rank m.agreement.promised)) _ _ (Has m) (λ _. (refl, refl, refl, omega arith)) (λ _. (refl, refl, refl, omega arith))))))
      (λ _. cond_both (eqb x m.agreement.incarnation) _ _ (Has m) (λ _. cond_both (is_welcome d c m) _ _ (Has m) (λ _. welcome_counts j (accepted m) m) (λ _. (refl, refl, refl, omega arith))) (λ _. (refl, refl, refl, omega arith)))

  pub hears_counts : (j : ℕ) (w : Msg sv) → Counts (hears j w)
  unfolding hears on_prepare on_promise on_propose on_accepted on_join on_forward
  hears_counts j (Prepare v) m = cond_both (is_member m.agreement.role && not (is_own v m)) _ _ (Has m) (λ _. cond_both (is_below v m) _ _ (Has m) (λ _. (refl, refl, refl, omega arith)) (λ _. cond_both (may_promise v m) _ _ (Has m) (λ _. (refl, refl, refl, omega arith)) (λ _. (refl, refl, refl, omega arith)))) (λ _. (refl, refl, refl, omega arith))
  hears_counts j (Promise v x p) m = cond_both (is_candidate m.agreement.role && eqb (rank v) (rank m.agreement.promised)) _ _ (Has m) (λ _. then_has m _ elect (refl, refl, refl, omega arith) elect_counts) (λ _. (refl, refl, refl, omega arith))
  hears_counts j (Propose p c) m = cond_both (leads p.id.view m) _ _ (Has m) (λ _. (refl, refl, refl, omega arith)) (λ _. then_has m _ (take_or_not j p c) (implied_counts p m) (take_or_not_counts j p c))
  hears_counts j (Alive d c x) m = on_alive_counts j d c x m
  hears_counts j (Accepted d x) m = cond_both (leads d.view m) _ _ (Has m) (λ _. then_has m _ settle (cond_both (holds d m && names j x (accepted m)) _ _ (Kept m) (λ _. (refl, refl, refl, omega arith)) (λ _. (refl, refl, refl, omega arith))) settle_counts) (λ _. (refl, refl, refl, omega arith))
  hears_counts j (Join q) m = cond_both (is_leader m.agreement.role && join_fits j q (accepted m)) _ _ (Has m) (λ _. then_has m _ serve (refl, refl, refl, omega arith) serve_counts) (λ _. (refl, refl, refl, omega arith))
  hears_counts j (Forward a) m =
      cond_both (is_leader m.agreement.role && names j a.incarnation (accepted m)) _ _ (Has m)
      (λ _. cond_both (eqb a.no (place_at (accepted m) j).no && m.agreement.chosen) _ _ (Has m) (λ _. tell_counts j m) (λ _. cond_both (call_fits j a (accepted m)) _ _ (Has m) (λ _. then_has m _ serve (refl, refl, refl, omega arith) serve_counts) (λ _. (refl, refl, refl, omega arith)))) (λ _. (refl, refl, refl, omega arith))

  pub say_again_counts : Counts say_again
  unfolding say_again
  say_again_counts m = cond_both (is_leader m.agreement.role) _ _ (Has m) (λ _. tell_all_counts m) (λ _. cond_both (is_candidate m.agreement.role) _ _ (Has m) (λ _. ask_all_counts m) (λ _. (refl, refl, refl, omega arith)))

  pub stand_or_not_counts : Counts stand_or_not
  unfolding stand_or_not
  stand_or_not_counts m = cond_both (is_member m.agreement.role && may_stand m) _ _ (Has m) (λ _. then_has m _ ask_all (refl, refl, refl, omega arith) ask_all_counts) (λ _. cond_both (has_job m) _ _ (Has m) (λ _. serve_counts m) (λ _. then_has m _ forward (say_again_counts m) forward_counts))

  pub on_beat_counts : Counts on_beat
  unfolding on_beat
  on_beat_counts m = cond_both (is_member m.agreement.role) _ _ (Has m) (λ _. then_has m _ stand_or_not (refl, refl, refl, omega arith) stand_or_not_counts) (λ _. (refl, refl, refl, omega arith))

  -- so no more wait than before
  pub fewer_wait : (m n : Mind sv) → Kept m n → length n.waiting ≤ length m.waiting
  fewer_wait m n k = omega (arith, k.2, k.3)

  -- whatever was no more than b in s is so in t
  abbrev AllBelow : (Scene (Mind sv) (Msg sv)) → (j b : ℕ) → Type 0
  AllBelow t j b = (m : Mind sv) → t.house j ≡ there m → came_in m ≤ b

  turn_below : (t : Scene (Mind sv) (Msg sv)) (i j b : ℕ) (m x : Mind sv) → t.house i ≡ there m → came_in x ≡ came_in m → AllBelow t j b → (n : Mind sv) → at i (there x) t.house j ≡ there n → came_in n ≤ b
  turn_below t i j b m x e q a n y = ⊎_elim (λ z. let w = ap (λ (o : Mind sv). came_in o) (un_there x n (sym (at_same i (there x) t.house j z) ∙ y)) in omega (arith, a m (ap t.house z ∙ e))) (λ z. a n (sym (at_other i (there x) t.house j z) ∙ y)) (cases_eq j i)

  pub came_in_below : {all : ℕ} {group : List ℕ} {s : Scene (Mind sv) (Msg sv)} {fs : List (Seen sv.O sv.R)} {t : Scene (Mind sv) (Msg sv)} → Among (code sv) all group s fs t → (j b : ℕ) → AllBelow s j b → AllBelow t j b
  unfolding turn
  came_in_below stay j b a = a
  came_in_below (talk {t = t} i m l new lt y z w e q d f) j b a = turn_below t i j b m _ e (hears_counts l.by l.word m).2 (came_in_below w j b a)
  came_in_below (beat {t = t} i m lt y w e) j b a = turn_below t i j b m _ e (on_beat_counts m).2 (came_in_below w j b a)
  came_in_below {all = all} (wake {t = t} i r lt y new w e) j b a = λ n q. ⊎_elim (λ z. let k = ap (λ (o : Mind sv). came_in o) (un_there (woke sv i all r) n (sym (at_same i (there (woke sv i all r)) t.house j z) ∙ q)) in omega arith) (λ z. came_in_below w j b a n (sym (at_other i (there (woke sv i all r)) t.house j z) ∙ q)) (cases_eq j i)
