-- After a turn a replica has the content that it had, with at most one job more, or the content of the letter that came: for every mind, whatever comes.
use Rattle.std.proofs.Common.{◌≡◌, ℕ, Bool, false, cond, not, ◌&&◌, eqb, ◌⊎◌, ◌++◌, length, set, Some, None, Option, sym, refl, ap, ◌∙◌, subst, inl, inr}
use Rattle.std.proofs.lemmas.Bool.{cond_both}
use Rattle.runs.specs.Replicas.{Said, Call', Beat}
use Rattle.agreement.specs.declared.View.{View}
use Rattle.agreement.specs.declared.ProposalId.{ProposalId}
use Rattle.agreement.specs.Content.{Service, Content, Proposal, Change, copied, by_call, by_join, rank, place_at, seven}
use Rattle.agreement.specs.Machine.{Msg, Prepare, Promise, Propose, Alive, Accepted, Join, Forward, is_member, is_candidate, is_leader, Waiting, Mind, content_of, accepted, names, quorum, is_higher, standing, own_view, anew, without_jobs, Turn, still, then_do, tell, tell_all, tell_done, forward, answer, Job, DoCall, DoJoin, call_fits, join_fits, next_job, proposes, does, may_serve, serve, is_settled, settle, elect, same_view, hold, welcome, is_below, is_own, may_promise, on_prepare, reported, on_promise, follows, is_named, implied, may_hold, is_late, hold_or_not, offered, take_or_not, leads, on_propose, holds, is_welcome, is_stale, alive_here, alive_there, on_alive, on_accepted, on_join, on_forward, is_full, wait_or_not, quick_or_not, may_stand, ask_all, stand, say_again, has_job, stand_or_not, on_beat, hears, turn, job_of, with_job, with_joins, with_calls, with_patience, with_heard}
use Rattle.agreement.specs.Said.{Brings, OneContent}
use Rattle.agreement.proofs.Carried.{forward_head_mind, answer_head_same, tell_all_same}

module _ {sv : Service} where
  -- the turn x leaves the content c, or does one job on it
  abbrev More : Content sv → Turn sv → Type 0
  More c x = Change c (content_of x.mind)

  abbrev Has : Content sv → Turn sv → Type 0
  Has c x = content_of x.mind ≡ c

  -- a move that leaves the content
  abbrev Leaves : (Mind sv → Turn sv) → Type 0
  Leaves f = (m : Mind sv) → Has (content_of m) (f m)

  as_is : (c : Content sv) (x : Turn sv) → Has c x → More c x
  as_is c x e = subst (Change c) (sym e) copied

  then_has : (c : Content sv) (x : Turn sv) (f : Mind sv → Turn sv) → Has c x → Leaves f → Has c (then_do x f)
  unfolding then_do
  then_has c x f e a = a x.mind ∙ e

  then_more : (c : Content sv) (x : Turn sv) (f : Mind sv → Turn sv) → Has c x → ((m : Mind sv) → More (content_of m) (f m)) → More c (then_do x f)
  unfolding then_do
  then_more c x f e a = subst (λ (d : Content sv). Change d (content_of (f x.mind).mind)) e (a x.mind)

  forward_leaves : Leaves forward
  forward_leaves m = ap (λ (z : Mind sv). content_of z) (forward_head_mind m.waiting m)

  answer_leaves : Leaves answer
  answer_leaves m = ap (λ (p : Proposal sv). p.content) (answer_head_same m.waiting m).0

  tell_all_leaves : Leaves tell_all
  tell_all_leaves m = ap (λ (p : Proposal sv). p.content) (tell_all_same m).0

  ask_all_leaves : Leaves ask_all
  unfolding ask_all
  ask_all_leaves m = refl

  tell_leaves : (j : ℕ) → Leaves (tell j)
  unfolding tell
  tell_leaves j m = cond_both (eqb j m.agreement.me) _ _ (Has (content_of m)) (λ _. refl) (λ _. refl)

  tell_done_leaves : (o : Option ℕ) → Leaves (tell_done o)
  unfolding tell_done
  tell_done_leaves None m = refl
  tell_done_leaves (Some j) m = cond_both (eqb j m.agreement.me) _ _ (Has (content_of m)) (λ _. refl) (λ _. refl)

  proposes_has : (p : Proposal sv) (m : Mind sv) → Has p.content (proposes p m)
  proposes_has p m = then_has p.content _ answer (then_has p.content _ tell_all refl tell_all_leaves) answer_leaves

  -- one job
  does_more : (o : Option (Job sv)) (m : Mind sv) → More (content_of m) (does o m)
  unfolding does
  does_more None m = copied
  does_more (Some (DoCall j a)) m = subst (Change (content_of m)) (sym (proposes_has _ (with_calls (set m.calls j None) (job_of j m)))) (by_call j a.number a.call)
  does_more (Some (DoJoin j q)) m = subst (Change (content_of m)) (sym (proposes_has _ (with_joins (set m.agreement.joins j None) (job_of j m)))) (by_join j q.incarnation)

  serve_more : (m : Mind sv) → More (content_of m) (serve m)
  unfolding serve
  serve_more m = cond_both (may_serve m) _ _ (More (content_of m)) (λ _. does_more (next_job m) m) (λ _. copied)

  settle_more : (m : Mind sv) → More (content_of m) (settle m)
  unfolding settle
  settle_more m =
      cond_both (is_leader m.agreement.role && is_settled m) _ _ (More (content_of m))
      (λ _. then_more (content_of m) _ serve (then_has (content_of m) _ answer (then_has (content_of m) _ (λ n. tell_done n.agreement.job n) refl (λ n. tell_done_leaves n.agreement.job n)) answer_leaves) serve_more) (λ _. copied)

  elect_leaves : Leaves elect
  unfolding elect
  elect_leaves m =
      cond_both (is_candidate m.agreement.role && quorum m.agreement.all m.agreement.places m.agreement.votes) _ _ (Has (content_of m)) (λ _. proposes_has _ (with_job None m.agreement.turn (with_patience 6 (with_heard (seven false) m)))) (λ _. refl)

  -- what is held
  hold_has : (j : ℕ) (p : Proposal sv) (c : Bool) (m : Mind sv) → Has p.content (hold j p c m)
  hold_has j p c m = then_has p.content _ answer (then_has p.content _ (cond (same_view p m) still forward) refl (cond_both (same_view p m) still forward Leaves (λ _ n. refl) (λ _. forward_leaves))) answer_leaves

  welcome_has : (j : ℕ) (p : Proposal sv) (m : Mind sv) → Has p.content (welcome j p m)
  welcome_has j p m = then_has p.content _ forward refl forward_leaves

  implied_leaves : (p : Proposal sv) → Leaves (implied p)
  unfolding implied
  implied_leaves p m =
      cond_both (follows p m) _ _ (Has (content_of m)) (λ _. cond_both (is_member m.agreement.role) _ _ (Has (content_of m)) (λ _. then_has (content_of m) _ answer refl answer_leaves)
      (λ _. cond_both (is_named (accepted m) m) _ _ (Has (content_of m)) (λ _. then_has (content_of m) _ forward refl forward_leaves) (λ _. refl))) (λ _. refl)

  -- it takes p, or leaves what it has
  abbrev Takes : Proposal sv → Content sv → Turn sv → Type 0
  Takes p c x = Has c x ⊎ Has p.content x

  take_or_not_takes : (j : ℕ) (p : Proposal sv) (c : Bool) (m : Mind sv) → Takes p (content_of m) (take_or_not j p c m)
  unfolding take_or_not hold_or_not offered
  take_or_not_takes j p c m =
      cond_both (is_member m.agreement.role) _ _ (Takes p (content_of m)) (λ _. cond_both (is_late p m) _ _ (Takes p (content_of m)) (λ _. inl refl) (λ _. cond_both (may_hold p m) _ _ (Takes p (content_of m)) (λ _. inr (hold_has j p c m)) (λ _. inl refl)))
      (λ _. cond_both (is_named p m) _ _ (Takes p (content_of m)) (λ _. cond_both (may_hold p m) _ _ (Takes p (content_of m)) (λ _. cond_both c _ _ (Takes p (content_of m)) (λ _. inr (welcome_has j p m)) (λ _. inr refl)) (λ _. inl refl)) (λ _. inl refl))

  then_takes : (p : Proposal sv) (c : Content sv) (x : Turn sv) (f : Mind sv → Turn sv) → Has c x → ((m : Mind sv) → Takes p (content_of m) (f m)) → Takes p c (then_do x f)
  unfolding then_do
  then_takes p c x f e a = go (a x.mind)
    where
      go : Takes p (content_of x.mind) (f x.mind) → Takes p c (record { does = x.does ++ (f x.mind).does; mind = (f x.mind).mind })
      go (inl z) = inl (z ∙ e)
      go (inr z) = inr z

  on_alive_leaves : (j : ℕ) (d : ProposalId) (c : Bool) (x : ℕ) → Leaves (on_alive j d c x)
  unfolding on_alive alive_here alive_there
  on_alive_leaves j d c x m =
      cond_both (is_member m.agreement.role) _ _ (Has (content_of m))
      (λ _. cond_both (is_stale d m) _ _ (Has (content_of m)) (λ _. refl) (λ _. cond_both (leads d.view m) _ _ (Has (content_of m)) (λ _. refl)
      (λ _. cond_both (holds d m) _ _ (Has (content_of m)) (λ _. hold_has j (accepted m) c m) (λ _. cond_both (eqb (rank d.view) (rank m.agreement.promised)) _ _ (Has (content_of m)) (λ _. refl) (λ _. refl)))))
      (λ _. cond_both (eqb x m.agreement.incarnation) _ _ (Has (content_of m)) (λ _. cond_both (is_welcome d c m) _ _ (Has (content_of m)) (λ _. welcome_has j (accepted m) m) (λ _. refl)) (λ _. refl))

  on_prepare_leaves : (j : ℕ) (v : View) → Leaves (on_prepare j v)
  unfolding on_prepare
  on_prepare_leaves j v m = cond_both (is_member m.agreement.role && not (is_own v m)) _ _ (Has (content_of m)) (λ _. cond_both (is_below v m) _ _ (Has (content_of m)) (λ _. refl) (λ _. cond_both (may_promise v m) _ _ (Has (content_of m)) (λ _. refl) (λ _. refl))) (λ _. refl)

  on_promise_takes : (j : ℕ) (v : View) (x : ℕ) (p : Proposal sv) (m : Mind sv) → Takes p (content_of m) (on_promise j v x p m)
  unfolding on_promise
  on_promise_takes j v x p m =
      cond_both (is_candidate m.agreement.role && eqb (rank v) (rank m.agreement.promised)) _ _ (Takes p (content_of m))
      (λ _. cond_both (is_higher p m) p (accepted m) (λ (q : Proposal sv). (c : Content sv) → q.content ≡ c → content_of (reported j x p m) ≡ q.content → Takes p (content_of m) (then_do (still (reported j x p m)) elect)) (λ _ c e f. inr (then_has p.content _ elect f elect_leaves)) (λ _ c e f. inl (then_has (content_of m) _ elect f elect_leaves)) _ refl refl) (λ _. inl refl)

  more : (p : Proposal sv) (c : Content sv) (x : Turn sv) → Takes p c x → Change c (content_of x.mind) ⊎ (content_of x.mind ≡ p.content)
  more p c x (inl e) = inl (as_is c x e)
  more p c x (inr e) = inr e

  hears_one : (j : ℕ) (w : Msg sv) (m : Mind sv) → Change (content_of m) (content_of (hears j w m).mind) ⊎ Brings (Said j w) (content_of (hears j w m).mind)
  unfolding hears on_propose on_accepted on_join on_forward
  hears_one j (Prepare v) m = inl (as_is (content_of m) (on_prepare j v m) (on_prepare_leaves j v m))
  hears_one j (Promise v x p) m = more p (content_of m) (on_promise j v x p m) (on_promise_takes j v x p m)
  hears_one j (Propose p c) m = more p (content_of m) (on_propose j p c m) (cond_both (leads p.id.view m) _ _ (Takes p (content_of m)) (λ _. inl refl) (λ _. then_takes p (content_of m) _ (take_or_not j p c) (implied_leaves p m) (take_or_not_takes j p c)))
  hears_one j (Alive d c x) m = inl (as_is (content_of m) (on_alive j d c x m) (on_alive_leaves j d c x m))
  hears_one j (Accepted d x) m =
      inl (cond_both (leads d.view m) _ _ (More (content_of m)) (λ _. then_more (content_of m) _ settle (cond_both (holds d m && names j x (accepted m)) _ _ (λ (n : Mind sv). content_of n ≡ content_of m) (λ _. refl) (λ _. refl)) settle_more) (λ _. copied))
  hears_one j (Join q) m = inl (cond_both (is_leader m.agreement.role && join_fits j q (accepted m)) _ _ (More (content_of m)) (λ _. then_more (content_of m) _ serve refl serve_more) (λ _. copied))
  hears_one j (Forward a) m =
      inl (cond_both (is_leader m.agreement.role && names j a.incarnation (accepted m)) _ _ (More (content_of m))
      (λ _. cond_both (eqb a.no (place_at (accepted m) j).no && m.agreement.chosen) _ _ (More (content_of m)) (λ _. as_is (content_of m) (tell j m) (tell_leaves j m)) (λ _. cond_both (call_fits j a (accepted m)) _ _ (More (content_of m)) (λ _. then_more (content_of m) _ serve refl serve_more) (λ _. copied))) (λ _. copied))

  wait_or_not_more : (t : Waiting sv) (m : Mind sv) → More (content_of m) (wait_or_not t m)
  unfolding wait_or_not
  wait_or_not_more t m =
      cond_both (is_full m.waiting) _ _ (More (content_of m)) (λ _. copied) (λ _. cond_both (eqb (length m.waiting) 0) _ _ (More (content_of m)) (λ _. then_more (content_of m) _ serve (then_has (content_of m) _ forward refl forward_leaves) serve_more) (λ _. copied))

  quick_or_not_more : (o : Option sv.R) (t : Waiting sv) (m : Mind sv) → More (content_of m) (quick_or_not o t m)
  unfolding quick_or_not
  quick_or_not_more None t m = wait_or_not_more t m
  quick_or_not_more (Some r) t m = copied

  say_again_leaves : Leaves say_again
  unfolding say_again
  say_again_leaves m = cond_both (is_leader m.agreement.role) _ _ (Has (content_of m)) (λ _. tell_all_leaves m) (λ _. cond_both (is_candidate m.agreement.role) _ _ (Has (content_of m)) (λ _. ask_all_leaves m) (λ _. refl))

  stand_or_not_more : (m : Mind sv) → More (content_of m) (stand_or_not m)
  unfolding stand_or_not
  stand_or_not_more m =
      cond_both (is_member m.agreement.role && may_stand m) _ _ (More (content_of m)) (λ _. as_is (content_of m) (stand m) (then_has (content_of m) (still (anew (without_jobs (standing (own_view m.agreement) m)))) ask_all refl ask_all_leaves))
      (λ _. cond_both (has_job m) _ _ (More (content_of m)) (λ _. serve_more m) (λ _. as_is (content_of m) (then_do (say_again m) forward) (then_has (content_of m) (say_again m) forward (say_again_leaves m) forward_leaves)))

  on_beat_more : (m : Mind sv) → More (content_of m) (on_beat m)
  unfolding on_beat
  on_beat_more m = cond_both (is_member m.agreement.role) _ _ (More (content_of m)) (λ _. then_more (content_of m) _ stand_or_not refl stand_or_not_more) (λ _. copied)

pub one_content : (sv : Service) → OneContent sv
unfolding turn
one_content sv (Said j w) m = hears_one j w m
one_content sv (Call' n o) m = inl (quick_or_not_more (sv.quick o) (record { number = n; call = o }) m)
one_content sv Beat m = inl (on_beat_more m)
