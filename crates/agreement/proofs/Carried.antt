-- Each proposal that is said in a turn is the one that is held after it: for every mind, whatever comes. A move either says no proposal (NoneIn), or keeps what is held (Same), or stands last (Ends).
use Rattle.std.proofs.Common.{◌≡◌, ℕ, zero, suc, Bool, false, cond, not, ◌&&◌, ◌||◌, eqb, ltb, List, [], ◌∷◌, ◌++◌, length, get_or, set, is_some, Some, None, Option, refl, ap, ⊎_elim, arith}
use mathlib.Core.List.Memᴰ
use mathlib.Core.List.{Memᴰ}
use Rattle.std.proofs.lemmas.Bool.{cond_both}
use Rattle.runs.specs.Replicas.{Said, Call', Beat, Does, Says, Gives, Whole'}
use Rattle.agreement.specs.declared.ProposalId.{ProposalId}
use Rattle.agreement.specs.Content.{Service, Proposal, limit, rank, place_at, seven}
use Rattle.agreement.specs.Machine.{Msg, Prepare, Promise, Propose, Alive, Accepted, Join, Forward, is_member, is_candidate, is_leader, Waiting, Mind, accepted, names, counts, quorum, Turn, still, then_do, to_each, word_to, tell, tell_all, tell_done, forward_head, forward, may_answer, reply_to, hands, answer_head, answer, Job, DoCall, DoJoin, call_fits, join_fits, next_job, proposes, does, may_serve, serve, is_settled, settle, elect, same_view, hold, welcome, is_below, is_own, may_promise, is_mine, on_prepare, on_promise, follows, is_named, implied, may_hold, is_late, hold_or_not, offered, take_or_not, leads, on_propose, holds, is_welcome, is_stale, alive_here, alive_there, on_alive, on_accepted, on_join, on_forward, is_full, wait_or_not, quick_or_not, may_stand, ask_all, stand, standing, own_view, anew, without_jobs, say_again, has_job, stand_or_not, on_beat, hears, turn, job_of, with_job, with_joins, with_calls, with_patience, with_heard}
use Rattle.agreement.specs.Said.{Carries, CarriesAccepted}

-- all that is said carries p
abbrev pub AllCarry : {sv : Service} → Proposal sv → List (Does (Msg sv) sv.R) → Type 0
AllCarry p [] = Unit {0}
AllCarry p (Says j w ∷ ds) = Carries p w × AllCarry p ds
AllCarry p (Gives n r ∷ ds) = AllCarry p ds
AllCarry p (Whole' ∷ ds) = AllCarry p ds

module _ {sv : Service} where
  carry_append : (p : Proposal sv) (ds es : List (Does (Msg sv) sv.R)) → AllCarry p ds → AllCarry p es → AllCarry p (ds ++ es)
  carry_append p [] es a b = b
  carry_append p (Says j w ∷ ds) es (c, a) b = (c, carry_append p ds es a b)
  carry_append p (Gives n r ∷ ds) es a b = carry_append p ds es a b
  carry_append p (Whole' ∷ ds) es a b = carry_append p ds es a b

  carry_each : (p : Proposal sv) (f : ℕ → List (Does (Msg sv) sv.R)) → ((j : ℕ) → AllCarry p (f j)) → (n : ℕ) → AllCarry p (to_each n f)
  unfolding to_each
  carry_each p f a zero = tt
  carry_each p f a (suc n) = carry_append p (to_each n f) (f n) (carry_each p f a n) (a n)

  carry_in : (p : Proposal sv) (ds : List (Does (Msg sv) sv.R)) → AllCarry p ds → (j : ℕ) (w : Msg sv) → Memᴰ (Says j w) ds → Carries p w
  carry_in p [] a j w d = absurd (Memᴰ.not-nil d)
  carry_in p (Says i x ∷ ds) (c, a) j w d = ⊎_elim (λ e. let z : w ≡ x = cc in rw z c) (λ z. carry_in p ds a j w z) (Memᴰ.cases_cons d)
  carry_in p (Gives n r ∷ ds) a j w d = ⊎_elim (λ e. absurd (let z : ◌≡◌ {A = ℕ} 0 1 = cc in omega arith)) (λ z. carry_in p ds a j w z) (Memᴰ.cases_cons d)
  carry_in p (Whole' ∷ ds) a j w d = ⊎_elim (λ e. absurd (let z : ◌≡◌ {A = ℕ} 0 1 = cc in omega arith)) (λ z. carry_in p ds a j w z) (Memᴰ.cases_cons d)

  -- says no proposal: carries whatever one likes
  abbrev pub NoneIn : Turn sv → Type 0
  NoneIn x = (p : Proposal sv) → AllCarry p x.does

  -- keeps what is held, and says only that
  abbrev pub Same : (Mind sv → Turn sv) → Type 0
  Same f = (m : Mind sv) → (accepted (f m).mind ≡ accepted m) × AllCarry (accepted m) (f m).does

  abbrev Ends : Turn sv → Type 0
  Ends x = AllCarry (accepted x.mind) x.does

  none_ends : (x : Turn sv) → NoneIn x → Ends x
  none_ends x a = a (accepted x.mind)

  then_none : (x : Turn sv) (f : Mind sv → Turn sv) → NoneIn x → ((m : Mind sv) → NoneIn (f m)) → NoneIn (then_do x f)
  unfolding then_do
  then_none x f a b p = carry_append p x.does (f x.mind).does (a p) (b x.mind p)

  then_ends : (x : Turn sv) (f : Mind sv → Turn sv) → NoneIn x → Ends (f x.mind) → Ends (then_do x f)
  unfolding then_do
  then_ends x f a b = carry_append _ x.does (f x.mind).does (a (accepted (f x.mind).mind)) b

  then_same : (x : Turn sv) (f : Mind sv → Turn sv) → Ends x → Same f → Ends (then_do x f)
  unfolding then_do
  then_same x f a b = let k = b x.mind in carry_append _ x.does (f x.mind).does (rw k.0 a) (rw k.0 k.1)

  -- moves that say no proposal
  forward_head_none : (ts : List (Waiting sv)) (m : Mind sv) → NoneIn (forward_head ts m)
  unfolding forward_head
  forward_head_none [] m p = tt
  forward_head_none (t ∷ ts) m p = cond_both (is_member m.agreement.role && ltb (suc m.agreement.no) limit) _ _ (λ (x : Turn sv). AllCarry p x.does) (λ _. cond_both (eqb m.agreement.promised.leader m.agreement.me) _ _ (λ (x : Turn sv). AllCarry p x.does) (λ _. tt) (λ _. (tt, tt))) (λ _. tt)

  pub forward_head_mind : (ts : List (Waiting sv)) (m : Mind sv) → (forward_head ts m).mind ≡ m
  unfolding forward_head
  forward_head_mind [] m = refl
  forward_head_mind (t ∷ ts) m = cond_both (is_member m.agreement.role && ltb (suc m.agreement.no) limit) _ _ (λ (x : Turn sv). x.mind ≡ m) (λ _. cond_both (eqb m.agreement.promised.leader m.agreement.me) _ _ (λ (x : Turn sv). x.mind ≡ m) (λ _. refl) (λ _. refl)) (λ _. refl)

  hands_same : (n : ℕ) (ts : List (Waiting sv)) (o : Option sv.R) (m : Mind sv) → (accepted (hands n ts o m).mind ≡ accepted m) × NoneIn (hands n ts o m)
  unfolding hands then_do
  hands_same n ts None m = (refl, λ p. tt)
  hands_same n ts (Some r) m = (ap (λ (z : Mind sv). accepted z) (forward_head_mind _ _), λ p. forward_head_none _ _ p)

  pub answer_head_same : (ts : List (Waiting sv)) (m : Mind sv) → (accepted (answer_head ts m).mind ≡ accepted m) × NoneIn (answer_head ts m)
  unfolding answer_head
  answer_head_same [] m = (refl, λ p. tt)
  answer_head_same (t ∷ ts) m = cond_both (may_answer m) _ _ (λ (x : Turn sv). (accepted x.mind ≡ accepted m) × NoneIn x) (λ _. hands_same t.number ts (reply_to t.call m) m) (λ _. (refl, λ p. tt))

  answer_same : Same answer
  answer_same m = let k = answer_head_same m.waiting m in (k.0, k.1 (accepted m))

  tell_done_none : (o : Option ℕ) (m : Mind sv) → NoneIn (tell_done o m)
  unfolding tell_done
  tell_done_none None m p = tt
  tell_done_none (Some j) m p = cond_both (eqb j m.agreement.me) _ _ (λ (x : Turn sv). AllCarry p x.does) (λ _. tt) (λ _. (tt, tt))

  -- what a leader says
  word_carries : (m : Mind sv) (j : ℕ) → Carries (accepted m) (word_to m j)
  word_carries m j = cond_both (is_some (get_or m.agreement.votes j None)) _ _ (Carries (accepted m)) (λ _. tt) (λ _. refl)

  tell_ends : (j : ℕ) (m : Mind sv) → Ends (tell j m)
  unfolding tell
  tell_ends j m = cond_both (eqb j m.agreement.me) _ _ Ends (λ _. tt) (λ _. (word_carries m j, tt))

  pub tell_all_same : Same tell_all
  unfolding tell_all
  tell_all_same m = (refl, carry_each (accepted m) _ (λ j. cond_both (eqb j m.agreement.me) _ _ (AllCarry (accepted m)) (λ _. tt) (λ _. (word_carries m j, tt))) m.agreement.all)

  ask_all_none : (m : Mind sv) → NoneIn (ask_all m)
  unfolding ask_all
  ask_all_none m p = carry_each p _ (λ j. cond_both (eqb j m.agreement.me || counts m.agreement.votes m.agreement.places j) _ _ (AllCarry p) (λ _. tt) (λ _. (tt, tt))) m.agreement.all

  proposes_ends : (p : Proposal sv) (m : Mind sv) → Ends (proposes p m)
  proposes_ends p m = then_same _ answer (then_same _ tell_all tt tell_all_same) answer_same

  does_ends : (o : Option (Job sv)) (m : Mind sv) → Ends (does o m)
  unfolding does
  does_ends None m = tt
  does_ends (Some (DoCall j a)) m = proposes_ends _ (with_calls (set m.calls j None) (job_of j m))
  does_ends (Some (DoJoin j q)) m = proposes_ends _ (with_joins (set m.agreement.joins j None) (job_of j m))

  serve_ends : (m : Mind sv) → Ends (serve m)
  unfolding serve
  serve_ends m = cond_both (may_serve m) _ _ Ends (λ _. does_ends (next_job m) m) (λ _. tt)

  settle_ends : (m : Mind sv) → Ends (settle m)
  unfolding settle
  settle_ends m = cond_both (is_leader m.agreement.role && is_settled m) _ _ Ends (λ _. then_ends _ serve (then_none _ answer (then_none _ (λ n. tell_done n.agreement.job n) (λ p. tt) (λ n. tell_done_none n.agreement.job n)) (λ n. (answer_head_same n.waiting n).1)) (serve_ends _)) (λ _. tt)

  elect_ends : (m : Mind sv) → Ends (elect m)
  unfolding elect
  elect_ends m = cond_both (is_candidate m.agreement.role && quorum m.agreement.all m.agreement.places m.agreement.votes) _ _ Ends (λ _. proposes_ends _ (with_job None m.agreement.turn (with_patience 6 (with_heard (seven false) m)))) (λ _. tt)

  hold_none : (j : ℕ) (p : Proposal sv) (c : Bool) (m : Mind sv) → NoneIn (hold j p c m)
  hold_none j p c m = then_none _ answer (then_none _ (cond (same_view p m) still forward) (λ q. (tt, tt)) (cond_both (same_view p m) still forward (λ (f : Mind sv → Turn sv). (n : Mind sv) → NoneIn (f n)) (λ _ n q. tt) (λ _ n. forward_head_none n.waiting n))) (λ n. (answer_head_same n.waiting n).1)

  welcome_none : (j : ℕ) (p : Proposal sv) (m : Mind sv) → NoneIn (welcome j p m)
  welcome_none j p m = then_none _ forward (λ q. (tt, tt)) (λ n. forward_head_none n.waiting n)

  implied_none : (p : Proposal sv) (m : Mind sv) → NoneIn (implied p m)
  unfolding implied
  implied_none p m =
      cond_both (follows p m) _ _ NoneIn (λ _. cond_both (is_member m.agreement.role) _ _ NoneIn (λ _. then_none _ answer (λ q. tt) (λ n. (answer_head_same n.waiting n).1))
      (λ _. cond_both (is_named (accepted m) m) _ _ NoneIn (λ _. then_none _ forward (λ q. tt) (λ n. forward_head_none n.waiting n)) (λ _ q. tt))) (λ _ q. tt)

  take_or_not_none : (j : ℕ) (p : Proposal sv) (c : Bool) (m : Mind sv) → NoneIn (take_or_not j p c m)
  unfolding take_or_not hold_or_not offered
  take_or_not_none j p c m =
      cond_both (is_member m.agreement.role) _ _ NoneIn (λ _. cond_both (is_late p m) _ _ NoneIn (λ _ q. (tt, tt)) (λ _. cond_both (may_hold p m) _ _ NoneIn (λ _. hold_none j p c m) (λ _ q. tt)))
      (λ _. cond_both (is_named p m) _ _ NoneIn (λ _. cond_both (may_hold p m) _ _ NoneIn (λ _. cond_both c _ _ NoneIn (λ _. welcome_none j p m) (λ _ q. tt)) (λ _ q. tt)) (λ _ q. (tt, tt)))

  on_alive_none : (j : ℕ) (d : ProposalId) (c : Bool) (x : ℕ) (m : Mind sv) → NoneIn (on_alive j d c x m)
  unfolding on_alive alive_here alive_there
  on_alive_none j d c x m =
      cond_both (is_member m.agreement.role) _ _ NoneIn
      (λ _. cond_both (is_stale d m) _ _ NoneIn (λ _ q. (tt, tt)) (λ _. cond_both (leads d.view m) _ _ NoneIn (λ _ q. tt)
      (λ _. cond_both (holds d m) _ _ NoneIn (λ _. hold_none j (accepted m) c m) (λ _. cond_both (eqb (rank d.view) (rank m.agreement.promised)) _ _ NoneIn (λ _ q. tt) (λ _ q. tt)))))
      (λ _. cond_both (eqb x m.agreement.incarnation) _ _ NoneIn (λ _. cond_both (is_welcome d c m) _ _ NoneIn (λ _. welcome_none j (accepted m) m) (λ _ q. tt)) (λ _ q. (tt, tt)))

  hears_ends : (j : ℕ) (w : Msg sv) (m : Mind sv) → Ends (hears j w m)
  unfolding hears on_prepare on_promise on_propose on_accepted on_join on_forward
  hears_ends j (Prepare v) m =
      cond_both (is_member m.agreement.role && not (is_own v m)) _ _ Ends
      (λ _. cond_both (is_below v m) _ _ Ends (λ _. (tt, tt)) (λ _. cond_both (may_promise v m) _ _ Ends (λ _. cond_both (is_mine v m) _ _ (AllCarry (accepted m)) (λ _. tt) (λ _. (refl, tt))) (λ _. tt))) (λ _. tt)
  hears_ends j (Promise v x p) m = cond_both (is_candidate m.agreement.role && eqb (rank v) (rank m.agreement.promised)) _ _ Ends (λ _. then_ends _ elect (λ q. tt) (elect_ends _)) (λ _. tt)
  hears_ends j (Propose p c) m = cond_both (leads p.id.view m) _ _ Ends (λ _. tt) (λ _. none_ends (then_do (implied p m) (take_or_not j p c)) (then_none (implied p m) (take_or_not j p c) (implied_none p m) (λ n. take_or_not_none j p c n)))
  hears_ends j (Alive d c x) m = none_ends (on_alive j d c x m) (on_alive_none j d c x m)
  hears_ends j (Accepted d x) m = cond_both (leads d.view m) _ _ Ends (λ _. then_ends _ settle (λ q. tt) (settle_ends _)) (λ _. tt)
  hears_ends j (Join q) m = cond_both (is_leader m.agreement.role && join_fits j q (accepted m)) _ _ Ends (λ _. then_ends _ serve (λ q. tt) (serve_ends _)) (λ _. tt)
  hears_ends j (Forward a) m =
      cond_both (is_leader m.agreement.role && names j a.incarnation (accepted m)) _ _ Ends
      (λ _. cond_both (eqb a.no (place_at (accepted m) j).no && m.agreement.chosen) _ _ Ends (λ _. tell_ends j m) (λ _. cond_both (call_fits j a (accepted m)) _ _ Ends (λ _. then_ends _ serve (λ q. tt) (serve_ends _)) (λ _. tt))) (λ _. tt)

  wait_or_not_ends : (t : Waiting sv) (m : Mind sv) → Ends (wait_or_not t m)
  unfolding wait_or_not
  wait_or_not_ends t m =
      cond_both (is_full m.waiting) _ _ Ends (λ _. tt) (λ _. cond_both (eqb (length m.waiting) 0) _ _ Ends (λ _. then_ends _ serve (then_none _ forward (λ q. tt) (λ n. forward_head_none n.waiting n)) (serve_ends _)) (λ _. tt))

  quick_or_not_ends : (o : Option sv.R) (t : Waiting sv) (m : Mind sv) → Ends (quick_or_not o t m)
  unfolding quick_or_not
  quick_or_not_ends None t m = wait_or_not_ends t m
  quick_or_not_ends (Some r) t m = tt

  tell_all_ends : (m : Mind sv) → Ends (tell_all m)
  tell_all_ends m = let k = tell_all_same m in rw k.0 k.1

  say_again_ends : (m : Mind sv) → Ends (say_again m)
  unfolding say_again
  say_again_ends m = cond_both (is_leader m.agreement.role) _ _ Ends (λ _. tell_all_ends m) (λ _. cond_both (is_candidate m.agreement.role) _ _ Ends (λ _. none_ends (ask_all m) (ask_all_none m)) (λ _. tt))

  forward_same : Same forward
  forward_same m = (ap (λ (z : Mind sv). accepted z) (forward_head_mind m.waiting m), forward_head_none m.waiting m (accepted m))

  stand_or_not_ends : (m : Mind sv) → Ends (stand_or_not m)
  unfolding stand_or_not
  stand_or_not_ends m =
      cond_both (is_member m.agreement.role && may_stand m) _ _ Ends (λ _. none_ends (stand m) (then_none (still (anew (without_jobs (standing (own_view m.agreement) m)))) ask_all (λ q. tt) ask_all_none)) (λ _. cond_both (has_job m) _ _ Ends (λ _. serve_ends m) (λ _. then_same _ forward (say_again_ends m) forward_same))

  on_beat_ends : (m : Mind sv) → Ends (on_beat m)
  unfolding on_beat
  on_beat_ends m = cond_both (is_member m.agreement.role) _ _ Ends (λ _. then_ends _ stand_or_not (λ q. tt) (stand_or_not_ends _)) (λ _. tt)

pub carries_accepted : (sv : Service) → CarriesAccepted sv
unfolding turn
carries_accepted sv (Said i x) m j w d = carry_in _ _ (hears_ends i x m) j w d
carries_accepted sv (Call' n o) m j w d = carry_in _ _ (quick_or_not_ends (sv.quick o) (record { number = n; call = o }) m) j w d
carries_accepted sv Beat m j w d = carry_in _ _ (on_beat_ends m) j w d
