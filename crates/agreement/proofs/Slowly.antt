-- In one turn numbers rise by at most one: the number of a view where a replica stands, and how far a state has come by one call where a job is done. And a call that waits goes on waiting, or is answered.
-- So in a run of n steps no number is above n (Bounds.antt), and the tests on numbers pass.
use Rattle.std.proofs.Common.{◌≡◌, ℕ, zero, suc, ◌+◌, ◌*◌, ◌≤◌, Bool, true, false, cond, not, ◌&&◌, ◌||◌, eqb, ltb, leb, ◌⊎◌, List, [], ◌∷◌, ◌++◌, length, get_or, set, is_some, Some, None, Option, refl, ap, subst, inl, inr, ⊎_elim, arith}
use mathlib.Core.List.Memᴰ
use mathlib.Core.List.{Memᴰ}
use Rattle.std.specs.Option.{option_or}
use Rattle.std.proofs.lemmas.Bool.{cond_both, and_parts, leb-false}
use Rattle.runs.specs.Replicas.{Does, Says, Gives, Whole'}
use Rattle.agreement.specs.declared.View.{View}
use Rattle.agreement.specs.declared.ProposalId.{ProposalId}
use Rattle.agreement.specs.declared.Joining.{Joining}
use Rattle.agreement.specs.Content.{Service, Content, Proposal, limit, rank, place_at, seven, called}
use Rattle.agreement.specs.Machine.{Msg, Prepare, Promise, Propose, Alive, Accepted, Join, Forward, is_member, is_candidate, is_leader, Forwarded, Waiting, Mind, accepted, content_of, names, counts, quorum, Turn, still, says, then_do, to_each, word_to, tell, tell_all, tell_done, forward_head, forward, may_answer, reply_to, hands, answer_head, answer, learn, Job, DoCall, DoJoin, call_fits, join_fits, call_job, join_job, after, first_from, own_head, join_at, call_at, first_of, next_job, proposes, does, may_serve, serve, is_settled, settle, elect, takes_up, same_view, hold, welcome, enter, is_below, is_own, may_promise, is_mine, promise, is_higher, reported, on_prepare, on_promise, follows, is_named, implied, may_hold, is_late, hold_or_not, offered, take_or_not, leads, on_propose, holds, is_welcome, is_stale, alive_here, alive_there, on_alive, on_accepted, on_join, on_forward, is_full, comes_in, wait_or_not, quick_or_not, on_call, may_stand, ask_all, say_again, has_job, stand_or_not, on_beat, hears, job_of, with_job, with_joins, with_calls, with_patience, with_heard}
use Rattle.agreement.specs.Steady.{Steady}
use Rattle.agreement.proofs.CameIn.{Kept, then_has, fewer_wait, forward_counts, serve_counts}

-- WHAT IS FOLLOWED OF STATES: P b holds of a state that b calls or fewer may have led to; a call that is done leads on
pub record Follow (sv : Service) : Type 1 where
  pub P : ℕ → sv.clerk.State → Type 0
  pub start : P 0 sv.clerk.start
  pub more : (b c : ℕ) (s : sv.clerk.State) → b ≤ c → P b s → P c s
  pub step : (b : ℕ) (o : sv.O) (s : sv.clerk.State) → sv.calm s ≡ true → P b s → P (suc b) (sv.clerk.next o s)

-- its size
abbrev pub sized : {sv : Service} → Steady sv → Follow sv
sized st = record { P = λ b s. st.size s ≤ 64 * b; start = rw st.starts (omega arith); more = λ b c s le a. omega (arith, le, a); step = λ b o s _ a. omega (arith, a, st.grows o s) }

-- a call is taken up only where the state is calm
abbrev CalmJob : {sv : Service} → Proposal sv → Option (Job sv) → Type 0
CalmJob p None = Unit {0}
CalmJob {sv} p (Some (DoCall j a)) = sv.calm p.content.state ≡ true
CalmJob p (Some (DoJoin j q)) = Unit {0}

module _ {sv : Service} where
  calm_or : (p : Proposal sv) (a b : Option (Job sv)) → CalmJob p a → CalmJob p b → CalmJob p (option_or a b)
  calm_or p None b x y = y
  calm_or p (Some j) b x y = x

  calm_first : (p : Proposal sv) (f : ℕ → Option (Job sv)) → ((j : ℕ) → CalmJob p (f j)) → (k n j : ℕ) → CalmJob p (first_from k n j f)
  unfolding first_from
  calm_first p f a zero n j = tt
  calm_first p f a (suc k) n j = calm_or p (f j) _ (a j) (calm_first p f a k n (after n j))

  calm_join : (p : Proposal sv) (j : ℕ) (o : Option Joining) → CalmJob p (join_job p j o)
  calm_join p j None = tt
  calm_join p j (Some q) = cond_both (join_fits j q p) _ _ (CalmJob p) (λ _. tt) (λ _. tt)

  calm_call : (p : Proposal sv) (j : ℕ) (o : Option (Forwarded sv)) → CalmJob p (call_job p j o)
  calm_call p j None = tt
  calm_call p j (Some a) = cond_both (call_fits j a p) _ _ (CalmJob p) (λ e. (and_parts _ _ e).1) (λ _. tt)

  calm_job : (m : Mind sv) → CalmJob (accepted m) (next_job m)
  calm_job m =
      calm_or (accepted m) (first_of (join_at m) m) (first_of (call_at m) m) (calm_first (accepted m) (join_at m) (λ j. calm_join (accepted m) j (get_or m.agreement.joins j None)) m.agreement.all m.agreement.all m.agreement.turn)
      (calm_first (accepted m) (call_at m) (λ j. calm_call (accepted m) j (cond (eqb j m.agreement.me) (own_head m.waiting m) (get_or m.calls j None))) m.agreement.all m.agreement.all m.agreement.turn)

module _ {sv : Service} (fo : Follow sv) where
  -- a proposal, a mind, a message whose numbers are at most b
  pub record LowProposal (b : ℕ) (p : Proposal sv) : Type 0 where
    pub view : p.id.view.number ≤ b
    pub state : fo.P b p.content.state

  pub record Tops (b : ℕ) (m : Mind sv) : Type 0 where
    pub view : m.agreement.promised.number ≤ b
    pub held : LowProposal b (accepted m)

  abbrev pub LowWord : ℕ → Msg sv → Type 0
  LowWord b (Prepare v) = v.number ≤ b
  LowWord b (Promise v x p) = (v.number ≤ b) × LowProposal b p
  LowWord b (Propose p c) = LowProposal b p
  LowWord b (Alive d c x) = Unit {0}
  LowWord b (Accepted d x) = Unit {0}
  LowWord b (Join q) = Unit {0}
  LowWord b (Forward a) = Unit {0}

  abbrev pub AllLow : ℕ → List (Does (Msg sv) sv.R) → Type 0
  AllLow b [] = Unit {0}
  AllLow b (Says j w ∷ ds) = LowWord b w × AllLow b ds
  AllLow b (Gives n r ∷ ds) = AllLow b ds
  AllLow b (Whole' ∷ ds) = AllLow b ds

  -- more is allowed
  pub low_more : (b c : ℕ) → b ≤ c → (p : Proposal sv) → LowProposal b p → LowProposal c p
  low_more b c le p a = record { view = omega (arith, le, a.view); state = fo.more b c p.content.state le a.state }

  pub tops_more : (b c : ℕ) → b ≤ c → (m : Mind sv) → Tops b m → Tops c m
  tops_more b c le m a = record { view = omega (arith, le, a.view); held = low_more b c le (accepted m) a.held }

  pub word_more : (b c : ℕ) → b ≤ c → (w : Msg sv) → LowWord b w → LowWord c w
  word_more b c le (Prepare v) a = omega (arith, le, a)
  word_more b c le (Promise v x p) a = (omega (arith, le, a.0), low_more b c le p a.1)
  word_more b c le (Propose p d) a = low_more b c le p a
  word_more b c le (Alive d e x) a = tt
  word_more b c le (Accepted d x) a = tt
  word_more b c le (Join q) a = tt
  word_more b c le (Forward q) a = tt

  words_more : (b c : ℕ) → b ≤ c → (ds : List (Does (Msg sv) sv.R)) → AllLow b ds → AllLow c ds
  words_more b c le [] a = tt
  words_more b c le (Says j w ∷ ds) a = (word_more b c le w a.0, words_more b c le ds a.1)
  words_more b c le (Gives n r ∷ ds) a = words_more b c le ds a
  words_more b c le (Whole' ∷ ds) a = words_more b c le ds a

  low_append : (b : ℕ) (ds es : List (Does (Msg sv) sv.R)) → AllLow b ds → AllLow b es → AllLow b (ds ++ es)
  low_append b [] es a c = c
  low_append b (Says j w ∷ ds) es a c = (a.0, low_append b ds es a.1 c)
  low_append b (Gives n r ∷ ds) es a c = low_append b ds es a c
  low_append b (Whole' ∷ ds) es a c = low_append b ds es a c

  low_each : (b : ℕ) (f : ℕ → List (Does (Msg sv) sv.R)) → ((j : ℕ) → AllLow b (f j)) → (n : ℕ) → AllLow b (to_each n f)
  unfolding to_each
  low_each b f a zero = tt
  low_each b f a (suc n) = low_append b (to_each n f) (f n) (low_each b f a n) (a n)

  pub low_in : (b : ℕ) (ds : List (Does (Msg sv) sv.R)) → AllLow b ds → (j : ℕ) (w : Msg sv) → Memᴰ (Says j w) ds → LowWord b w
  low_in b [] a j w d = absurd (Memᴰ.not-nil d)
  low_in b (Says i x ∷ ds) a j w d = ⊎_elim (λ e. let z : w ≡ x = cc in rw z a.0) (λ z. low_in b ds a.1 j w z) (Memᴰ.cases_cons d)
  low_in b (Gives n r ∷ ds) a j w d = ⊎_elim (λ e. absurd (let z : ◌≡◌ {A = ℕ} 0 1 = cc in omega arith)) (λ z. low_in b ds a j w z) (Memᴰ.cases_cons d)
  low_in b (Whole' ∷ ds) a j w d = ⊎_elim (λ e. absurd (let z : ◌≡◌ {A = ℕ} 0 1 = cc in omega arith)) (λ z. low_in b ds a j w z) (Memᴰ.cases_cons d)

  -- WHAT A MOVE DOES, from the mind m: its numbers, and those that it says, are at most b; each call that waits goes on waiting, or is answered
  abbrev pub StillOrGiven : Turn sv → Waiting sv → Type 0
  StillOrGiven x t = Memᴰ t x.mind.waiting ⊎ ((r : sv.R) × Memᴰ (Gives t.number r) x.does)

  pub record Slow (b : ℕ) (m : Mind sv) (x : Turn sv) : Type 0 where
    pub tops : Tops b x.mind
    pub words : AllLow b x.does
    pub kept : (t : Waiting sv) → Memᴰ t m.waiting → StillOrGiven x t

  abbrev Flat : (Mind sv → Turn sv) → Type 0
  Flat f = (b : ℕ) (m : Mind sv) → Tops b m → Slow b m (f m)

  abbrev Rises : (Mind sv → Turn sv) → Type 0
  Rises f = (b : ℕ) (m : Mind sv) → Tops b m → Slow (suc b) m (f m)

  slow_more : (b : ℕ) (m : Mind sv) (x : Turn sv) → Slow b m x → Slow (suc b) m x
  slow_more b m x a = record { tops = tops_more b (suc b) (omega arith) x.mind a.tops; words = words_more b (suc b) (omega arith) x.does a.words; kept = a.kept }

  -- a mind with the same calls, and nothing answered
  same : (b : ℕ) (m n : Mind sv) (ds : List (Does (Msg sv) sv.R)) → n.waiting ≡ m.waiting → Tops b n → AllLow b ds → Slow b m (record { does = ds; mind = n })
  same b m n ds w a l = record { tops = a; words = l; kept = λ t d. inl (rw w d) }

  then_slow : (b c : ℕ) → b ≤ c → (m : Mind sv) (x : Turn sv) (f : Mind sv → Turn sv) → Slow b m x → (Tops b x.mind → Slow c x.mind (f x.mind)) → Slow c m (then_do x f)
  unfolding then_do
  then_slow b c le m x f a g = from (g a.tops)
    where
      goes : Slow c x.mind (f x.mind) → (t : Waiting sv) → StillOrGiven x t → StillOrGiven (record { does = x.does ++ (f x.mind).does; mind = (f x.mind).mind }) t
      goes k t (inl d) = ⊎_elim (λ e. inl e) (λ (r, e). inr (r, Memᴰ.append_right x.does e)) (k.kept t d)
      goes k t (inr (r, d)) = inr (r, Memᴰ.append_left (f x.mind).does d)

      from : Slow c x.mind (f x.mind) → Slow c m (record { does = x.does ++ (f x.mind).does; mind = (f x.mind).mind })
      from k = record { tops = k.tops; words = low_append c x.does (f x.mind).does (words_more b c le x.does a.words) k.words; kept = λ t d. goes k t (a.kept t d) }

  then_flat : (b : ℕ) (m : Mind sv) (x : Turn sv) (f : Mind sv → Turn sv) → Slow b m x → Flat f → Slow b m (then_do x f)
  then_flat b m x f a g = then_slow b b (omega arith) m x f a (g b x.mind)

  then_rises : (b : ℕ) (m : Mind sv) (x : Turn sv) (f : Mind sv → Turn sv) → Slow b m x → Rises f → Slow (suc b) m (then_do x f)
  then_rises b m x f a g = then_slow b (suc b) (omega arith) m x f a (g b x.mind)

  still_flat : Flat still
  still_flat b m a = same b m m [] refl a tt

  says_flat : (j : ℕ) (w : Msg sv) (b : ℕ) (m : Mind sv) → Tops b m → LowWord b w → Slow b m (says j w m)
  says_flat j w b m a l = same b m m (Says j w ∷ []) refl a (l, tt)

  low_to : (b : ℕ) (m : Mind sv) → Tops b m → (j : ℕ) → LowWord b (word_to m j)
  low_to b m a j = cond_both (is_some (get_or m.agreement.votes j None)) _ _ (LowWord b) (λ _. tt) (λ _. a.held)

  tell_flat : (j : ℕ) → Flat (tell j)
  unfolding tell
  tell_flat j b m a = cond_both (eqb j m.agreement.me) _ _ (Slow b m) (λ _. still_flat b m a) (λ _. says_flat j _ b m a (low_to b m a j))

  tell_done_flat : (o : Option ℕ) → Flat (tell_done o)
  unfolding tell_done
  tell_done_flat None b m a = still_flat b m a
  tell_done_flat (Some j) b m a = cond_both (eqb j m.agreement.me) _ _ (Slow b m) (λ _. still_flat b m a) (λ _. says_flat j _ b m a tt)

  tell_all_flat : Flat tell_all
  unfolding tell_all
  tell_all_flat b m a = same b m m _ refl a (low_each b _ (λ j. cond_both (eqb j m.agreement.me) _ _ (AllLow b) (λ _. tt) (λ _. (low_to b m a j, tt))) m.agreement.all)

  ask_all_flat : Flat ask_all
  unfolding ask_all
  ask_all_flat b m a = same b m m _ refl a (low_each b _ (λ j. cond_both (eqb j m.agreement.me || counts m.agreement.votes m.agreement.places j) _ _ (AllLow b) (λ _. tt) (λ _. (a.view, tt))) m.agreement.all)

  forward_head_flat : (ts : List (Waiting sv)) → Flat (forward_head ts)
  unfolding forward_head
  forward_head_flat [] b m a = still_flat b m a
  forward_head_flat (t ∷ ts) b m a =
      cond_both (is_member m.agreement.role && ltb (suc m.agreement.no) limit) _ _ (Slow b m) (λ _. cond_both (eqb m.agreement.promised.leader m.agreement.me) _ _ (Slow b m) (λ _. still_flat b m a) (λ _. says_flat _ _ b m a tt)) (λ _. still_flat b m a)

  forward_flat : Flat forward
  forward_flat b m a = forward_head_flat m.waiting b m a

  abbrev gives_to : sv.R → Waiting sv → Does (Msg sv) sv.R
  gives_to r t = Gives t.number r

  -- the oldest call is answered
  hands_slow : (t : Waiting sv) (ts : List (Waiting sv)) (o : Option sv.R) (b : ℕ) (m : Mind sv) → m.waiting ≡ t ∷ ts → Tops b m → Slow b m (hands t.number ts o m)
  unfolding hands
  hands_slow t ts None b m e a = still_flat b m a
  hands_slow t ts (Some r) b m e a =
      then_flat b m _ forward (record { tops = record { view = a.view; held = a.held }; words = tt; kept = λ u d. ⊎_elim (λ q. inr (r, Memᴰ.head (ap (gives_to r) q))) (λ z. inl z) (Memᴰ.cases_cons (subst (Memᴰ u) e d)) }) forward_flat

  answer_head_slow : (ts : List (Waiting sv)) (b : ℕ) (m : Mind sv) → m.waiting ≡ ts → Tops b m → Slow b m (answer_head ts m)
  unfolding answer_head
  answer_head_slow [] b m e a = still_flat b m a
  answer_head_slow (t ∷ ts) b m e a = cond_both (may_answer m) _ _ (Slow b m) (λ _. hands_slow t ts (reply_to t.call m) b m e a) (λ _. still_flat b m a)

  answer_flat : Flat answer
  answer_flat b m a = answer_head_slow m.waiting b m refl a

  learn_flat : Flat learn
  learn_flat b m a = then_flat b m _ answer (same b m _ [] refl (record { view = a.view; held = a.held }) tt) answer_flat

  -- it makes p, whose numbers are low; n is the mind m, changed in what is not said of here
  proposes_slow : (p : Proposal sv) (b : ℕ) (m n : Mind sv) → n.waiting ≡ m.waiting → n.agreement.promised.number ≤ b → LowProposal b p → Slow b m (proposes p n)
  proposes_slow p b m n w v l = then_flat b m _ answer (then_flat b m _ tell_all (same b m _ [] w (record { view = v; held = l }) tt) tell_all_flat) answer_flat

  called_low : (b j : ℕ) (o : sv.O) (c : Content sv) → sv.calm c.state ≡ true → fo.P b c.state → fo.P (suc b) (called j o c).state
  called_low b j o c calm l = cond_both (sv.is_read o) _ _ (λ (d : Content sv). fo.P (suc b) d.state) (λ _. fo.more b (suc b) c.state (omega arith) l) (λ _. fo.step b o c.state calm l)

  does_slow : (o : Option (Job sv)) (b : ℕ) (m : Mind sv) → CalmJob (accepted m) o → Tops b m → Slow (suc b) m (does o m)
  unfolding does
  does_slow None b m k a = slow_more b m _ (still_flat b m a)
  does_slow (Some (DoCall j q)) b m k a =
      proposes_slow _ (suc b) m (with_calls (set m.calls j None) (job_of j m)) refl (omega (arith, a.view)) (record { view = omega (arith, a.held.view); state = called_low b j q.call (content_of m) k a.held.state })
  does_slow (Some (DoJoin j q)) b m k a =
      proposes_slow _ (suc b) m (with_joins (set m.agreement.joins j None) (job_of j m)) refl (omega (arith, a.view)) (record { view = omega (arith, a.held.view); state = fo.more b (suc b) m.state (omega arith) a.held.state })

  serve_rises : Rises serve
  unfolding serve
  serve_rises b m a = cond_both (may_serve m) _ _ (Slow (suc b) m) (λ _. does_slow (next_job m) b m (calm_job m) a) (λ _. slow_more b m _ (still_flat b m a))

  settle_rises : Rises settle
  unfolding settle
  settle_rises b m a =
      cond_both (is_leader m.agreement.role && is_settled m) _ _ (Slow (suc b) m)
      (λ _. then_rises b m _ serve (then_flat b m _ answer (then_flat b m _ (λ n. tell_done n.agreement.job n) (same b m _ [] refl (record { view = a.view; held = a.held }) tt) (λ c n k. tell_done_flat n.agreement.job c n k)) answer_flat) serve_rises) (λ _. slow_more b m _ (still_flat b m a))

  elect_flat : Flat elect
  unfolding elect
  elect_flat b m a =
      cond_both (is_candidate m.agreement.role && quorum m.agreement.all m.agreement.places m.agreement.votes) _ _ (Slow b m)
      (λ e. proposes_slow _ b m (with_job None m.agreement.turn (with_patience 6 (with_heard (seven false) m))) refl a.view (record { view = a.view; state = a.held.state })) (λ _. still_flat b m a)

  takes_up_tops : (p : Proposal sv) (c : Bool) (b : ℕ) (m : Mind sv) → LowProposal b p → Tops b (takes_up p c m)
  takes_up_tops p c b m l = record { view = l.view; held = record { view = l.view; state = l.state } }

  hold_slow : (j : ℕ) (p : Proposal sv) (c : Bool) (b : ℕ) (m : Mind sv) → LowProposal b p → Slow b m (hold j p c m)
  hold_slow j p c b m l =
      then_flat b m _ answer (then_flat b m _ (cond (same_view p m) still forward) (same b m (takes_up p c m) (Says j _ ∷ []) refl (takes_up_tops p c b m l) (tt, tt)) (cond_both (same_view p m) still forward Flat (λ _. still_flat) (λ _. forward_flat))) answer_flat

  welcome_slow : (j : ℕ) (p : Proposal sv) (b : ℕ) (m : Mind sv) → LowProposal b p → Slow b m (welcome j p m)
  welcome_slow j p b m l = then_flat b m _ forward (same b m (takes_up p true m) (Whole' ∷ Says j _ ∷ []) refl (takes_up_tops p true b m l) (tt, tt)) forward_flat

  enter_flat : Flat enter
  enter_flat b m a = then_flat b m _ forward (same b m _ (Whole' ∷ []) refl (record { view = a.held.view; held = a.held }) tt) forward_flat

  on_prepare_slow : (j : ℕ) (v : View) (b : ℕ) (m : Mind sv) → v.number ≤ b → Tops b m → Slow b m (on_prepare j v m)
  unfolding on_prepare
  on_prepare_slow j v b m l a =
      cond_both (is_member m.agreement.role && not (is_own v m)) _ _ (Slow b m)
      (λ e. cond_both (is_below v m) _ _ (Slow b m) (λ _. says_flat j _ b m a a.view)
      (λ _. cond_both (may_promise v m) _ _ (Slow b m) (λ _. same b m (promise v m).mind (promise v m).does refl (record { view = l; held = a.held }) (cond_both (is_mine v m) _ _ (AllLow b) (λ _. tt) (λ _. ((l, a.held), tt)))) (λ _. still_flat b m a)))
      (λ _. still_flat b m a)

  higher_low : (b : ℕ) (p : Proposal sv) (m : Mind sv) → LowProposal b p → Tops b m → LowProposal b (cond (is_higher p m) p (accepted m))
  higher_low b p m l a = cond_both (is_higher p m) _ _ (LowProposal b) (λ _. l) (λ _. a.held)

  on_promise_slow : (j : ℕ) (v : View) (x : ℕ) (p : Proposal sv) (b : ℕ) (m : Mind sv) → LowProposal b p → Tops b m → Slow b m (on_promise j v x p m)
  unfolding on_promise
  on_promise_slow j v x p b m l a =
      cond_both (is_candidate m.agreement.role && eqb (rank v) (rank m.agreement.promised)) _ _ (Slow b m)
      (λ e. let h = higher_low b p m l a in then_flat b m _ elect (same b m (reported j x p m) [] refl (record { view = a.view; held = record { view = h.view; state = h.state } }) tt) elect_flat) (λ _. still_flat b m a)

  implied_flat : (p : Proposal sv) → Flat (implied p)
  unfolding implied
  implied_flat p b m a =
      cond_both (follows p m) _ _ (Slow b m) (λ _. cond_both (is_member m.agreement.role) _ _ (Slow b m) (λ _. learn_flat b m a) (λ _. cond_both (is_named (accepted m) m) _ _ (Slow b m) (λ _. enter_flat b m a) (λ _. still_flat b m a))) (λ _. still_flat b m a)

  take_or_not_slow : (j : ℕ) (p : Proposal sv) (c : Bool) (b : ℕ) (m : Mind sv) → LowProposal b p → Tops b m → Slow b m (take_or_not j p c m)
  unfolding take_or_not hold_or_not offered
  take_or_not_slow j p c b m l a =
      cond_both (is_member m.agreement.role) _ _ (Slow b m)
      (λ e. cond_both (is_late p m) _ _ (Slow b m) (λ _. says_flat _ _ b m a a.view) (λ _. cond_both (may_hold p m) _ _ (Slow b m) (λ _. hold_slow j p c b m l) (λ _. still_flat b m a)))
      (λ e. cond_both (is_named p m) _ _ (Slow b m) (λ _. cond_both (may_hold p m) _ _ (Slow b m) (λ _. cond_both c _ _ (Slow b m) (λ _. welcome_slow j p b m l) (λ _. same b m _ [] refl (record { view = a.view; held = record { view = l.view; state = l.state } }) tt)) (λ _. still_flat b m a)) (λ _. says_flat _ _ b m a tt))

  on_propose_slow : (j : ℕ) (p : Proposal sv) (c : Bool) (b : ℕ) (m : Mind sv) → LowProposal b p → Tops b m → Slow b m (on_propose j p c m)
  unfolding on_propose
  on_propose_slow j p c b m l a = cond_both (leads p.id.view m) _ _ (Slow b m) (λ _. still_flat b m a) (λ _. then_slow b b (omega arith) m _ (take_or_not j p c) (implied_flat p b m a) (take_or_not_slow j p c b _ l))

  on_alive_flat : (j : ℕ) (d : ProposalId) (c : Bool) (x : ℕ) → Flat (on_alive j d c x)
  unfolding on_alive alive_here alive_there
  on_alive_flat j d c x b m a =
      cond_both (is_member m.agreement.role) _ _ (Slow b m)
      (λ e. cond_both (is_stale d m) _ _ (Slow b m) (λ _. says_flat _ _ b m a a.view)
      (λ _. cond_both (leads d.view m) _ _ (Slow b m) (λ _. still_flat b m a)
      (λ _. cond_both (holds d m) _ _ (Slow b m) (λ _. hold_slow j (accepted m) c b m a.held) (λ _. cond_both (eqb (rank d.view) (rank m.agreement.promised)) _ _ (Slow b m) (λ _. same b m _ [] refl (record { view = a.view; held = a.held }) tt) (λ _. still_flat b m a)))))
      (λ _. cond_both (eqb x m.agreement.incarnation) _ _ (Slow b m) (λ _. cond_both (is_welcome d c m) _ _ (Slow b m) (λ _. welcome_slow j (accepted m) b m a.held) (λ _. still_flat b m a)) (λ _. says_flat _ _ b m a tt))

  on_accepted_rises : (j : ℕ) (d : ProposalId) (x : ℕ) → Rises (on_accepted j d x)
  unfolding on_accepted
  on_accepted_rises j d x b m a =
      cond_both (leads d.view m) _ _ (Slow (suc b) m)
      (λ e. then_rises b m _ settle (cond_both (holds d m && names j x (accepted m)) _ _ (λ (n : Mind sv). Slow b m (still n)) (λ _. same b m _ [] refl (record { view = a.view; held = a.held }) tt) (λ _. same b m _ [] refl (record { view = a.view; held = a.held }) tt)) settle_rises) (λ _. slow_more b m _ (still_flat b m a))

  on_join_rises : (j : ℕ) (q : Joining) → Rises (on_join j q)
  unfolding on_join
  on_join_rises j q b m a = cond_both (is_leader m.agreement.role && join_fits j q (accepted m)) _ _ (Slow (suc b) m) (λ _. then_rises b m _ serve (same b m _ [] refl (record { view = a.view; held = a.held }) tt) serve_rises) (λ _. slow_more b m _ (still_flat b m a))

  on_forward_rises : (j : ℕ) (q : Forwarded sv) → Rises (on_forward j q)
  unfolding on_forward
  on_forward_rises j q b m a =
      cond_both (is_leader m.agreement.role && names j q.incarnation (accepted m)) _ _ (Slow (suc b) m)
      (λ _. cond_both (eqb q.no (place_at (accepted m) j).no && m.agreement.chosen) _ _ (Slow (suc b) m) (λ _. slow_more b m _ (tell_flat j b m a))
      (λ _. cond_both (call_fits j q (accepted m)) _ _ (Slow (suc b) m) (λ _. then_rises b m _ serve (same b m _ [] refl (record { view = a.view; held = a.held }) tt) serve_rises) (λ _. slow_more b m _ (still_flat b m a)))) (λ _. slow_more b m _ (still_flat b m a))

  pub hears_slow : (j : ℕ) (w : Msg sv) (b : ℕ) (m : Mind sv) → LowWord b w → Tops b m → Slow (suc b) m (hears j w m)
  unfolding hears
  hears_slow j (Prepare v) b m l a = slow_more b m _ (on_prepare_slow j v b m l a)
  hears_slow j (Promise v x p) b m l a = slow_more b m _ (on_promise_slow j v x p b m l.1 a)
  hears_slow j (Propose p c) b m l a = slow_more b m _ (on_propose_slow j p c b m l a)
  hears_slow j (Alive d c x) b m l a = slow_more b m _ (on_alive_flat j d c x b m a)
  hears_slow j (Accepted d x) b m l a = on_accepted_rises j d x b m a
  hears_slow j (Join q) b m l a = on_join_rises j q b m a
  hears_slow j (Forward q) b m l a = on_forward_rises j q b m a

  say_again_flat : Flat say_again
  unfolding say_again
  say_again_flat b m a = cond_both (is_leader m.agreement.role) _ _ (Slow b m) (λ _. tell_all_flat b m a) (λ _. cond_both (is_candidate m.agreement.role) _ _ (Slow b m) (λ _. ask_all_flat b m a) (λ _. still_flat b m a))

  stand_or_not_rises : Rises stand_or_not
  unfolding stand_or_not
  stand_or_not_rises b m a =
      cond_both (is_member m.agreement.role && may_stand m) _ _ (Slow (suc b) m) (λ e. then_flat (suc b) m _ ask_all (same (suc b) m _ [] refl (record { view = omega (arith, a.view); held = low_more b (suc b) (omega arith) (accepted m) a.held }) tt) ask_all_flat)
      (λ _. cond_both (has_job m) _ _ (Slow (suc b) m) (λ _. serve_rises b m a) (λ _. slow_more b m _ (then_flat b m _ forward (say_again_flat b m a) forward_flat)))

  pub on_beat_slow : Rises on_beat
  unfolding on_beat
  on_beat_slow b m a = cond_both (is_member m.agreement.role) _ _ (Slow (suc b) m) (λ _. then_rises b m _ stand_or_not (same b m _ [] refl (record { view = a.view; held = a.held }) tt) stand_or_not_rises) (λ _. slow_more b m _ (still_flat b m a))

  -- A call comes in: it waits or is answered, and so are those that waited; one more waits or was answered
  pub record Came (b : ℕ) (t : Waiting sv) (m : Mind sv) (x : Turn sv) : Type 0 where
    pub tops : Tops b x.mind
    pub words : AllLow b x.does
    pub came : StillOrGiven x t
    pub kept : (u : Waiting sv) → Memᴰ u m.waiting → StillOrGiven x u
    pub sum : x.mind.agreement.no + length x.mind.waiting ≤ suc (m.agreement.no + length m.waiting)
    pub eight : length m.waiting ≤ 8 → length x.mind.waiting ≤ 8

  one_more : (xs : List (Waiting sv)) (t : Waiting sv) → length (xs ++ t ∷ []) ≡ suc (length xs)
  one_more [] t = refl
  one_more (x ∷ xs) t = ap suc (one_more xs t)

  came_by : (b : ℕ) (t : Waiting sv) (m : Mind sv) (x : Turn sv) → leb 8 (length m.waiting) ≡ false → Kept (comes_in t m) x.mind → Slow b (comes_in t m) x → Came b t m x
  came_by b t m x f k a =
      record { tops = a.tops; words = a.words; came = a.kept t (Memᴰ.append_right m.waiting (Memᴰ.head refl)); kept = λ u d. a.kept u (Memᴰ.append_left (t ∷ []) d); sum = omega (arith, k.2, one_more m.waiting t); eight = λ _. omega (arith, fewer_wait (comes_in t m) x.mind k, one_more m.waiting t, leb-false 8 (length m.waiting) f) }

  came_at_once : (b : ℕ) (t : Waiting sv) (r : sv.R) (m : Mind sv) → Tops b m → Came b t m (record { does = Gives t.number r ∷ []; mind = m })
  came_at_once b t r m a = record { tops = a; words = tt; came = inr (r, Memᴰ.head refl); kept = λ u d. inl d; sum = omega arith; eight = λ e. e }

  wait_or_not_came : (t : Waiting sv) (b : ℕ) (m : Mind sv) → Tops b m → Came (suc b) t m (wait_or_not t m)
  unfolding wait_or_not
  wait_or_not_came t b m a =
      cond_both (is_full m.waiting) _ _ (Came (suc b) t m) (λ _. came_at_once (suc b) t _ m (tops_more b (suc b) (omega arith) m a))
      (λ f. cond_both (eqb (length m.waiting) 0) _ _ (Came (suc b) t m)
      (λ _. came_by (suc b) t m _ f (then_has (comes_in t m) _ serve (then_has (comes_in t m) _ forward (refl, refl, refl, omega arith) forward_counts) serve_counts) (then_rises b (comes_in t m) _ serve (then_flat b (comes_in t m) _ forward (same b (comes_in t m) (comes_in t m) [] refl (record { view = a.view; held = a.held }) tt) forward_flat) serve_rises))
      (λ _. came_by (suc b) t m _ f (refl, refl, refl, omega arith) (slow_more b (comes_in t m) _ (same b (comes_in t m) (comes_in t m) [] refl (record { view = a.view; held = a.held }) tt))))

  quick_or_not_came : (o : Option sv.R) (t : Waiting sv) (b : ℕ) (m : Mind sv) → Tops b m → Came (suc b) t m (quick_or_not o t m)
  unfolding quick_or_not
  quick_or_not_came None t b m a = wait_or_not_came t b m a
  quick_or_not_came (Some r) t b m a = came_at_once (suc b) t r m (tops_more b (suc b) (omega arith) m a)

  pub on_call_came : (n : ℕ) (o : sv.O) (b : ℕ) (m : Mind sv) → Tops b m → Came (suc b) (record { number = n; call = o }) m (on_call n o m)
  on_call_came n o b m a = quick_or_not_came (sv.quick o) (record { number = n; call = o }) b m a
