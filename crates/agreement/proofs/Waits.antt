-- In every turn: only calls that wait are answered, the oldest first, each once, by what the clerk may say; a member stays one, and one that becomes a member says that it is whole.
use Rattle.std.proofs.Common.{◌≡◌, ℕ, zero, suc, Bool, true, false, cond, not, ◌&&◌, ◌||◌, eqb, ltb, ◌⊎◌, List, [], ◌∷◌, ◌++◌, length, get_or, set, Some, None, Option, sym, refl, ap, ◌∙◌, subst, inl, inr, ⊎_elim, arith}
use Rattle.std.proofs.lemmas.List.{nil_from_length}
use mathlib.Core.List.Memᴰ
use mathlib.Core.List.{Memᴰ}
use Rattle.std.proofs.lemmas.Bool.{cond_both, and_parts, and_from, eq-eqb, eqb-true, cases_Bool, true≢false, false≢true}
use Rattle.runs.specs.Replicas.{Does, Says, Gives, Whole', Waits, without, answered_off, whole}
use Rattle.agreement.specs.declared.View.{View}
use Rattle.agreement.specs.declared.ProposalId.{ProposalId}
use Rattle.agreement.specs.declared.Joining.{Joining}
use Rattle.agreement.specs.Content.{Service, Proposal, limit, rank, place_at, seven}
use Rattle.agreement.specs.Machine.{Msg, Prepare, Promise, Propose, Alive, Accepted, Join, Forward, is_member, is_candidate, is_leader, Forwarded, Waiting, Mind, accepted, names, counts, quorum, Turn, still, says, then_do, to_each, tell, tell_all, tell_done, forward_head, forward, may_answer, say_kept, reply_to, hands, answer_head, answer, learn, Job, DoCall, DoJoin, call_fits, join_fits, next_job, proposes, does, may_serve, serve, is_settled, settle, elect, takes_up, same_view, hold, welcome, enter, is_below, is_own, may_promise, is_mine, promise, on_prepare, on_promise, follows, is_named, implied, may_hold, is_late, hold_or_not, offered, take_or_not, leads, on_propose, holds, is_welcome, is_stale, alive_here, alive_there, on_alive, on_accepted, on_join, on_forward, is_full, comes_in, wait_or_not, quick_or_not, on_call, may_stand, ask_all, say_again, has_job, stand_or_not, on_beat, hears, job_of, with_job, with_joins, with_calls, with_patience, with_heard}
use Rattle.agreement.proofs.Changes.{leader_member, candidate_member}

abbrev pub Wait : (i n : ℕ) → Waits
Wait i n = record { house = i; number = n }

-- the calls that a replica has waiting can be taken off those that wait, one after the other
abbrev pub Match : {sv : Service} → ℕ → List (Waiting sv) → List Waits → Type 0
Match i [] ws = Unit {0}
Match i (t ∷ ts) ws = Memᴰ (Wait i t.number) ws × Match i ts (without i t.number ws)

-- each answer is to a call that waits, and not after another answer to it; P holds of each reply
abbrev pub Taken : {sv : Service} → ℕ → (sv.R → Type 0) → List (Does (Msg sv) sv.R) → List Waits → Type 0
Taken i P [] ws = Unit {0}
Taken i P (Says j w ∷ ds) ws = Taken i P ds ws
Taken i P (Gives n r ∷ ds) ws = Memᴰ (Wait i n) ws × P r × Taken i P ds (without i n ws)
Taken i P (Whole' ∷ ds) ws = Taken i P ds ws

pub record Fair {sv : Service} (i : ℕ) (P : sv.R → Type 0) (ws : List Waits) (m : Mind sv) (x : Turn sv) : Type 0 where
  pub gives : Taken i P x.does ws
  pub fit : Match i x.mind.waiting (answered_off i x.does ws)
  pub member : is_member m.agreement.role ≡ true → is_member x.mind.agreement.role ≡ true
  pub whole' : whole x.does ≡ true → is_member x.mind.agreement.role ≡ true
  pub entered : is_member m.agreement.role ≡ false → is_member x.mind.agreement.role ≡ true → whole x.does ≡ true

abbrev pub Fairly : {sv : Service} → ℕ → (sv.R → Type 0) → (Mind sv → Turn sv) → Type 0
Fairly {sv} i P f = (ws : List Waits) (m : Mind sv) → Match i m.waiting ws → Fair i P ws m (f m)

-- what may be said, where something is said
abbrev pub May : {R : Type 0} → (R → Type 0) → Option R → Type 0
May P None = Unit {0}
May P (Some r) = P r

-- it says something, and no more
abbrev pub Quiet : {sv : Service} → List (Does (Msg sv) sv.R) → Type 0
Quiet [] = Unit {0}
Quiet (Says j w ∷ ds) = Quiet ds
Quiet (Gives n r ∷ ds) = ⊥
Quiet (Whole' ∷ ds) = ⊥

pub without_in : (i n : ℕ) (a : Waits) (ws : List Waits) → Memᴰ a (without i n ws) → Memᴰ a ws
unfolding without
without_in i n a [] d = absurd (Memᴰ.not-nil d)
without_in i n a (b ∷ ws) d = cond_both (eqb i b.house && eqb n b.number) (without i n ws) (b ∷ without i n ws) (λ l. Memᴰ a l → Memᴰ a (b ∷ ws)) (λ _ z. Memᴰ.tail (without_in i n a ws z))
    (λ _ z. ⊎_elim (λ e. Memᴰ.head e) (λ r. Memᴰ.tail (without_in i n a ws r)) (Memᴰ.cases_cons z)) d

module _ {sv : Service} (i : ℕ) where
  off_append : (ds es : List (Does (Msg sv) sv.R)) (ws : List Waits) → answered_off i (ds ++ es) ws ≡ answered_off i es (answered_off i ds ws)
  unfolding answered_off
  off_append [] es ws = refl
  off_append (Says j w ∷ ds) es ws = off_append ds es ws
  off_append (Gives n r ∷ ds) es ws = off_append ds es (without i n ws)
  off_append (Whole' ∷ ds) es ws = off_append ds es ws

  pub off_in : (ds : List (Does (Msg sv) sv.R)) (a : Waits) (ws : List Waits) → Memᴰ a (answered_off i ds ws) → Memᴰ a ws
  unfolding answered_off
  off_in [] a ws d = d
  off_in (Says j w ∷ ds) a ws d = off_in ds a ws d
  off_in (Gives n r ∷ ds) a ws d = without_in i n a ws (off_in ds a (without i n ws) d)
  off_in (Whole' ∷ ds) a ws d = off_in ds a ws d

  whole_append : (ds es : List (Does (Msg sv) sv.R)) → whole (ds ++ es) ≡ true → (whole ds ≡ true) ⊎ (whole es ≡ true)
  unfolding whole
  whole_append [] es e = inr e
  whole_append (Says j w ∷ ds) es e = whole_append ds es e
  whole_append (Gives n r ∷ ds) es e = whole_append ds es e
  whole_append (Whole' ∷ ds) es e = inl refl

  quiet_off : (ds : List (Does (Msg sv) sv.R)) (ws : List Waits) → Quiet ds → answered_off i ds ws ≡ ws
  unfolding answered_off
  quiet_off [] ws q = refl
  quiet_off (Says j w ∷ ds) ws q = quiet_off ds ws q
  quiet_off (Gives n r ∷ ds) ws q = absurd q
  quiet_off (Whole' ∷ ds) ws q = absurd q

  quiet_whole : (ds : List (Does (Msg sv) sv.R)) → Quiet ds → whole ds ≡ true → ⊥
  unfolding whole
  quiet_whole [] q e = false≢true e
  quiet_whole (Says j w ∷ ds) q e = quiet_whole ds q e
  quiet_whole (Gives n r ∷ ds) q e = absurd q
  quiet_whole (Whole' ∷ ds) q e = absurd q

  quiet_taken : (P : sv.R → Type 0) (ds : List (Does (Msg sv) sv.R)) (ws : List Waits) → Quiet ds → Taken i P ds ws
  quiet_taken P [] ws q = tt
  quiet_taken P (Says j w ∷ ds) ws q = quiet_taken P ds ws q
  quiet_taken P (Gives n r ∷ ds) ws q = absurd q
  quiet_taken P (Whole' ∷ ds) ws q = absurd q

  taken_append : (P : sv.R → Type 0) (ds es : List (Does (Msg sv) sv.R)) (ws : List Waits) → Taken i P ds ws → Taken i P es (answered_off i ds ws) → Taken i P (ds ++ es) ws
  unfolding answered_off
  taken_append P [] es ws a b = b
  taken_append P (Says j w ∷ ds) es ws a b = taken_append P ds es ws a b
  taken_append P (Gives n r ∷ ds) es ws (d, p, a) b = (d, p, taken_append P ds es (without i n ws) a b)
  taken_append P (Whole' ∷ ds) es ws a b = taken_append P ds es ws a b

  -- what is answered waits
  pub taken_in : (P : sv.R → Type 0) (ds : List (Does (Msg sv) sv.R)) (ws : List Waits) → Taken i P ds ws → (q : ℕ) (r : sv.R) → Memᴰ (Gives q r) ds → Memᴰ (Wait i q) ws × P r
  taken_in P [] ws a q r d = absurd (Memᴰ.not-nil d)
  taken_in P (Says j w ∷ ds) ws a q r d = ⊎_elim (λ e. absurd (let z : ◌≡◌ {A = ℕ} 0 1 = cc in omega arith)) (λ z. taken_in P ds ws a q r z) (Memᴰ.cases_cons d)
  taken_in P (Gives n y ∷ ds) ws (b, p, a) q r d = ⊎_elim (λ e. let u : q ≡ n = cc in let w : r ≡ y = cc in rw (u, w) (b, p)) (λ z. let k = taken_in P ds (without i n ws) a q r z in (without_in i n _ ws k.0, k.1)) (Memᴰ.cases_cons d)
  taken_in P (Whole' ∷ ds) ws a q r d = ⊎_elim (λ e. absurd (let z : ◌≡◌ {A = ℕ} 0 1 = cc in omega arith)) (λ z. taken_in P ds ws a q r z) (Memᴰ.cases_cons d)

  whole_left : (ds es : List (Does (Msg sv) sv.R)) → whole ds ≡ true → whole (ds ++ es) ≡ true
  unfolding whole
  whole_left [] es e = absurd (false≢true e)
  whole_left (Says j w ∷ ds) es e = whole_left ds es e
  whole_left (Gives n r ∷ ds) es e = whole_left ds es e
  whole_left (Whole' ∷ ds) es e = refl

  whole_right : (ds es : List (Does (Msg sv) sv.R)) → whole es ≡ true → whole (ds ++ es) ≡ true
  unfolding whole
  whole_right [] es e = e
  whole_right (Says j w ∷ ds) es e = whole_right ds es e
  whole_right (Gives n r ∷ ds) es e = whole_right ds es e
  whole_right (Whole' ∷ ds) es e = refl

  quiet_append : (ds es : List (Does (Msg sv) sv.R)) → Quiet ds → Quiet es → Quiet (ds ++ es)
  quiet_append [] es a b = b
  quiet_append (Says j w ∷ ds) es a b = quiet_append ds es a b
  quiet_append (Gives n r ∷ ds) es a b = absurd a
  quiet_append (Whole' ∷ ds) es a b = absurd a

  quiet_each : (f : ℕ → List (Does (Msg sv) sv.R)) → ((j : ℕ) → Quiet (f j)) → (n : ℕ) → Quiet (to_each n f)
  unfolding to_each
  quiet_each f a zero = tt
  quiet_each f a (suc n) = quiet_append (to_each n f) (f n) (quiet_each f a n) (a n)

-- P: what may be said; the clerk's replies, and what is said of what was kept
module _ (sv : Service) (i : ℕ) (P : sv.R → Type 0) (pr : (o : sv.O) (s : sv.clerk.State) → P (sv.clerk.reply o s)) (ps : (o : sv.O) (k : sv.K) → P (sv.say o k)) where
  quietly : (ws : List Waits) (m n : Mind sv) (ds : List (Does (Msg sv) sv.R)) → Quiet ds → Match i n.waiting ws → is_member n.agreement.role ≡ is_member m.agreement.role → Fair i P ws m (record { does = ds; mind = n })
  quietly ws m n ds q w k = record { gives = quiet_taken i P ds ws q; fit = rw (quiet_off i ds ws q) w; member = λ e. k ∙ e; whole' = λ e. absurd (quiet_whole i ds q e); entered = λ o e. absurd (true≢false (sym e ∙ (k ∙ o))) }

  then_fair : (ws : List Waits) (m : Mind sv) (x : Turn sv) (f : Mind sv → Turn sv) → Fair i P ws m x → Fairly i P f → Fair i P ws m (then_do x f)
  unfolding then_do
  then_fair ws m x f a b = from (b (answered_off i x.does ws) x.mind a.fit)
    where
      from : Fair i P (answered_off i x.does ws) x.mind (f x.mind) → Fair i P ws m (record { does = x.does ++ (f x.mind).does; mind = (f x.mind).mind })
      from c =
          record {
            gives = taken_append i P x.does (f x.mind).does ws a.gives c.gives;
            fit = rw (off_append i x.does (f x.mind).does ws) c.fit;
            member = λ e. c.member (a.member e);
            whole' = λ e. ⊎_elim (λ z. c.member (a.whole' z)) (λ z. c.whole' z) (whole_append i x.does (f x.mind).does e);
            entered = λ o e. ⊎_elim (λ z. whole_left i x.does (f x.mind).does (a.entered o z)) (λ z. whole_right i x.does (f x.mind).does (c.entered z e)) (cases_Bool (is_member x.mind.agreement.role));
          }

  still_fair : Fairly {sv = sv} i P still
  still_fair ws m w = quietly ws m m [] tt w refl

  says_fair : (j : ℕ) (x : Msg sv) → Fairly {sv = sv} i P (says j x)
  says_fair j x ws m w = quietly ws m m (Says j x ∷ []) tt w refl

  tell_fair : (j : ℕ) → Fairly {sv = sv} i P (tell j)
  unfolding tell
  tell_fair j ws m w = cond_both (eqb j m.agreement.me) _ _ (Fair i P ws m) (λ _. still_fair ws m w) (λ _. says_fair j _ ws m w)

  tell_done_fair : (o : Option ℕ) → Fairly {sv = sv} i P (tell_done o)
  unfolding tell_done
  tell_done_fair None ws m w = still_fair ws m w
  tell_done_fair (Some j) ws m w = cond_both (eqb j m.agreement.me) _ _ (Fair i P ws m) (λ _. still_fair ws m w) (λ _. says_fair j _ ws m w)

  tell_all_fair : Fairly {sv = sv} i P tell_all
  unfolding tell_all
  tell_all_fair ws m w = quietly ws m m _ (quiet_each i _ (λ j. cond_both (eqb j m.agreement.me) _ _ Quiet (λ _. tt) (λ _. tt)) m.agreement.all) w refl

  ask_all_fair : Fairly {sv = sv} i P ask_all
  unfolding ask_all
  ask_all_fair ws m w = quietly ws m m _ (quiet_each i _ (λ j. cond_both (eqb j m.agreement.me || counts m.agreement.votes m.agreement.places j) _ _ Quiet (λ _. tt) (λ _. tt)) m.agreement.all) w refl

  forward_head_fair : (ts : List (Waiting sv)) → Fairly {sv = sv} i P (forward_head ts)
  unfolding forward_head
  forward_head_fair [] ws m w = still_fair ws m w
  forward_head_fair (t ∷ ts) ws m w =
      cond_both (is_member m.agreement.role && ltb (suc m.agreement.no) limit) _ _ (Fair i P ws m) (λ _. cond_both (eqb m.agreement.promised.leader m.agreement.me) _ _ (Fair i P ws m) (λ _. still_fair ws m w) (λ _. says_fair _ _ ws m w)) (λ _. still_fair ws m w)

  forward_fair : Fairly {sv = sv} i P forward
  forward_fair ws m w = forward_head_fair m.waiting ws m w

  -- an answer is given to the oldest, by what may be said
  hands_fair : (t : Waiting sv) (ts : List (Waiting sv)) (o : Option sv.R) → May P o → (ws : List Waits) (m : Mind sv) → m.waiting ≡ t ∷ ts → Match i (t ∷ ts) ws → Fair i P ws m (hands t.number ts o m)
  unfolding hands answered_off whole
  hands_fair t ts None may ws m e w = still_fair ws m (rw e w)
  hands_fair t ts (Some r) may ws m e w = then_fair ws m _ forward (record { gives = (w.0, may, tt); fit = w.1; member = λ k. k; whole' = λ k. absurd (false≢true k); entered = λ o k. absurd (true≢false (sym k ∙ o)) }) forward_fair

  kept_may : (o : sv.O) (k : Option sv.K) → May P (say_kept sv o k)
  kept_may o None = tt
  kept_may o (Some k) = ps o k

  reply_may : (o : sv.O) (m : Mind sv) → May P (reply_to o m)
  reply_may o m = cond_both (sv.is_read o) _ _ (May P) (λ _. pr o m.state) (λ _. kept_may o (get_or m.outcomes m.agreement.me None))

  answer_head_fair : (ts : List (Waiting sv)) (ws : List Waits) (m : Mind sv) → m.waiting ≡ ts → Match i ts ws → Fair i P ws m (answer_head ts m)
  unfolding answer_head
  answer_head_fair [] ws m e w = still_fair ws m (rw e w)
  answer_head_fair (t ∷ ts) ws m e w = cond_both (may_answer m) _ _ (Fair i P ws m) (λ _. hands_fair t ts (reply_to t.call m) (reply_may t.call m) ws m e w) (λ _. still_fair ws m (rw e w))

  answer_fair : Fairly {sv = sv} i P answer
  answer_fair ws m w = answer_head_fair m.waiting ws m refl w

  -- n is the mind m, changed in what is not said of here
  proposes_fair : (p : Proposal sv) (ws : List Waits) (m n : Mind sv) → is_member m.agreement.role ≡ true → Match i n.waiting ws → Fair i P ws m (proposes p n)
  proposes_fair p ws m n e w = then_fair ws m _ answer (then_fair ws m _ tell_all (quietly ws m _ [] tt w (sym e)) tell_all_fair) answer_fair

  does_fair : (o : Option (Job sv)) (ws : List Waits) (m : Mind sv) → is_member m.agreement.role ≡ true → Match i m.waiting ws → Fair i P ws m (does o m)
  unfolding does
  does_fair None ws m e w = still_fair ws m w
  does_fair (Some (DoCall j a)) ws m e w = proposes_fair _ ws m (with_calls (set m.calls j None) (job_of j m)) e w
  does_fair (Some (DoJoin j a)) ws m e w = proposes_fair _ ws m (with_joins (set m.agreement.joins j None) (job_of j m)) e w

  serve_fair : Fairly {sv = sv} i P serve
  unfolding serve
  serve_fair ws m w =
      cond_both (may_serve m) _ _ (Fair i P ws m) (λ e. does_fair (next_job m) ws m (leader_member m.agreement.role (and_parts _ _ e).0) w) (λ _. still_fair ws m w)

  learn_fair : Fairly {sv = sv} i P learn
  learn_fair ws m w = then_fair ws m _ answer (quietly ws m _ [] tt w refl) answer_fair

  settle_fair : Fairly {sv = sv} i P settle
  unfolding settle
  settle_fair ws m w =
      cond_both (is_leader m.agreement.role && is_settled m) _ _ (Fair i P ws m)
      (λ _. then_fair ws m _ serve (then_fair ws m _ answer (then_fair ws m _ (λ n. tell_done n.agreement.job n) (quietly ws m _ [] tt w refl) (λ vs n u. tell_done_fair n.agreement.job vs n u)) answer_fair) serve_fair) (λ _. still_fair ws m w)

  elect_fair : Fairly {sv = sv} i P elect
  unfolding elect
  elect_fair ws m w =
      cond_both (is_candidate m.agreement.role && quorum m.agreement.all m.agreement.places m.agreement.votes) _ _ (Fair i P ws m) (λ e. proposes_fair _ ws m (with_job None m.agreement.turn (with_patience 6 (with_heard (seven false) m))) (candidate_member m.agreement.role (and_parts _ _ e).0) w) (λ _. still_fair ws m w)

  hold_fair : (j : ℕ) (p : Proposal sv) (c : Bool) (ws : List Waits) (m : Mind sv) → is_member m.agreement.role ≡ true → Match i m.waiting ws → Fair i P ws m (hold j p c m)
  hold_fair j p c ws m e w =
      then_fair ws m _ answer (then_fair ws m _ (cond (same_view p m) still forward) (quietly ws m (takes_up p c m) (Says j _ ∷ []) tt w (sym e)) (cond_both (same_view p m) still forward (Fairly i P) (λ _. still_fair) (λ _. forward_fair))) answer_fair

  -- one that recovers becomes a member, and says that it is whole
  whole_fair : (ds : List (Does (Msg sv) sv.R)) (ws : List Waits) (m n : Mind sv) → Quiet ds → is_member n.agreement.role ≡ true → Match i n.waiting ws → Fair i P ws m (record { does = Whole' ∷ ds; mind = n })
  unfolding whole answered_off
  whole_fair ds ws m n q k w = record { gives = quiet_taken i P ds ws q; fit = rw (quiet_off i ds ws q) w; member = λ _. k; whole' = λ _. k; entered = λ _ _. refl }

  welcome_fair : (j : ℕ) (p : Proposal sv) → Fairly {sv = sv} i P (welcome j p)
  welcome_fair j p ws m w = then_fair ws m _ forward (whole_fair (Says j _ ∷ []) ws m (takes_up p true m) tt refl w) forward_fair

  enter_fair : Fairly {sv = sv} i P enter
  enter_fair ws m w = then_fair ws m _ forward (whole_fair [] ws m _ tt refl w) forward_fair

  on_prepare_fair : (j : ℕ) (v : View) → Fairly {sv = sv} i P (on_prepare j v)
  unfolding on_prepare
  on_prepare_fair j v ws m w =
      cond_both (is_member m.agreement.role && not (is_own v m)) _ _ (Fair i P ws m)
      (λ e. cond_both (is_below v m) _ _ (Fair i P ws m) (λ _. says_fair _ _ ws m w)
      (λ _. cond_both (may_promise v m) _ _ (Fair i P ws m) (λ _. quietly ws m (promise v m).mind (promise v m).does (cond_both (is_mine v m) _ _ Quiet (λ _. tt) (λ _. tt)) w (sym (and_parts _ _ e).0)) (λ _. still_fair ws m w)))
      (λ _. still_fair ws m w)

  on_promise_fair : (j : ℕ) (v : View) (x : ℕ) (p : Proposal sv) → Fairly {sv = sv} i P (on_promise j v x p)
  unfolding on_promise
  on_promise_fair j v x p ws m w =
      cond_both (is_candidate m.agreement.role && eqb (rank v) (rank m.agreement.promised)) _ _ (Fair i P ws m) (λ e. then_fair ws m _ elect (quietly ws m _ [] tt w (sym (candidate_member m.agreement.role (and_parts _ _ e).0))) elect_fair) (λ _. still_fair ws m w)

  implied_fair : (p : Proposal sv) → Fairly {sv = sv} i P (implied p)
  unfolding implied
  implied_fair p ws m w =
      cond_both (follows p m) _ _ (Fair i P ws m) (λ _. cond_both (is_member m.agreement.role) _ _ (Fair i P ws m) (λ _. learn_fair ws m w) (λ _. cond_both (is_named (accepted m) m) _ _ (Fair i P ws m) (λ _. enter_fair ws m w) (λ _. still_fair ws m w))) (λ _. still_fair ws m w)

  take_or_not_fair : (j : ℕ) (p : Proposal sv) (c : Bool) → Fairly {sv = sv} i P (take_or_not j p c)
  unfolding take_or_not hold_or_not offered
  take_or_not_fair j p c ws m w =
      cond_both (is_member m.agreement.role) _ _ (Fair i P ws m)
      (λ e. cond_both (is_late p m) _ _ (Fair i P ws m) (λ _. says_fair _ _ ws m w) (λ _. cond_both (may_hold p m) _ _ (Fair i P ws m) (λ _. hold_fair j p c ws m e w) (λ _. still_fair ws m w)))
      (λ e. cond_both (is_named p m) _ _ (Fair i P ws m) (λ _. cond_both (may_hold p m) _ _ (Fair i P ws m) (λ _. cond_both c _ _ (Fair i P ws m) (λ _. welcome_fair j p ws m w) (λ _. quietly ws m _ [] tt w (sym e))) (λ _. still_fair ws m w)) (λ _. says_fair _ _ ws m w))

  on_propose_fair : (j : ℕ) (p : Proposal sv) (c : Bool) → Fairly {sv = sv} i P (on_propose j p c)
  unfolding on_propose
  on_propose_fair j p c ws m w = cond_both (leads p.id.view m) _ _ (Fair i P ws m) (λ _. still_fair ws m w) (λ _. then_fair ws m _ (take_or_not j p c) (implied_fair p ws m w) (take_or_not_fair j p c))

  on_alive_fair : (j : ℕ) (d : ProposalId) (c : Bool) (x : ℕ) → Fairly {sv = sv} i P (on_alive j d c x)
  unfolding on_alive alive_here alive_there
  on_alive_fair j d c x ws m w =
      cond_both (is_member m.agreement.role) _ _ (Fair i P ws m)
      (λ e. cond_both (is_stale d m) _ _ (Fair i P ws m) (λ _. says_fair _ _ ws m w)
      (λ _. cond_both (leads d.view m) _ _ (Fair i P ws m) (λ _. still_fair ws m w)
      (λ _. cond_both (holds d m) _ _ (Fair i P ws m) (λ _. hold_fair j (accepted m) c ws m e w) (λ _. cond_both (eqb (rank d.view) (rank m.agreement.promised)) _ _ (Fair i P ws m) (λ _. quietly ws m _ [] tt w refl) (λ _. still_fair ws m w)))))
      (λ _. cond_both (eqb x m.agreement.incarnation) _ _ (Fair i P ws m) (λ _. cond_both (is_welcome d c m) _ _ (Fair i P ws m) (λ _. welcome_fair j (accepted m) ws m w) (λ _. still_fair ws m w)) (λ _. says_fair _ _ ws m w))

  on_accepted_fair : (j : ℕ) (d : ProposalId) (x : ℕ) → Fairly {sv = sv} i P (on_accepted j d x)
  unfolding on_accepted
  on_accepted_fair j d x ws m w =
      cond_both (leads d.view m) _ _ (Fair i P ws m)
      (λ e. then_fair ws m _ settle (cond_both (holds d m && names j x (accepted m)) _ _ (λ (n : Mind sv). Fair i P ws m (still n)) (λ _. quietly ws m _ [] tt w (sym (leader_member m.agreement.role (and_parts _ _ e).0))) (λ _. quietly ws m _ [] tt w refl)) settle_fair) (λ _. still_fair ws m w)

  on_join_fair : (j : ℕ) (q : Joining) → Fairly {sv = sv} i P (on_join j q)
  unfolding on_join
  on_join_fair j q ws m w = cond_both (is_leader m.agreement.role && join_fits j q (accepted m)) _ _ (Fair i P ws m) (λ _. then_fair ws m _ serve (quietly ws m _ [] tt w refl) serve_fair) (λ _. still_fair ws m w)

  on_forward_fair : (j : ℕ) (a : Forwarded sv) → Fairly {sv = sv} i P (on_forward j a)
  unfolding on_forward
  on_forward_fair j a ws m w =
      cond_both (is_leader m.agreement.role && names j a.incarnation (accepted m)) _ _ (Fair i P ws m)
      (λ _. cond_both (eqb a.no (place_at (accepted m) j).no && m.agreement.chosen) _ _ (Fair i P ws m) (λ _. tell_fair j ws m w)
      (λ _. cond_both (call_fits j a (accepted m)) _ _ (Fair i P ws m) (λ _. then_fair ws m _ serve (quietly ws m _ [] tt w refl) serve_fair) (λ _. still_fair ws m w))) (λ _. still_fair ws m w)

  pub hears_fair : (j : ℕ) (x : Msg sv) → Fairly {sv = sv} i P (hears j x)
  unfolding hears
  hears_fair j (Prepare v) ws m w = on_prepare_fair j v ws m w
  hears_fair j (Promise v x p) ws m w = on_promise_fair j v x p ws m w
  hears_fair j (Propose p c) ws m w = on_propose_fair j p c ws m w
  hears_fair j (Alive d c x) ws m w = on_alive_fair j d c x ws m w
  hears_fair j (Accepted d x) ws m w = on_accepted_fair j d x ws m w
  hears_fair j (Join q) ws m w = on_join_fair j q ws m w
  hears_fair j (Forward a) ws m w = on_forward_fair j a ws m w

  say_again_fair : Fairly {sv = sv} i P say_again
  unfolding say_again
  say_again_fair ws m w = cond_both (is_leader m.agreement.role) _ _ (Fair i P ws m) (λ _. tell_all_fair ws m w) (λ _. cond_both (is_candidate m.agreement.role) _ _ (Fair i P ws m) (λ _. ask_all_fair ws m w) (λ _. still_fair ws m w))

  stand_or_not_fair : Fairly {sv = sv} i P stand_or_not
  unfolding stand_or_not
  stand_or_not_fair ws m w =
      cond_both (is_member m.agreement.role && may_stand m) _ _ (Fair i P ws m) (λ e. then_fair ws m _ ask_all (quietly ws m _ [] tt w (sym (and_parts _ _ e).0)) ask_all_fair)
      (λ _. cond_both (has_job m) _ _ (Fair i P ws m) (λ _. serve_fair ws m w) (λ _. then_fair ws m _ forward (say_again_fair ws m w) forward_fair))

  pub on_beat_fair : Fairly {sv = sv} i P on_beat
  unfolding on_beat
  on_beat_fair ws m w = cond_both (is_member m.agreement.role) _ _ (Fair i P ws m) (λ _. then_fair ws m _ stand_or_not (quietly ws m _ [] tt w refl) stand_or_not_fair) (λ _. still_fair ws m w)

  -- the oldest call is taken up
  pub starts_fair : (t : Waiting sv) (ws : List Waits) (m : Mind sv) → Match i (m.waiting ++ t ∷ []) ws → Fair i P ws m (then_do (then_do (still (comes_in t m)) forward) serve)
  starts_fair t ws m w = then_fair ws m _ serve (then_fair ws m _ forward (quietly ws m (comes_in t m) [] tt w refl) forward_fair) serve_fair

pub kept_in : (i t j n : ℕ) → (j ≡ i → n ≡ t → ⊥) → (ws : List Waits) → Memᴰ (Wait j n) ws → Memᴰ (Wait j n) (without i t ws)
unfolding without
kept_in i t j n no' [] d = absurd (Memᴰ.not-nil d)
kept_in i t j n no' (b ∷ ws) d =
    cond_both (eqb i b.house && eqb t b.number) (without i t ws) (b ∷ without i t ws) (Memᴰ (Wait j n)) (λ e. go (and_parts (eqb i b.house) (eqb t b.number) e) (kept_in i t j n no' ws) (Memᴰ.cases_cons d)) (λ _. on (kept_in i t j n no' ws) (Memᴰ.cases_cons d))
  where
    go : (eqb i b.house ≡ true) × (eqb t b.number ≡ true) → (Memᴰ (Wait j n) ws → Memᴰ (Wait j n) (without i t ws)) → (Wait j n ≡ b) ⊎ Memᴰ (Wait j n) ws → Memᴰ (Wait j n) (without i t ws)
    go k ih (inl e) = absurd (no' (ap (λ (a : Waits). a.house) e ∙ sym (eqb-true _ _ k.0)) (ap (λ (a : Waits). a.number) e ∙ sym (eqb-true _ _ k.1)))
    go k ih (inr r) = ih r

    on : (Memᴰ (Wait j n) ws → Memᴰ (Wait j n) (without i t ws)) → (Wait j n ≡ b) ⊎ Memᴰ (Wait j n) ws → Memᴰ (Wait j n) (b ∷ without i t ws)
    on ih (inl e) = Memᴰ.head e
    on ih (inr r) = Memᴰ.tail (ih r)

pub gone_from : (j t n : ℕ) → n ≡ t → (ws : List Waits) → Memᴰ (Wait j n) (without j t ws) → ⊥
unfolding without
gone_from j t n e [] d = Memᴰ.not-nil d
gone_from j t n e (b ∷ ws) d =
    cond_both (eqb j b.house && eqb t b.number) (without j t ws) (b ∷ without j t ws) (λ l. Memᴰ (Wait j n) l → ⊥) (λ _. gone_from j t n e ws)
    (λ f z. ⊎_elim (λ q. go f (ap (λ (a : Waits). a.house) q) (ap (λ (a : Waits). a.number) q)) (λ r. gone_from j t n e ws r) (Memᴰ.cases_cons z)) d
  where
    go : (eqb j b.house && eqb t b.number) ≡ false → j ≡ b.house → n ≡ b.number → ⊥
    go f a c = true≢false (sym (and_from _ _ (eq-eqb j b.house a) (eq-eqb t b.number (sym e ∙ c))) ∙ f)

pub match_more : {sv : Service} (j : ℕ) (ts : List (Waiting sv)) (ws vs : List Waits) → ((n : ℕ) → Memᴰ (Wait j n) ws → Memᴰ (Wait j n) vs) → Match j ts ws → Match j ts vs
match_more j [] ws vs f w = tt
match_more j (t ∷ ts) ws vs f w =
    (f t.number w.0, match_more j ts (without j t.number ws) (without j t.number vs) (λ n d. kept_in j t.number j n (λ _ e. gone_from j t.number n e ws d) vs (f n (without_in j t.number _ ws d))) w.1)

-- a call comes in
match_last : {sv : Service} (i : ℕ) (ts : List (Waiting sv)) (t : Waiting sv) (ws : List Waits) → (Memᴰ (Wait i t.number) ws → ⊥) → Match i ts ws → Match i (ts ++ t ∷ []) (Wait i t.number ∷ ws)
match_last i [] t ws new w = (Memᴰ.head refl, tt)
match_last i (u ∷ ts) t ws new w =
    (Memᴰ.tail w.0, match_more i (ts ++ t ∷ []) (Wait i t.number ∷ without i u.number ws) (without i u.number (Wait i t.number ∷ ws)) (λ n d. go n (Memᴰ.cases_cons d)) (match_last i ts t (without i u.number ws) (λ d. new (without_in i u.number _ ws d)) w.1))
  where
    go : (n : ℕ) → (Wait i n ≡ Wait i t.number) ⊎ Memᴰ (Wait i n) (without i u.number ws) → Memᴰ (Wait i n) (without i u.number (Wait i t.number ∷ ws))
    go n (inl e) = kept_in i u.number i n (λ _ q. new (subst (λ (z : ℕ). Memᴰ (Wait i z) ws) (sym q ∙ ap (λ (a : Waits). a.number) e) w.0)) (Wait i t.number ∷ ws) (Memᴰ.head e)
    go n (inr d) = kept_in i u.number i n (λ _ q. gone_from i u.number n q ws d) (Wait i t.number ∷ ws) (Memᴰ.tail (without_in i u.number _ ws d))

-- a call comes in: it is answered at once, by anything that may be said; or handed back; or it waits
module _ {sv : Service} (i : ℕ) where
  -- it is answered at once
  at_once : (n : ℕ) (r : sv.R) (ws : List Waits) (m : Mind sv) → Match i m.waiting ws → (Memᴰ (Wait i n) ws → ⊥) → Fair i (λ _. Unit {0}) (Wait i n ∷ ws) m (record { does = Gives n r ∷ []; mind = m })
  unfolding answered_off whole
  at_once n r ws m w new =
      record {
        gives = (Memᴰ.head refl, tt, tt);
        fit = match_more i m.waiting ws (without i n (Wait i n ∷ ws)) (λ x d. kept_in i n i x (λ _ e. new (subst (λ (z : ℕ). Memᴰ (Wait i z) ws) e d)) (Wait i n ∷ ws) (Memᴰ.tail d)) w;
        member = λ e. e;
        whole' = λ e. absurd (false≢true e);
        entered = λ o e. absurd (true≢false (sym e ∙ o));
      }

  wait_or_not_fair : (t : Waiting sv) (ws : List Waits) (m : Mind sv) → Match i m.waiting ws → (Memᴰ (Wait i t.number) ws → ⊥) → Fair i (λ _. Unit {0}) (Wait i t.number ∷ ws) m (wait_or_not t m)
  unfolding wait_or_not
  wait_or_not_fair t ws m w new =
      cond_both (is_full m.waiting) _ _ (Fair i (λ _. Unit {0}) (Wait i t.number ∷ ws) m) (λ _. at_once t.number _ ws m w new)
      (λ _. cond_both (eqb (length m.waiting) 0) _ _ (Fair i (λ _. Unit {0}) (Wait i t.number ∷ ws) m) (λ _. starts_fair sv i (λ _. Unit {0}) (λ o s. tt) (λ o k. tt) t (Wait i t.number ∷ ws) m last)
      (λ _. quietly sv i (λ _. Unit {0}) (λ o s. tt) (λ o k. tt) (Wait i t.number ∷ ws) m _ [] tt last refl))
    where
      last : Match i (m.waiting ++ t ∷ []) (Wait i t.number ∷ ws)
      last = match_last i m.waiting t ws new w

  quick_or_not_fair : (o : Option sv.R) (t : Waiting sv) (ws : List Waits) (m : Mind sv) → Match i m.waiting ws → (Memᴰ (Wait i t.number) ws → ⊥) → Fair i (λ _. Unit {0}) (Wait i t.number ∷ ws) m (quick_or_not o t m)
  unfolding quick_or_not
  quick_or_not_fair None t ws m w new = wait_or_not_fair t ws m w new
  quick_or_not_fair (Some r) t ws m w new = at_once t.number r ws m w new

  pub on_call_fair : (n : ℕ) (o : sv.O) (ws : List Waits) (m : Mind sv) → Match i m.waiting ws → (Memᴰ (Wait i n) ws → ⊥) → Fair i (λ _. Unit {0}) (Wait i n ∷ ws) m (on_call n o m)
  on_call_fair n o ws m w new = quick_or_not_fair (sv.quick o) (record { number = n; call = o }) ws m w new

-- alone among those that wait
only : (i n q : ℕ) → Memᴰ (Wait i q) (Wait i n ∷ []) → q ≡ n
only i n q d = ⊎_elim (λ e. ap (λ (a : Waits). a.number) e) (λ z. absurd (Memᴰ.not-nil z)) (Memᴰ.cases_cons d)

-- whatever is answered when a call comes in is that call, by what may be said, unless eight wait
module _ (sv : Service) (i : ℕ) (P : sv.R → Type 0) (pr : (o : sv.O) (s : sv.clerk.State) → P (sv.clerk.reply o s)) (ps : (o : sv.O) (k : sv.K) → P (sv.say o k)) where
  abbrev GivesOnly : ℕ → Bool → Turn sv → Type 0
  GivesOnly n full x = (q : ℕ) (r : sv.R) → Memᴰ (Gives q r) x.does → (q ≡ n) × ((full ≡ true) ⊎ P r)

  one_gives : (n : ℕ) (r : sv.R) (full : Bool) (m : Mind sv) → (full ≡ true) ⊎ P r → GivesOnly n full (record { does = Gives n r ∷ []; mind = m })
  one_gives n r full m b q y d = ⊎_elim (λ z. let e : q ≡ n = cc in let u : y ≡ r = cc in (e, rw u b)) (λ z. absurd (Memᴰ.not-nil z)) (Memᴰ.cases_cons d)

  wait_or_not_gives : (t : Waiting sv) (m : Mind sv) → GivesOnly t.number (is_full m.waiting) (wait_or_not t m)
  unfolding wait_or_not
  wait_or_not_gives t m =
      cond_both (is_full m.waiting) _ _ (GivesOnly t.number (is_full m.waiting)) (λ e. one_gives t.number _ (is_full m.waiting) m (inl e))
      (λ _. cond_both (eqb (length m.waiting) 0) _ _ (GivesOnly t.number (is_full m.waiting))
      (λ e q r d. let k = taken_in i P _ _ (starts_fair sv i P pr ps t (Wait i t.number ∷ []) m (rw (nil_from_length m.waiting (eqb-true _ _ e)) (Memᴰ.head refl, tt))).gives q r d in (only i t.number q k.0, inr k.1)) (λ _ q r d. absurd (Memᴰ.not-nil d)))

  quick_or_not_gives : (o : Option sv.R) → May P o → (t : Waiting sv) (m : Mind sv) → GivesOnly t.number (is_full m.waiting) (quick_or_not o t m)
  unfolding quick_or_not
  quick_or_not_gives None k t m = wait_or_not_gives t m
  quick_or_not_gives (Some r) k t m = one_gives t.number r (is_full m.waiting) m (inr k)

  pub on_call_gives : (n : ℕ) (o : sv.O) → May P (sv.quick o) → (m : Mind sv) → GivesOnly n (is_full m.waiting) (on_call n o m)
  on_call_gives n o k m = quick_or_not_gives (sv.quick o) k (record { number = n; call = o }) m
