-- ONE CALL AHEAD: whatever is held, queued or said counts or asks for at most one call more of a replica than that replica answered. Here for a turn of one replica; G j y k says that k is at most the next call of the incarnation y at the replica j.
-- What a turn holds, queues and says comes from what was held, queued and heard, from a join, which counts no call, or from the own oldest call, which is the next one.
use Rattle.std.proofs.Common.{◌≡◌, ℕ, zero, suc, ◌≤◌, Bool, true, false, cond, not, ◌&&◌, ◌||◌, eqb, ltb, List, [], ◌∷◌, ◌++◌, length, get_or, set, is_some, Some, None, Option, sym, refl, ◌∙◌, subst, ⊎_elim, arith}
use Rattle.std.proofs.lemmas.Option.{none-some, same_Some}
use Rattle.std.specs.Option.{option_or}
use Rattle.std.proofs.lemmas.Bool.{cond_both, and_parts, eqb-true}
use Rattle.runs.specs.Replicas.{Does, Says, Gives, Whole'}
use Rattle.agreement.specs.declared.ProposalId.{ProposalId}
use Rattle.agreement.specs.declared.Joining.{Joining}
use Rattle.agreement.specs.Content.{Service, Proposal, limit, rank, place_at, roster, fresh_place, seven, called, joined}
use Rattle.agreement.specs.Machine.{Msg, Prepare, Promise, Propose, Alive, Accepted, Join, Forward, is_member, is_candidate, is_leader, Forwarded, Waiting, Mind, accepted, content_of, names, counts, quorum, Turn, still, says, then_do, to_each, word_to, tell, tell_all, tell_done, forward_head, forward, may_answer, reply_to, hands, answer_head, answer, learned, Job, DoCall, DoJoin, call_fits, join_fits, call_job, join_job, after, first_from, own_head, join_at, call_at, first_of, next_job, proposes, copy_in, making, next_of, job_of, with_job, with_joins, with_calls, with_patience, with_heard, does, may_serve, serve, is_settled, settle, elect, is_higher, higher, reported, same_view, takes_up, hold, welcome, entering, anew, is_below, is_own, may_promise, is_mine, on_prepare, on_promise, follows, is_named, implied, may_hold, is_late, hold_or_not, offered, take_or_not, leads, on_propose, holds, is_welcome, is_stale, alive_here, alive_there, on_alive, count_vote, on_accepted, on_join, on_forward, is_full, comes_in, wait_or_not, quick_or_not, may_stand, ask_all, standing, own_view, without_jobs, say_again, has_job, stand_or_not, ticks, on_beat, hears}
use Rattle.agreement.proofs.Seven.{get_seven}
use Rattle.agreement.proofs.Changes.{set_is, cleared_is}
use Rattle.agreement.proofs.Jobs.{set_place, called_places}
use Rattle.agreement.proofs.CameIn.{Counts, forward_counts, answer_counts, tell_all_counts, ask_all_counts, tell_done_counts, serve_counts, settle_counts, elect_counts, take_or_not_counts, implied_counts, say_again_counts, stand_or_not_counts}

module _ {sv : Service} (G : ℕ → ℕ → ℕ → Type 0) where
  -- of a proposal, of a message of the replica j, of all that j says, and of a mind
  abbrev pub NextAt : Proposal sv → Type 0
  NextAt p = (j : ℕ) → G j (roster p j) (place_at p j).no

  abbrev pub NextIn : (by : ℕ) → Msg sv → Type 0
  NextIn j (Prepare v) = Unit {0}
  NextIn j (Promise v x p) = NextAt p
  NextIn j (Propose p c) = NextAt p
  NextIn j (Alive d c x) = Unit {0}
  NextIn j (Accepted d x) = Unit {0}
  NextIn j (Join q) = Unit {0}
  NextIn j (Forward a) = G j a.incarnation a.no

  abbrev pub NextSaid : (by : ℕ) → List (Does (Msg sv) sv.R) → Type 0
  NextSaid j [] = Unit {0}
  NextSaid j (Says k w ∷ ds) = NextIn j w × NextSaid j ds
  NextSaid j (Gives n r ∷ ds) = NextSaid j ds
  NextSaid j (Whole' ∷ ds) = NextSaid j ds

  abbrev pub NextCalls : List (Option (Forwarded sv)) → Type 0
  NextCalls cs = (j : ℕ) (a : Forwarded sv) → get_or cs j None ≡ Some a → G j a.incarnation a.no

  abbrev pub NextOf : Mind sv → Type 0
  NextOf m = NextAt (accepted m) × NextCalls m.calls

  said_append : (j : ℕ) (ds es : List (Does (Msg sv) sv.R)) → NextSaid j ds → NextSaid j es → NextSaid j (ds ++ es)
  said_append j [] es a b = b
  said_append j (Says k w ∷ ds) es (c, a) b = (c, said_append j ds es a b)
  said_append j (Gives n r ∷ ds) es a b = said_append j ds es a b
  said_append j (Whole' ∷ ds) es a b = said_append j ds es a b

  said_each : (j : ℕ) (f : ℕ → List (Does (Msg sv) sv.R)) → ((k : ℕ) → NextSaid j (f k)) → (n : ℕ) → NextSaid j (to_each {sv = sv} n f)
  unfolding to_each
  said_each j f a zero = tt
  said_each j f a (suc n) = said_append j (to_each {sv = sv} n f) (f n) (said_each j f a n) (a n)

  no_calls : NextCalls (seven None)
  no_calls j a e = absurd (none-some _ (sym (get_seven None j) ∙ e))

  cleared_calls : (cs : List (Option (Forwarded sv))) (k : ℕ) → NextCalls cs → NextCalls (set cs k None)
  cleared_calls cs k c j a e = c j a (cleared_is cs k j a e)

  -- A TURN of the replica i as the incarnation y, after which N calls were answered
  module _ (none : (j x : ℕ) → G j x 0) (i y N : ℕ) (own : (n : ℕ) → n ≤ N → G i y (suc n)) where
    abbrev Mine : Mind sv → Type 0
    Mine m = (m.agreement.me ≡ i) × (m.agreement.incarnation ≡ y)

    abbrev pub Fine : Turn sv → Type 0
    Fine x = x.mind.agreement.no ≤ N → NextOf x.mind × NextSaid i x.does

    abbrev Keeps : (Mind sv → Turn sv) → Type 0
    Keeps f = (m : Mind sv) → Mine m → NextOf m → Fine (f m)

    then_fine : (x : Turn sv) (f : Mind sv → Turn sv) → Mine x.mind → Fine x → Counts f → Keeps f → Fine (then_do x f)
    unfolding then_do
    then_fine x f me a c k le = let b = a (omega (arith, (c x.mind).3)) in let d = k x.mind me b.0 le in (d.0, said_append i x.does (f x.mind).does b.1 d.1)

    then_mine : (x : Turn sv) (f : Mind sv → Turn sv) → Mine x.mind → Counts f → Mine (then_do x f).mind
    unfolding then_do
    then_mine x f me c = let k = c x.mind in (k.0 ∙ me.0, k.1 ∙ me.1)

    -- what is said of what is held
    word_fine : (m : Mind sv) (j : ℕ) → NextOf m → NextIn i (word_to m j)
    word_fine m j v = cond_both (is_some (get_or m.agreement.votes j None)) _ _ (NextIn i) (λ _. tt) (λ _. v.0)

    tell_fine : (j : ℕ) → Keeps (tell j)
    unfolding tell
    tell_fine j m me v = cond_both (eqb j m.agreement.me) _ _ Fine (λ _ le. (v, tt)) (λ _ le. (v, (word_fine m j v, tt)))

    tell_done_fine : (o : Option ℕ) → Keeps (tell_done o)
    unfolding tell_done
    tell_done_fine None m me v = λ le. (v, tt)
    tell_done_fine (Some j) m me v = cond_both (eqb j m.agreement.me) _ _ Fine (λ _ le. (v, tt)) (λ _ le. (v, (tt, tt)))

    tell_all_fine : Keeps tell_all
    unfolding tell_all
    tell_all_fine m me v le = (v, said_each i _ (λ j. cond_both (eqb j m.agreement.me) _ _ (NextSaid i) (λ _. tt) (λ _. (word_fine m j v, tt))) m.agreement.all)

    ask_all_fine : Keeps ask_all
    unfolding ask_all
    ask_all_fine m me v le = (v, said_each i _ (λ j. cond_both (eqb j m.agreement.me || counts m.agreement.votes m.agreement.places j) _ _ (NextSaid i) (λ _. tt) (λ _. (tt, tt))) m.agreement.all)

    -- the own oldest call is the next
    own_next : (m : Mind sv) → Mine m → m.agreement.no ≤ N → G i m.agreement.incarnation (suc m.agreement.no)
    own_next m me le = rw me.1 (own m.agreement.no le)

    forward_head_fine : (ts : List (Waiting sv)) → Keeps (forward_head ts)
    unfolding forward_head
    forward_head_fine [] m me v = λ le. (v, tt)
    forward_head_fine (t ∷ ts) m me v =
        cond_both (is_member m.agreement.role && ltb (suc m.agreement.no) limit) _ _ Fine (λ _. cond_both (eqb m.agreement.promised.leader m.agreement.me) _ _ Fine (λ _ le. (v, tt)) (λ _ le. (v, (own_next m me le, tt)))) (λ _ le. (v, tt))

    forward_fine : Keeps forward
    forward_fine m me v = forward_head_fine m.waiting m me v

    hands_fine : (n : ℕ) (ts : List (Waiting sv)) (r : Option sv.R) → Keeps (hands n ts r)
    unfolding hands
    hands_fine n ts None m me v = λ le. (v, tt)
    hands_fine n ts (Some r) m me v = then_fine _ forward me (λ le. (v, tt)) forward_counts forward_fine

    answer_head_fine : (ts : List (Waiting sv)) → Keeps (answer_head ts)
    unfolding answer_head
    answer_head_fine [] m me v = λ le. (v, tt)
    answer_head_fine (t ∷ ts) m me v = cond_both (may_answer m) _ _ Fine (λ _. hands_fine t.number ts (reply_to t.call m) m me v) (λ _ le. (v, tt))

    answer_fine : Keeps answer
    answer_fine m me v = answer_head_fine m.waiting m me v

    proposes_fine : (p : Proposal sv) (m : Mind sv) → Mine m → NextAt p → NextCalls m.calls → Fine (proposes p m)
    proposes_fine p m me v c = then_fine (then_do (still (making p m)) tell_all) answer (then_mine (still (making p m)) tell_all me tell_all_counts) (then_fine (still (making p m)) tell_all me (λ le. ((v, c), tt)) tell_all_counts tell_all_fine) answer_counts answer_fine

    -- JOBS: a call that is taken up is the next that the place counts
    abbrev JobNext : Proposal sv → Job sv → Type 0
    JobNext p (DoCall j a) = G j (roster p j) (suc (place_at p j).no)
    JobNext p (DoJoin j q) = Unit {0}

    abbrev SomeNext : Proposal sv → Option (Job sv) → Type 0
    SomeNext p None = Unit {0}
    SomeNext p (Some x) = JobNext p x

    or_next : (p : Proposal sv) (a b : Option (Job sv)) → SomeNext p a → SomeNext p b → SomeNext p (option_or a b)
    or_next p None b x z = z
    or_next p (Some x) b z w = z

    first_next : (p : Proposal sv) (f : ℕ → Option (Job sv)) → ((j : ℕ) → SomeNext p (f j)) → (k n j : ℕ) → SomeNext p (first_from k n j f)
    unfolding first_from
    first_next p f a zero n j = tt
    first_next p f a (suc k) n j = or_next p (f j) _ (a j) (first_next p f a k n (after n j))

    join_next : (p : Proposal sv) (j : ℕ) (o : Option Joining) → SomeNext p (join_job p j o)
    join_next p j None = tt
    join_next p j (Some q) = cond_both (join_fits j q p) _ _ (SomeNext p) (λ _. tt) (λ _. tt)

    call_next : (p : Proposal sv) (j : ℕ) (o : Option (Forwarded sv)) → ((a : Forwarded sv) → o ≡ Some a → G j a.incarnation a.no) → SomeNext p (call_job p j o)
    call_next p j None f = tt
    call_next p j (Some a) f = cond_both (call_fits j a p) _ _ (SomeNext p) (λ e. fits (and_parts (names j a.incarnation p) (eqb a.no (suc (place_at p j).no) && ltb a.no limit) (and_parts _ _ e).0)) (λ _. tt)
      where
        fits : (names j a.incarnation p ≡ true) × ((eqb a.no (suc (place_at p j).no) && ltb a.no limit) ≡ true) → G j (roster p j) (suc (place_at p j).no)
        fits (n, e) = rw (eqb-true (roster p j) a.incarnation n, ← eqb-true a.no (suc (place_at p j).no) (and_parts _ _ e).0) (f a refl)

    own_head_next : (m : Mind sv) → Mine m → m.agreement.no ≤ N → (ts : List (Waiting sv)) (a : Forwarded sv) → own_head ts m ≡ Some a → G i a.incarnation a.no
    unfolding own_head
    own_head_next m me le [] a e = absurd (none-some _ e)
    own_head_next m me le (t ∷ ts) a e = rw (← same_Some _ _ e) (own_next m me le)

    next_fine : (m : Mind sv) → Mine m → NextOf m → m.agreement.no ≤ N → SomeNext (accepted m) (next_job m)
    next_fine m me v le =
        or_next (accepted m) (first_of (join_at m) m) (first_of (call_at m) m) (first_next (accepted m) (join_at m) (λ j. join_next (accepted m) j (get_or m.agreement.joins j None)) _ _ _)
        (first_next (accepted m) (call_at m) (λ j. call_next (accepted m) j (cond (eqb j m.agreement.me) (own_head m.waiting m) (get_or m.calls j None)) (asked j)) _ _ _)
      where
        asked : (j : ℕ) (a : Forwarded sv) → cond (eqb j m.agreement.me) (own_head m.waiting m) (get_or m.calls j None) ≡ Some a → G j a.incarnation a.no
        asked j a =
            cond_both (eqb j m.agreement.me) _ _ (λ (o : Option (Forwarded sv)). o ≡ Some a → G j a.incarnation a.no)
            (λ e q. subst (λ (z : ℕ). G z a.incarnation a.no) (sym (eqb-true _ _ e ∙ me.0)) (own_head_next m me le m.waiting a q)) (λ _ q. v.1 j a q)

    does_fine : (o : Option (Job sv)) (m : Mind sv) → Mine m → NextOf m → SomeNext (accepted m) o → Fine (does o m)
    unfolding does
    does_fine None m me v k = λ le. (v, tt)
    does_fine (Some (DoCall j a)) m me v k = proposes_fine (next_of (called j a.call (content_of m)) (accepted m)) (with_calls (set m.calls j None) (job_of j m)) me (called_places j a.call (content_of m) (λ s q. G s q.incarnation q.no) v.0 k) (cleared_calls m.calls j v.1)
    does_fine (Some (DoJoin j q)) m me v k = proposes_fine (next_of (joined j q.incarnation (content_of m)) (accepted m)) (with_joins (set m.agreement.joins j None) (job_of j m)) me (set_place m.agreement.places j (fresh_place q.incarnation) (λ s z. G s z.incarnation z.no) v.0 (none j q.incarnation)) v.1

    serve_fine : Keeps serve
    unfolding serve
    serve_fine m me v = cond_both (may_serve m) _ _ (λ (x : Turn sv). m.agreement.no ≤ x.mind.agreement.no → Fine x) (λ _ up le. does_fine (next_job m) m me v (next_fine m me v (omega arith)) le) (λ _ up le. (v, tt)) (serve_up m)
      where
        serve_up : (m : Mind sv) → m.agreement.no ≤ (serve m).mind.agreement.no
        serve_up m = (serve_counts m).3

    settle_fine : Keeps settle
    unfolding settle
    settle_fine m me v =
        cond_both (is_leader m.agreement.role && is_settled m) _ _ Fine
        (λ _. then_fine _ serve (then_mine _ answer (then_mine (still (learned m)) (λ n. tell_done n.agreement.job n) me (λ n. tell_done_counts n.agreement.job n)) answer_counts)
        (then_fine _ answer (then_mine (still (learned m)) (λ n. tell_done n.agreement.job n) me (λ n. tell_done_counts n.agreement.job n)) (then_fine (still (learned m)) (λ n. tell_done n.agreement.job n) me (λ le. (v, tt)) (λ n. tell_done_counts n.agreement.job n) (λ n. tell_done_fine n.agreement.job n)) answer_counts answer_fine) serve_counts serve_fine)
        (λ _ le. (v, tt))

    elect_fine : Keeps elect
    unfolding elect
    elect_fine m me v = cond_both (is_candidate m.agreement.role && quorum m.agreement.all m.agreement.places m.agreement.votes) _ _ Fine (λ _. proposes_fine (copy_in m.agreement.promised (accepted m)) (with_job None m.agreement.turn (with_patience 6 (with_heard (seven false) m))) me v.0 v.1) (λ _ le. (v, tt))

    -- WHAT COMES. A proposal is held, kept or learned
    hold_fine : (j : ℕ) (p : Proposal sv) (c : Bool) (m : Mind sv) → Mine m → NextAt p → Fine (hold j p c m)
    hold_fine j p c m me v = then_fine _ answer (then_mine (says j (Accepted p.id m.agreement.incarnation) (takes_up p c m)) (cond (same_view p m) still forward) me steps) (then_fine (says j (Accepted p.id m.agreement.incarnation) (takes_up p c m)) (cond (same_view p m) still forward) me (λ le. ((v, no_calls), (tt, tt))) steps
        (cond_both (same_view p m) still forward Keeps (λ _ n w u le. (u, tt)) (λ _. forward_fine))) answer_counts answer_fine
      where
        steps : Counts {sv = sv} (cond (same_view p m) still forward)
        steps = cond_both (same_view p m) still forward (Counts {sv = sv}) (λ _ n. (refl, refl, refl, omega arith)) (λ _. forward_counts)

    welcome_fine : (j : ℕ) (p : Proposal sv) (m : Mind sv) → Mine m → NextAt p → Fine (welcome j p m)
    welcome_fine j p m me v = then_fine _ forward me (λ le. ((v, no_calls), (tt, tt))) forward_counts forward_fine

    implied_fine : (p : Proposal sv) → Keeps (implied p)
    unfolding implied
    implied_fine p m me v =
        cond_both (follows p m) _ _ Fine (λ _. cond_both (is_member m.agreement.role) _ _ Fine (λ _. then_fine (still (learned m)) answer me (λ le. (v, tt)) answer_counts answer_fine)
        (λ _. cond_both (is_named (accepted m) m) _ _ Fine (λ _. then_fine (record { does = Whole' ∷ []; mind = anew (entering m) }) forward me (λ le. (v, tt)) forward_counts forward_fine) (λ _ le. (v, tt)))) (λ _ le. (v, tt))

    take_or_not_fine : (j : ℕ) (p : Proposal sv) (c : Bool) → NextAt p → Keeps (take_or_not j p c)
    unfolding take_or_not hold_or_not offered
    take_or_not_fine j p c w m me v =
        cond_both (is_member m.agreement.role) _ _ Fine (λ _. cond_both (is_late p m) _ _ Fine (λ _ le. (v, (tt, tt))) (λ _. cond_both (may_hold p m) _ _ Fine (λ _. hold_fine j p c m me w) (λ _ le. (v, tt))))
        (λ _. cond_both (is_named p m) _ _ Fine (λ _. cond_both (may_hold p m) _ _ Fine (λ _. cond_both c _ _ Fine (λ _. welcome_fine j p m me w) (λ _ le. ((w, v.1), tt))) (λ _ le. (v, tt))) (λ _ le. (v, (tt, tt))))

    on_alive_fine : (j : ℕ) (d : ProposalId) (c : Bool) (x : ℕ) → Keeps (on_alive j d c x)
    unfolding on_alive alive_here alive_there
    on_alive_fine j d c x m me v =
        cond_both (is_member m.agreement.role) _ _ Fine
        (λ _. cond_both (is_stale d m) _ _ Fine (λ _ le. (v, (tt, tt))) (λ _. cond_both (leads d.view m) _ _ Fine (λ _ le. (v, tt))
        (λ _. cond_both (holds d m) _ _ Fine (λ _. hold_fine j (accepted m) c m me v.0) (λ _. cond_both (eqb (rank d.view) (rank m.agreement.promised)) _ _ Fine (λ _ le. (v, tt)) (λ _ le. (v, tt))))))
        (λ _. cond_both (eqb x m.agreement.incarnation) _ _ Fine (λ _. cond_both (is_welcome d c m) _ _ Fine (λ _. welcome_fine j (accepted m) m me v.0) (λ _ le. (v, tt))) (λ _ le. (v, (tt, tt))))

    higher_fine : (p : Proposal sv) (m : Mind sv) → NextAt p → NextOf m → NextAt (higher p m)
    higher_fine p m w v = cond_both (is_higher p m) p (accepted m) NextAt (λ _. w) (λ _. v.0)

    queued_fine : (m : Mind sv) (k : ℕ) (a : Forwarded sv) → NextOf m → G k a.incarnation a.no → NextCalls (set m.calls k (Some a))
    queued_fine m k a v w j c e = ⊎_elim (λ z. v.1 j c z) (λ z. rw (z.0, z.1) w) (set_is m.calls k a j c e)

    pub hears_fine : (j : ℕ) (w : Msg sv) → NextIn j w → Keeps (hears j w)
    unfolding hears on_prepare on_promise on_propose on_accepted on_join on_forward
    hears_fine j (Prepare u) w m me v = cond_both (is_member m.agreement.role && not (is_own u m)) _ _ Fine (λ _. cond_both (is_below u m) _ _ Fine (λ _ le. (v, (tt, tt))) (λ _. cond_both (may_promise u m) _ _ Fine (λ _ le. ((v.0, no_calls), cond_both (is_mine u m) _ _ (NextSaid i) (λ _. tt) (λ _. (v.0, tt)))) (λ _ le. (v, tt)))) (λ _ le. (v, tt))
    hears_fine j (Promise u x p) w m me v = cond_both (is_candidate m.agreement.role && eqb (rank u) (rank m.agreement.promised)) _ _ Fine (λ _. then_fine (still (reported j x p m)) elect me (λ le. ((higher_fine p m w v, v.1), tt)) elect_counts elect_fine) (λ _ le. (v, tt))
    hears_fine j (Propose p c) w m me v = cond_both (leads p.id.view m) _ _ Fine (λ _ le. (v, tt)) (λ _. then_fine (implied p m) (take_or_not j p c) (let k = implied_counts p m in (k.0 ∙ me.0, k.1 ∙ me.1)) (implied_fine p m me v) (take_or_not_counts j p c) (take_or_not_fine j p c w))
    hears_fine j (Alive d c x) w m me v = on_alive_fine j d c x m me v
    hears_fine j (Accepted d x) w m me v = cond_both (leads d.view m) _ _ Fine (λ _. then_fine (still (count_vote j d x m)) settle (cond_both (holds d m && names j x (accepted m)) _ _ Mine (λ _. me) (λ _. me)) (λ le. (cond_both (holds d m && names j x (accepted m)) _ _ NextOf (λ _. v) (λ _. v), tt)) settle_counts settle_fine) (λ _ le. (v, tt))
    hears_fine j (Join q) w m me v = cond_both (is_leader m.agreement.role && join_fits j q (accepted m)) _ _ Fine (λ _. then_fine (still (with_joins (set m.agreement.joins j (Some q)) m)) serve me (λ le. (v, tt)) serve_counts serve_fine) (λ _ le. (v, tt))
    hears_fine j (Forward a) w m me v =
        cond_both (is_leader m.agreement.role && names j a.incarnation (accepted m)) _ _ Fine
        (λ _. cond_both (eqb a.no (place_at (accepted m) j).no && m.agreement.chosen) _ _ Fine (λ _. tell_fine j m me v) (λ _. cond_both (call_fits j a (accepted m)) _ _ Fine (λ _. then_fine (still (with_calls (set m.calls j (Some a)) m)) serve me (λ le. ((v.0, queued_fine m j a v w), tt)) serve_counts serve_fine) (λ _ le. (v, tt)))) (λ _ le. (v, tt))

    -- a call, and a tick
    wait_or_not_fine : (t : Waiting sv) → Keeps (wait_or_not t)
    unfolding wait_or_not
    wait_or_not_fine t m me v =
        cond_both (is_full m.waiting) _ _ Fine (λ _ le. (v, tt)) (λ _. cond_both (eqb (length m.waiting) 0) _ _ Fine
        (λ _. then_fine _ serve (then_mine (still (comes_in t m)) forward me forward_counts) (then_fine (still (comes_in t m)) forward me (λ le. (v, tt)) forward_counts forward_fine) serve_counts serve_fine) (λ _ le. (v, tt)))

    pub quick_or_not_fine : (o : Option sv.R) (t : Waiting sv) → Keeps (quick_or_not o t)
    unfolding quick_or_not
    quick_or_not_fine None t m me v = wait_or_not_fine t m me v
    quick_or_not_fine (Some r) t m me v = λ le. (v, tt)

    say_again_fine : Keeps say_again
    unfolding say_again
    say_again_fine m me v = cond_both (is_leader m.agreement.role) _ _ Fine (λ _. tell_all_fine m me v) (λ _. cond_both (is_candidate m.agreement.role) _ _ Fine (λ _. ask_all_fine m me v) (λ _ le. (v, tt)))

    stand_or_not_fine : Keeps stand_or_not
    unfolding stand_or_not
    stand_or_not_fine m me v =
        cond_both (is_member m.agreement.role && may_stand m) _ _ Fine (λ _. then_fine (still (anew (without_jobs (standing (own_view m.agreement) m)))) ask_all me (λ le. ((v.0, no_calls), tt)) ask_all_counts ask_all_fine)
        (λ _. cond_both (has_job m) _ _ Fine (λ _. serve_fine m me v) (λ _. then_fine (say_again m) forward (let k = say_again_counts m in (k.0 ∙ me.0, k.1 ∙ me.1)) (say_again_fine m me v) forward_counts forward_fine))

    pub on_beat_fine : Keeps on_beat
    unfolding on_beat
    on_beat_fine m me v = cond_both (is_member m.agreement.role) _ _ Fine (λ _. then_fine (still (ticks m)) stand_or_not me (λ le. (v, tt)) stand_or_not_counts stand_or_not_fine) (λ _ le. (v, tt))
