-- What a leader does when what it holds is chosen: it tells whose job it was, answers, and takes the next job. Its view stays, its state grows by one call at most, and no more calls wait; and where it makes a proposal, that is not chosen yet and is offered to all others.
use Rattle.std.proofs.Common.{◌≡◌, ℕ, zero, suc, ◌+◌, ◌-◌, ◌<◌, ◌≤◌, false, cond, eqb, leb, ◌⊎◌, List, [], ◌∷◌, length, get_or, set, is_some, Some, None, Option, sym, refl, ap, ◌∙◌, subst, inl, inr, arith}
use mathlib.Core.List.Memᴰ
use mathlib.Core.List.{Memᴰ}
use Rattle.std.specs.Option.{option_or}
use Rattle.std.proofs.lemmas.Bool.Decides.{nat_tests}
use Rattle.std.proofs.lemmas.Bool.{cond_both, cond-false, cases_eq, and_left, and_right, ne_eqb}
use Rattle.runs.specs.Replicas.{Does, Says}
use Rattle.agreement.specs.Content.{Service, Content, Proposal, called, joined}
use Rattle.agreement.specs.Machine.{Msg, Propose, Waiting, Mind, accepted, content_of, is_member, Turn, still, then_do, word_to, alive_to, tell_all, tell_done, may_answer, reply_to, hands, answer_head, answer, learned, making, alone, own_vote, Job, DoCall, DoJoin, after, first_from, next_job, proposes, next_of, job_of, with_joins, with_calls, with_waiting, does, may_serve, serve}
use Rattle.agreement.specs.Steady.{Steady}
use Rattle.agreement.proofs.Carried.{forward_head_mind}
use Rattle.agreement.proofs.Votes.{answer_akin}
use Rattle.agreement.proofs.Counting.{own_vote_else, one_is_no_quorum}
use Rattle.agreement.proofs.Steps.{to_each_says}
use Rattle.agreement.proofs.Rounds.{settling}

module _ {sv : Service} where
  -- NO ANSWER, where none may be given or nothing waits
  answer_head_not : (ts : List (Waiting sv)) (m : Mind sv) → may_answer m ≡ false → answer_head ts m ≡ still m
  unfolding answer_head
  answer_head_not [] m e = refl
  answer_head_not (t ∷ ts) m e = cond-false (may_answer m) (hands t.number ts (reply_to t.call m) m) (still m) e

  pub answer_not : (m : Mind sv) → may_answer m ≡ false → answer m ≡ still m
  answer_not m e = answer_head_not m.waiting m e

  pub answer_none : (m : Mind sv) → m.waiting ≡ [] → answer m ≡ still m
  unfolding answer_head
  answer_none m e = ap (λ (ts : List (Waiting sv)). answer_head ts m) e

  pub unchosen_not : (m : Mind sv) → m.agreement.chosen ≡ false → may_answer m ≡ false
  unchosen_not m e = and_right (is_member m.agreement.role) _ (and_left m.agreement.chosen _ e)

  -- SETTLING, in parts
  tell_done_mind : (o : Option ℕ) (m : Mind sv) → (tell_done o m).mind ≡ m
  unfolding tell_done
  tell_done_mind None m = refl
  tell_done_mind (Some j) m = cond_both (eqb j m.agreement.me) _ _ (λ (x : Turn sv). x.mind ≡ m) (λ _. refl) (λ _. refl)

  pub settling_mind : (m : Mind sv) → (settling m).mind ≡ (serve (answer (learned m)).mind).mind
  unfolding then_do
  settling_mind m = ap (λ (z : Mind sv). (serve (answer z).mind).mind) (tell_done_mind m.agreement.job (learned m))

  pub settling_serves : (m : Mind sv) (e : Does (Msg sv) sv.R) → Memᴰ e (serve (answer (learned m)).mind).does → Memᴰ e (settling m).does
  unfolding then_do
  settling_serves m e d = Memᴰ.append_right _ (subst (λ (z : Mind sv). Memᴰ e (serve (answer z).mind).does) (sym (tell_done_mind m.agreement.job (learned m))) d)

  pub settling_tells : (m : Mind sv) (e : Does (Msg sv) sv.R) → Memᴰ e (tell_done m.agreement.job (learned m)).does → Memᴰ e (settling m).does
  unfolding then_do
  settling_tells m e d = Memᴰ.append_left _ (Memᴰ.append_left _ d)

  -- WHAT IS PROPOSED by one of two or more is not chosen at once, and is offered to all others
  module _ (p : Proposal sv) (m : Mind sv) (two : 2 ≤ m.agreement.all) where
    pub not_alone : alone p m ≡ false
    not_alone = one_is_no_quorum m.agreement.all p.content.places m.agreement two

    tell_all_mind : (tell_all (making p m)).mind ≡ making p m
    unfolding tell_all
    tell_all_mind = refl

    pub proposes_mind : (proposes p m).mind ≡ making p m
    unfolding then_do
    proposes_mind = ap (λ (z : Mind sv). (answer z).mind) tell_all_mind ∙ ap (λ (x : Turn sv). x.mind) (answer_not (making p m) (unchosen_not (making p m) not_alone))

    word_is : (j : ℕ) → (j ≡ m.agreement.me → ⊥) → word_to (making p m) j ≡ Propose p false
    word_is j n = cond-false (is_some (get_or (own_vote m.agreement) j None)) (alive_to (making p m) j) (Propose p (alone p m)) (ap is_some (own_vote_else m.agreement j n)) ∙ ap (Propose p) not_alone

    tell_all_says : (j : ℕ) → j < m.agreement.all → (j ≡ m.agreement.me → ⊥) → Memᴰ (Says j (Propose p false)) (tell_all (making p m)).does
    unfolding tell_all
    tell_all_says j lt n =
        to_each_says {sv = sv} (λ k. cond (eqb k m.agreement.me) [] (Says k (word_to (making p m) k) ∷ [])) j (Says j (Propose p false))
        (rw (ne_eqb j m.agreement.me n) (Memᴰ.head (ap (λ (w : Msg sv). Says j w) (sym (word_is j n))))) m.agreement.all lt

    pub proposes_says : (j : ℕ) → j < m.agreement.all → (j ≡ m.agreement.me → ⊥) → Memᴰ (Says j (Propose p false)) (proposes p m).does
    unfolding then_do
    proposes_says j lt n = Memᴰ.append_left _ (tell_all_says j lt n)

-- THE FIRST that there is, going round: none, or the only one
pub first_none : {A : Type 0} (f : ℕ → Option A) → ((j : ℕ) → f j ≡ None) → (k n j : ℕ) → first_from k n j f ≡ None
unfolding first_from
first_none f a zero n j = refl
first_none f a (suc k) n j = ap (λ o. option_or o (first_from k n (after n j) f)) (a j) ∙ first_none f a k n (after n j)

-- how far it is from j on to i, going round n
abbrev pub far_from : (n i j : ℕ) → ℕ
far_from n i j = cond (leb j i) (i - j) (n + i - j)

pub first_only : {A : Type 0} (f : ℕ → Option A) (x : A) (n i : ℕ) → i < n → f i ≡ Some x → ((j : ℕ) → (j ≡ i → ⊥) → f j ≡ None) → (k j : ℕ) → j < n → far_from n i j < k → first_from k n j f ≡ Some x
unfolding first_from
first_only f x n i il e a zero j jl lt = absurd (omega arith)
first_only f x n i il e a (suc k) j jl lt = go (cases_eq j i) (first_only f x n i il e a k (after n j))
  where
    go : (j ≡ i) ⊎ (j ≡ i → ⊥) → (after n j < n → far_from n i (after n j) < k → first_from k n (after n j) f ≡ Some x) → option_or (f j) (first_from k n (after n j) f) ≡ Some x
    go (inl q) ih = ap (λ o. option_or o (first_from k n (after n j) f)) (ap f q ∙ e)
    go (inr q) ih = ap (λ o. option_or o (first_from k n (after n j) f)) (a j q) ∙ ih (grind (arith, nat_tests)) (grind (arith, nat_tests))

-- ONWARD: a leader's mind after a move. It is in the same view, its state grew by one call at most, and no more calls wait
pub record Onward {sv : Service} (st : Steady sv) (m x : Mind sv) : Type 0 where
  pub promised : x.agreement.promised ≡ m.agreement.promised
  pub view : x.agreement.accepted.view ≡ m.agreement.accepted.view
  pub size : st.size x.state ≤ 64 + st.size m.state
  pub fewer : length x.waiting ≤ length m.waiting

module _ {sv : Service} (st : Steady sv) where
  hands_fewer : (n : ℕ) (ts : List (Waiting sv)) (r : Option sv.R) (m : Mind sv) → length ts ≤ length m.waiting → length (hands n ts r m).mind.waiting ≤ length m.waiting
  unfolding hands then_do
  hands_fewer n ts None m le = omega arith
  hands_fewer n ts (Some r) m le = subst (λ (z : Mind sv). length z.waiting ≤ length m.waiting) (sym (forward_head_mind ts (with_waiting ts (suc m.agreement.no) m))) le

  answer_head_fewer : (ts : List (Waiting sv)) (m : Mind sv) → m.waiting ≡ ts → length (answer_head ts m).mind.waiting ≤ length m.waiting
  unfolding answer_head
  answer_head_fewer [] m e = omega arith
  answer_head_fewer (t ∷ ts) m e = cond_both (may_answer m) _ _ (λ (x : Turn sv). length x.mind.waiting ≤ length m.waiting) (λ _. hands_fewer t.number ts (reply_to t.call m) m (omega (arith, ap length e))) (λ _. omega arith)

  pub answer_fewer : (m : Mind sv) → length (answer m).mind.waiting ≤ length m.waiting
  answer_fewer m = answer_head_fewer m.waiting m refl

  proposes_onward : (p : Proposal sv) (m : Mind sv) → p.id.view ≡ m.agreement.accepted.view → st.size p.content.state ≤ 64 + st.size m.state → Onward st m (proposes p m).mind
  unfolding then_do tell_all
  proposes_onward p m v le =
      let k = answer_akin (making p m) in
      record { promised = k.promised; view = ap (λ (q : Proposal sv). q.id.view) k.holds ∙ v; size = omega (arith, ap (λ (q : Proposal sv). st.size q.content.state) k.holds); fewer = answer_fewer (making p m) }

  pub called_size : (j : ℕ) (o : sv.O) (c : Content sv) → st.size (called j o c).state ≤ 64 + st.size c.state
  called_size j o c = cond_both (sv.is_read o) _ _ (λ (d : Content sv). st.size d.state ≤ 64 + st.size c.state) (λ _. omega arith) (λ _. st.grows o c.state)

  does_onward : (o : Option (Job sv)) (m : Mind sv) → Onward st m (does o m).mind
  unfolding does
  does_onward None m = record { promised = refl; view = refl; size = omega arith; fewer = omega arith }
  does_onward (Some (DoCall j a)) m = let k = proposes_onward (next_of (called j a.call (content_of m)) (accepted m)) (with_calls (set m.calls j None) (job_of j m)) refl (called_size j a.call (content_of m)) in record { promised = k.promised; view = k.view; size = k.size; fewer = k.fewer }
  does_onward (Some (DoJoin j q)) m = let k = proposes_onward (next_of (joined j q.incarnation (content_of m)) (accepted m)) (with_joins (set m.agreement.joins j None) (job_of j m)) refl (omega arith) in record { promised = k.promised; view = k.view; size = k.size; fewer = k.fewer }

  pub serve_onward : (m : Mind sv) → Onward st m (serve m).mind
  unfolding serve
  serve_onward m = cond_both (may_serve m) _ _ (λ (x : Turn sv). Onward st m x.mind) (λ _. does_onward (next_job m) m) (λ _. record { promised = refl; view = refl; size = omega arith; fewer = omega arith })

  pub settling_onward : (m : Mind sv) → Onward st m (settling m).mind
  settling_onward m = subst (Onward st m) (sym (settling_mind m)) both
    where
      both : Onward st m (serve (answer (learned m)).mind).mind
      both =
          let k = answer_akin (learned m) in let f = answer_fewer (learned m) in let s = serve_onward (answer (learned m)).mind in
          record { promised = s.promised ∙ k.promised; view = s.view ∙ ap (λ (q : Proposal sv). q.id.view) k.holds; size = omega (arith, s.size, ap (λ (q : Proposal sv). st.size q.content.state) k.holds); fewer = omega (arith, s.fewer) }
