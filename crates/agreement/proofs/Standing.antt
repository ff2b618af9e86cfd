-- STANDING: a whole replica that beats comes to stand for a view above b, with nobody else doing anything. Patience falls with each beat; a leader renews it once at most, since then nobody is heard; and each stand raises the number of its view by one.
-- On the way a leader takes one job at most: what it makes is not chosen before others vote for it.
use Rattle.std.proofs.Common.{◌≡◌, ℕ, zero, suc, ◌+◌, ◌-◌, ◌*◌, ◌<◌, ◌≤◌, Bool, true, false, ◌&&◌, ◌||◌, eqb, ltb, ◌⊎◌, List, [], ◌∷◌, get_or, set, Some, None, Option, sym, refl, ap, ◌∙◌, subst, inl, inr, ⊎_elim, arith}
use Rattle.std.proofs.lemmas.List.{get_or-set_other}
use mathlib.Core.List.{Memᴰ}
use Rattle.std.proofs.lemmas.Bool.Decides.{nat_tests}
use Rattle.std.proofs.lemmas.Bool.{cond_both, cond-true, cond-false, and_parts, and_from, and_left, and_right, or_from, ne_eqb, true≢false, false≢true}
use Rattle.runs.specs.Replicas.{Does, Says, Beat, Scene, there, how_many, turned}
use Rattle.runs.specs.Progress.{stay}
use Rattle.agreement.specs.declared.Role.{Role}
use Rattle.agreement.specs.declared.Role.TheVariants.{Recovering, Follower, Candidate, Leader}
use Rattle.agreement.specs.declared.View.{View}
use Rattle.agreement.specs.declared.Agreement.{Agreement}
use Rattle.agreement.specs.declared.Place.{Place}
use Rattle.agreement.specs.Content.{Service, Content, Proposal, limit, seven, fresh_place, called, joined}
use Rattle.agreement.specs.Steady.{Steady}
use Rattle.agreement.specs.Machine.{Msg, Prepare, Mind, content_of, accepted, is_member, is_candidate, is_leader, is_vote, counts, own_vote, alone, making, Waiting, Turn, still, then_do, tell_all, may_answer, answer_head, proposes, Job, DoCall, DoJoin, next_job, next_of, job_of, with_calls, with_joins, does, may_serve, serve, forward, ask_to, ask_all, say_again, has_job, heard_most, ticks, may_stand, own_view, standing, anew, without_jobs, stand, stand_or_not, on_beat, turn, code}
use Rattle.agreement.proofs.Seven.{get_seven}
use Rattle.agreement.proofs.Scenes.{at_same, at_other}
use Rattle.agreement.proofs.Carried.{forward_head_mind}
use Rattle.agreement.proofs.Stages.{view_above}
use Rattle.agreement.proofs.Counting.{one_is_few}
use Rattle.agreement.proofs.Steps.{letter, to_each_says, whole_stays, Reaches, Since, beat_to, since_said}

leader_is : (r : Role) → is_leader r ≡ true → r ≡ Leader
leader_is Recovering e = absurd (false≢true e)
leader_is Follower e = absurd (false≢true e)
leader_is Candidate e = absurd (false≢true e)
leader_is Leader e = refl

-- with only its own vote
pub own_only : (a : Agreement) (j : ℕ) → (j ≡ a.me → ⊥) → get_or (own_vote a) j None ≡ None
own_only a j ne = get_or-set_other (seven None) a.me j (Some a.incarnation) None ne ∙ get_seven None j

pub own_counts : (a : Agreement) (ps : List Place) (j : ℕ) → (j ≡ a.me → ⊥) → counts (own_vote a) ps j ≡ false
own_counts a ps j ne = ap (λ (o : Option ℕ). is_vote o (get_or ps j (fresh_place 0)).incarnation) (own_only a j ne)

module _ {sv : Service} where
  pub not_alone : (p : Proposal sv) (m : Mind sv) → 2 ≤ m.agreement.all → alone p m ≡ false
  not_alone p m two = one_is_few m.agreement.all m.agreement.me (counts (own_vote m.agreement) p.content.places) two (λ j ne. own_counts m.agreement p.content.places j ne)

  -- what is not chosen answers nothing
  pub answers_none : (ts : List (Waiting sv)) (m : Mind sv) → m.agreement.chosen ≡ false → answer_head ts m ≡ still m
  unfolding answer_head
  answers_none [] m e = refl
  answers_none (t ∷ ts) m e = cond-false (may_answer m) _ (still m) (and_right (is_member m.agreement.role) _ (and_left m.agreement.chosen _ e))

  pub proposes_mind : (p : Proposal sv) (m : Mind sv) → 2 ≤ m.agreement.all → (proposes p m).mind ≡ making p m
  unfolding then_do tell_all
  proposes_mind p m two = ap (λ (x : Turn sv). x.mind) (answers_none m.waiting (making p m) (not_alone p m two))

  say_again_mind : (m : Mind sv) → (say_again m).mind ≡ m
  unfolding say_again tell_all ask_all
  say_again_mind m = cond_both (is_leader m.agreement.role) _ _ (λ (x : Turn sv). x.mind ≡ m) (λ _. refl) (λ _. cond_both (is_candidate m.agreement.role) _ _ (λ (x : Turn sv). x.mind ≡ m) (λ _. refl) (λ _. refl))

-- from the mind k to the mind y: nothing, or one job of a leader whose last proposal is chosen; then the next is not
pub record Works {sv : Service} (st : Steady sv) (k y : Mind sv) : Type 0 where
  pub me : y.agreement.me ≡ k.agreement.me
  pub all' : y.agreement.all ≡ k.agreement.all
  pub incarnation : y.agreement.incarnation ≡ k.agreement.incarnation
  pub role : y.agreement.role ≡ k.agreement.role
  pub promised : y.agreement.promised ≡ k.agreement.promised
  pub no : y.agreement.no ≡ k.agreement.no
  pub waiting : y.waiting ≡ k.waiting
  pub patience : y.agreement.patience ≡ k.agreement.patience
  pub heard : y.agreement.heard ≡ k.agreement.heard
  pub job : ((y.state ≡ k.state) × (y.agreement.chosen ≡ k.agreement.chosen)) ⊎ ((k.agreement.chosen ≡ true) × (is_leader k.agreement.role ≡ true) × (y.agreement.chosen ≡ false) × (st.size y.state ≤ 64 + st.size k.state))

module _ {sv : Service} (st : Steady sv) where
  works_not : (k y : Mind sv) → y ≡ k → Works st k y
  works_not k y e = rw e (record { me = refl; all' = refl; incarnation = refl; role = refl; promised = refl; no = refl; waiting = refl; patience = refl; heard = refl; job = inl (refl, refl) })

  called_size : (j : ℕ) (o : sv.O) (c : Content sv) → st.size (called j o c).state ≤ 64 + st.size c.state
  called_size j o c = cond_both (sv.is_read o) _ _ (λ (d : Content sv). st.size d.state ≤ 64 + st.size c.state) (λ _. omega arith) (λ _. st.grows o c.state)

  does_works : (o : Option (Job sv)) (k : Mind sv) → 2 ≤ k.agreement.all → k.agreement.chosen ≡ true → is_leader k.agreement.role ≡ true → Works st k (does o k).mind
  unfolding does
  does_works None k two c l = works_not k k refl
  does_works (Some (DoCall j a)) k two c l =
      let p = next_of (called j a.call (content_of k)) (accepted k) in let n = with_calls (set k.calls j None) (job_of j k) in
      rw (proposes_mind p n two) (record { me = refl; all' = refl; incarnation = refl; role = sym (leader_is k.agreement.role l); promised = refl; no = refl; waiting = refl; patience = refl; heard = refl; job = inr (c, l, not_alone p n two, called_size j a.call (content_of k)) })
  does_works (Some (DoJoin j q)) k two c l =
      let p = next_of (joined j q.incarnation (content_of k)) (accepted k) in let n = with_joins (set k.agreement.joins j None) (job_of j k) in
      rw (proposes_mind p n two) (record { me = refl; all' = refl; incarnation = refl; role = sym (leader_is k.agreement.role l); promised = refl; no = refl; waiting = refl; patience = refl; heard = refl; job = inr (c, l, not_alone p n two, omega arith) })

  serve_works : (k : Mind sv) → 2 ≤ k.agreement.all → Works st k (serve k).mind
  unfolding serve
  serve_works k two =
      cond_both (may_serve k) _ _ (λ (x : Turn sv). Works st k x.mind) (λ e. let a = and_parts (is_leader k.agreement.role) _ e in does_works (next_job k) k two (and_parts k.agreement.chosen _ a.1).0 a.0) (λ _. works_not k k refl)

  beat_is : (n : Mind sv) → is_member n.agreement.role ≡ true → turn Beat n ≡ stand_or_not (ticks n)
  unfolding turn on_beat then_do
  beat_is n e = cond-true (is_member n.agreement.role) (then_do (still (ticks n)) stand_or_not) (still n) e

  again_mind : (k : Mind sv) → (then_do (say_again k) forward).mind ≡ k
  unfolding then_do
  again_mind k = forward_head_mind _ _ ∙ say_again_mind k

  -- it stands, or has patience left
  abbrev Beats : Mind sv → Turn sv → Type 0
  Beats k x = (x ≡ stand k) ⊎ (Works st k x.mind × (0 < k.agreement.patience))

  left : (k : Mind sv) → 2 ≤ k.agreement.all → suc k.agreement.promised.number < limit → may_stand k ≡ false → 0 < k.agreement.patience
  left k two low e = grind (arith, nat_tests)

  stand_or_not_beats : (k : Mind sv) → is_member k.agreement.role ≡ true → 2 ≤ k.agreement.all → suc k.agreement.promised.number < limit → Beats k (stand_or_not k)
  unfolding stand_or_not
  stand_or_not_beats k mem two low =
      cond_both (is_member k.agreement.role && may_stand k) _ _ (Beats k) (λ _. inl refl)
      (λ e. inr (cond_both (has_job k) _ _ (λ (x : Turn sv). Works st k x.mind) (λ _. serve_works k two) (λ _. works_not k _ (again_mind k)), left k two low (rw mem at e)))

  -- after a beat nobody is heard by a leader that renewed its patience
  heard_few : (n y : Mind sv) → 2 ≤ n.agreement.all → Works st (ticks n) y → heard_most y ≡ false
  heard_few n y two w =
      rw (w.role, w.all', w.me, w.heard)
      (cond_both (heard_most n) (seven false) n.agreement.heard (λ (l : List Bool). (is_leader n.agreement.role && ltb n.agreement.all (2 * how_many n.agreement.all (λ j. eqb j n.agreement.me || get_or l j false))) ≡ false)
      (λ _. and_right (is_leader n.agreement.role) _ (one_is_few n.agreement.all n.agreement.me (λ j. eqb j n.agreement.me || get_or (seven false) j false) two (λ j ne. or_from _ _ (ne_eqb j n.agreement.me ne) (get_seven false j)))) (λ e. e))

-- ALONE: from the scene s, in which the replica i has the mind m, only i has done something; it is the same incarnation, and has the same calls
pub record Alone {sv : Service} (all : ℕ) (group : List ℕ) (s : Scene (Mind sv) (Msg sv)) (i : ℕ) (m : Mind sv) (t : Scene (Mind sv) (Msg sv)) (n : Mind sv) : Type 0 where
  pub came : Reaches all group s t
  pub up : t.house i ≡ there n
  pub others : (j : ℕ) → (j ≡ i → ⊥) → t.house j ≡ s.house j
  pub frail : (j : ℕ) → t.frail j ≡ s.frail j
  pub me : n.agreement.me ≡ i
  pub all' : n.agreement.all ≡ all
  pub incarnation : n.agreement.incarnation ≡ m.agreement.incarnation
  pub no : n.agreement.no ≡ m.agreement.no
  pub waiting : n.waiting ≡ m.waiting

-- SPARE: there is room for one job more, or none will be done
abbrev pub Spare : {sv : Service} → Steady sv → ℕ → Mind sv → Type 0
Spare st b n = (st.size n.state ≤ 64 * b) ⊎ ((st.size n.state ≤ 64 * suc b) × ((is_leader n.agreement.role && n.agreement.chosen) ≡ false))

-- STOOD for the view above k: it has its own vote, no jobs, and asked all others
pub record Stood {sv : Service} (st : Steady sv) (all : ℕ) (group : List ℕ) (b : ℕ) (s : Scene (Mind sv) (Msg sv)) (i : ℕ) (m : Mind sv) (k : ℕ) : Type 0 where
  pub scene : Scene (Mind sv) (Msg sv)
  pub mind : Mind sv
  pub alone' : Alone all group s i m scene mind
  pub role : mind.agreement.role ≡ Candidate
  pub promised : mind.agreement.promised ≡ view_above k i m.agreement.incarnation
  pub votes : mind.agreement.votes ≡ own_vote mind.agreement
  pub joins : mind.agreement.joins ≡ seven None
  pub calls : mind.calls ≡ seven None
  pub size : st.size mind.state ≤ 64 * suc b
  pub asked : (j : ℕ) → j < all → (j ≡ i → ⊥) → Since all group s scene (letter i j (Prepare (view_above k i m.agreement.incarnation)))

-- it did not stand, and did one job or none
pub record Rested {sv : Service} (st : Steady sv) (all : ℕ) (group : List ℕ) (b : ℕ) (s : Scene (Mind sv) (Msg sv)) (i : ℕ) (m n : Mind sv) : Type 0 where
  pub scene : Scene (Mind sv) (Msg sv)
  pub mind : Mind sv
  pub alone' : Alone all group s i m scene mind
  pub works : Works st (ticks n) mind
  pub left' : 0 < mind.agreement.patience
  pub spare : Spare st b mind

module _ {sv : Service} (st : Steady sv) (all : ℕ) (two : 2 ≤ all) (group : List ℕ) (b : ℕ) (low : suc b < limit) (s : Scene (Mind sv) (Msg sv)) (i : ℕ) (lt : i < all) (ing : Memᴰ i group) (whole' : s.frail i ≡ false) (m : Mind sv) where
  abbrev Lone : Scene (Mind sv) (Msg sv) → Mind sv → Type 0
  Lone t n = Alone all group s i m t n

  -- a beat of i leaves the others
  beat_alone : (t : Scene (Mind sv) (Msg sv)) (n : Mind sv) → Lone t n → (x : Turn sv) → turn Beat n ≡ x → x.mind.agreement.me ≡ n.agreement.me → x.mind.agreement.all ≡ n.agreement.all → x.mind.agreement.incarnation ≡ n.agreement.incarnation → x.mind.agreement.no ≡ n.agreement.no → x.mind.waiting ≡ n.waiting →
      Lone (turned (code sv) i x t) x.mind
  beat_alone t n a x e f g h p w =
      record {
        came = beat_to all group s t i n x lt ing a.came a.up e;
        up = at_same i (there x.mind) t.house i refl;
        others = λ j ne. at_other i (there x.mind) t.house j ne ∙ a.others j ne;
        frail = λ j. whole_stays all group s t i x (a.frail i ∙ whole') j ∙ a.frail j;
        me = f ∙ a.me;
        all' = g ∙ a.all';
        incarnation = h ∙ a.incarnation;
        no = p ∙ a.no;
        waiting = w ∙ a.waiting;
      }

  -- a candidate asks each other
  asks_each : (k : Mind sv) (j : ℕ) → j < k.agreement.all → (j ≡ k.agreement.me → ⊥) → Memᴰ (Says j (Prepare (own_view k.agreement))) (stand k).does
  unfolding then_do ask_all
  asks_each k j jl ne =
      let n = anew (without_jobs (standing (own_view k.agreement) k)) in
      to_each_says (ask_to n) j _ (rw (cond-false {A = List (Does (Msg sv) sv.R)} (eqb j k.agreement.me || counts (own_vote k.agreement) k.agreement.places j) [] (Says j (Prepare (own_view k.agreement)) ∷ []) (or_from _ _ (ne_eqb j k.agreement.me ne) (own_counts k.agreement k.agreement.places j ne))) (Memᴰ.head refl)) k.agreement.all jl

  spare_size : (n : Mind sv) → Spare st b n → st.size n.state ≤ 64 * suc b
  spare_size n (inl z) = omega arith
  spare_size n (inr z) = z.0

  beat_stands : (t : Scene (Mind sv) (Msg sv)) (n : Mind sv) → Lone t n → Spare st b n → turn Beat n ≡ stand (ticks n) → Stood st all group b s i m n.agreement.promised.number
  unfolding then_do ask_all
  beat_stands t n a p e =
      record {
        scene = turned (code sv) i (stand (ticks n)) t;
        mind = (stand (ticks n)).mind;
        alone' = beat_alone t n a (stand (ticks n)) e refl refl refl refl refl;
        role = refl;
        promised = view;
        votes = refl;
        joins = refl;
        calls = refl;
        size = spare_size n p;
        asked = λ j jl ne. since_said all group s t i j (Prepare (view_above n.agreement.promised.number i m.agreement.incarnation)) (stand (ticks n)) a.came (subst (λ (v : View). Memᴰ (Says j (Prepare v)) (stand (ticks n)).does) view (asks_each (ticks n) j (omega (arith, a.all')) (λ q. ne (q ∙ a.me))));
      }
    where
      view : own_view n.agreement ≡ view_above n.agreement.promised.number i m.agreement.incarnation
      view = λ z. record { number = suc n.agreement.promised.number; leader = a.me z; incarnation = a.incarnation z }

  works_spare : (n y : Mind sv) → Works st (ticks n) y → Spare st b n → Spare st b y
  works_spare n y w p = go w.job p
    where
      go : ((y.state ≡ n.state) × (y.agreement.chosen ≡ n.agreement.chosen)) ⊎ ((n.agreement.chosen ≡ true) × (is_leader n.agreement.role ≡ true) × (y.agreement.chosen ≡ false) × (st.size y.state ≤ 64 + st.size n.state)) → Spare st b n → Spare st b y
      go (inl (e, c)) (inl z) = inl (rw e z)
      go (inl (e, c)) (inr (z, f)) = inr (rw e z, rw (w.role, c) f)
      go (inr (c, l, d, z)) (inl q) = inr (omega arith, and_right (is_leader y.agreement.role) _ d)
      go (inr (c, l, d, z)) (inr (q, f)) = absurd (true≢false (sym (and_from _ _ l c) ∙ f))

  beat_rests : (t : Scene (Mind sv) (Msg sv)) (n : Mind sv) → Lone t n → Spare st b n → Works st (ticks n) (turn Beat n).mind → 0 < (ticks n).agreement.patience → Rested st all group b s i m n
  beat_rests t n a p w z =
      record {
        scene = turned (code sv) i (turn Beat n) t;
        mind = (turn Beat n).mind;
        alone' = beat_alone t n a (turn Beat n) refl w.me w.all' w.incarnation w.no w.waiting;
        works = w;
        left' = rw w.patience z;
        spare = works_spare n (turn Beat n).mind w p;
      }

  -- one beat
  beat_once : (t : Scene (Mind sv) (Msg sv)) (n : Mind sv) → Lone t n → Spare st b n → is_member n.agreement.role ≡ true → n.agreement.promised.number ≤ b → Stood st all group b s i m n.agreement.promised.number ⊎ Rested st all group b s i m n
  beat_once t n a p mem le =
      ⊎_elim (λ e. inl (beat_stands t n a p (beat_is st n mem ∙ e))) (λ (w, z). inr (beat_rests t n a p (rw (beat_is st n mem) w) z)) (stand_or_not_beats st (ticks n) mem (omega (arith, a.all')) (omega arith))

  -- nobody is heard: patience falls until it stands
  falls : (n y : Mind sv) → heard_most n ≡ false → Works st (ticks n) y → y.agreement.patience ≡ n.agreement.patience - 1
  falls n y h w = w.patience ∙ cond-false (heard_most n) _ (n.agreement.patience - 1) h

  number : (n y : Mind sv) → Works st (ticks n) y → y.agreement.promised.number ≡ n.agreement.promised.number
  number n y w = ap (λ (v : View). v.number) w.promised

  waits : (k : ℕ) (t : Scene (Mind sv) (Msg sv)) (n : Mind sv) → Lone t n → Spare st b n → is_member n.agreement.role ≡ true → n.agreement.promised.number ≤ b → heard_most n ≡ false → n.agreement.patience ≤ k → Stood st all group b s i m n.agreement.promised.number
  waits zero t n a p mem le h pat = ⊎_elim (λ r. r) (λ r. absurd (omega (arith, falls n r.mind h r.works, r.left'))) (beat_once t n a p mem le)
  waits (suc k) t n a p mem le h pat =
      ⊎_elim (λ r. r) (λ r. subst (λ (z : ℕ). Stood st all group b s i m z) (number n r.mind r.works)
      (waits k r.scene r.mind r.alone' r.spare (rw r.works.role mem) (omega (arith, number n r.mind r.works)) (heard_few st n r.mind (omega (arith, a.all')) r.works) (omega (arith, falls n r.mind h r.works, r.left')))) (beat_once t n a p mem le)

  -- whoever is heard, after one beat nobody is
  stands_next : (t : Scene (Mind sv) (Msg sv)) (n : Mind sv) → Lone t n → Spare st b n → is_member n.agreement.role ≡ true → n.agreement.promised.number ≤ b → Stood st all group b s i m n.agreement.promised.number
  stands_next t n a p mem le =
      ⊎_elim (λ r. r) (λ r. subst (λ (z : ℕ). Stood st all group b s i m z) (number n r.mind r.works)
      (waits r.mind.agreement.patience r.scene r.mind r.alone' r.spare (rw r.works.role mem) (omega (arith, number n r.mind r.works)) (heard_few st n r.mind (omega (arith, a.all')) r.works) (omega arith))) (beat_once t n a p mem le)

  -- it stands again, until its view is above b
  climbs : (d : ℕ) (t : Scene (Mind sv) (Msg sv)) (n : Mind sv) → Lone t n → Spare st b n → is_member n.agreement.role ≡ true → n.agreement.promised.number + d ≡ b → Stood st all group b s i m b
  climbs zero t n a p mem e = subst (λ (z : ℕ). Stood st all group b s i m z) (omega arith) (stands_next t n a p mem (omega arith))
  climbs (suc d) t n a p mem e =
      let r = stands_next t n a p mem (omega arith) in
      climbs d r.scene r.mind r.alone' (inr (r.size, and_left (is_leader r.mind.agreement.role) _ (rw r.role refl))) (rw r.role refl) (omega (arith, ap (λ (v : View). v.number) r.promised))

  pub stood : s.house i ≡ there m → m.agreement.me ≡ i → m.agreement.all ≡ all → st.size m.state ≤ 64 * b → is_member m.agreement.role ≡ true → m.agreement.promised.number ≤ b → Stood st all group b s i m b
  stood up me al size mem le =
      climbs (b - m.agreement.promised.number) s m (record { came = ([], stay); up = up; others = λ j ne. refl; frail = λ j. refl; me = me; all' = al; incarnation = refl; no = refl; waiting = refl }) (inl size) mem (omega arith)
