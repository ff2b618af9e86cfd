-- HEALING: a replica of the group that leads, and at which nothing waits, makes one of the group that recovers whole. If what it holds names that one already, it is enough to have it chosen and to say so;
-- else that one asks to be written in, the copy is chosen, then the proposal that writes it in, and then it is told so.
use Rattle.std.proofs.Common.{◌≡◌, ℕ, suc, ◌+◌, ◌-◌, ◌*◌, ◌<◌, ◌≤◌, true, false, cond, not, ◌&&◌, eqb, ◌⊎◌, List, [], ◌∷◌, get_or, set, is_some, Some, None, Option, sym, refl, ap, ◌∙◌, subst, inl, inr, ⊎_elim, arith}
use Rattle.std.proofs.lemmas.List.{get_or-set_same}
use mathlib.Core.List.Memᴰ
use mathlib.Core.List.{Memᴰ}
use Rattle.std.proofs.lemmas.Bool.{cond_both, cond-true, cond-false, cases_eq, cases_Bool, true≢false, and_left, and_right, and_from, eq-eqb, ne_eqb, eqb-false, le-leb, le-ltb, lt-ltb, not_from_false, not_from_true}
use Rattle.runs.specs.Replicas.{Scene, Seen, Says, Beat, there, turned, whole, Goes}
use Rattle.runs.specs.Progress.{Among, Enough}
use Rattle.agreement.specs.declared.View.{View}
use Rattle.agreement.specs.declared.Joining.{Joining}
use Rattle.agreement.specs.declared.Role.{Role}
use Rattle.agreement.specs.declared.Role.TheVariants.{Leader}
use Rattle.agreement.specs.Content.{Service, Proposal, limit, rank, id_of, fresh_place, roster, joined, FitView, FitProposal}
use Rattle.agreement.specs.Machine.{Msg, Propose, Alive, Join, Mind, accepted, content_of, is_member, is_leader, names, Turn, still, says, then_do, word_to, alive_to, tell_all, tell_done, forward, answer, learned, making, keeping, welcome, follows, same_view, is_named, may_hold, join_fits, with_joins, job_of, next_of, next_job, proposes, serve, ticks, heard_most, patience_of, may_stand, stand, has_job, say_again, ask_all, stand_or_not, on_beat, is_candidate, turn, code}
use Rattle.agreement.specs.Steady.{Steady}
use Rattle.agreement.proofs.Scenes.{at_same, un_there}
use Rattle.agreement.proofs.History.{made_fits}
use Rattle.agreement.proofs.Clients.{clients}
use Rattle.agreement.proofs.Carried.{forward_head_mind}
use Rattle.agreement.proofs.Stages.{Low, Follows, view_above, Elected}
use Rattle.agreement.proofs.Steps.{letter, Reaches, rel_at, beat_to, talk_to, since_stays, since_said, house_here, house_there, whole_stays, to_each_says}
use Rattle.agreement.proofs.Counting.{own_vote_else}
use Rattle.agreement.proofs.Rounds.{Followed, Leads, Settled, follows_still, polled, settling, round}
use Rattle.agreement.proofs.Settling.{answer_none, settling_mind, settling_serves, settling_tells, proposes_mind, proposes_says, settling_onward}
use Rattle.agreement.proofs.NextJob.{nothing_next, has_none, serve_none, serve_join}
use Rattle.agreement.proofs.Recovers.{asks_in, joins_is, keeps_is, welcome_is, alive_is, welcome_whole, welcome_mind, join_kept}
use Rattle.agreement.proofs.Phases.{leads_elected, leads_next, leads_beside, Bounded, low_end, bounded_same, bounded_follows}

-- a view of a number up to b is below each above b
rank_below : (all b i x : ℕ) (v : View) → all ≤ 7 → FitView all v → v.number ≤ b → rank v < rank (view_above b i x)
unfolding rank
rank_below all b i x v s f le = omega (arith, f.leader, f.incarnation)

-- a wider bound
follows_more : {sv : Service} {st : Steady sv} {d : ℕ} {v : View} {p : Proposal sv} {t : Scene (Mind sv) (Msg sv)} {j : ℕ} → Follows st d v p t j → Follows st (suc d) v p t j
follows_more f = record { mind = f.mind; up = f.up; role = f.role; promised = f.promised; below = f.below; held = omega (arith, f.held); size = omega (arith, f.size) }

-- A BEAT of a leader that has no job and whose patience is new: it says again what it holds
module _ {sv : Service} (m : Mind sv) (r : m.agreement.role ≡ Leader) (six : m.agreement.patience ≡ 6) (idle : next_job (ticks m) ≡ None) where
  patient : eqb (ticks m).agreement.patience 0 ≡ false
  patient = cond_both (heard_most m) (patience_of m.agreement - 1) (m.agreement.patience - 1) (λ (k : ℕ). eqb k 0 ≡ false) (λ _. rw r refl) (λ _. rw six refl)

  beat_is : turn Beat m ≡ then_do (tell_all (ticks m)) forward
  unfolding turn on_beat stand_or_not say_again then_do
  beat_is =
      cond-true (is_member m.agreement.role) (then_do (still (ticks m)) stand_or_not) (still m) (ap (λ (z : Role). is_member z) r)
      ∙ (cond-false (is_member m.agreement.role && may_stand (ticks m)) (stand (ticks m)) (cond (has_job (ticks m)) (serve (ticks m)) (then_do (say_again (ticks m)) forward)) (and_right (is_member m.agreement.role) _ (and_left _ _ (and_left _ _ patient)))
      ∙ (cond-false (has_job (ticks m)) (serve (ticks m)) (then_do (say_again (ticks m)) forward) (has_none (ticks m) idle)
      ∙ ap (λ (x : Turn sv). then_do x forward) (cond-true (is_leader m.agreement.role) (tell_all (ticks m)) (cond (is_candidate m.agreement.role) (ask_all (ticks m)) (still (ticks m))) (ap (λ (z : Role). is_leader z) r))))

  beat_mind : (then_do (tell_all (ticks m)) forward).mind ≡ ticks m
  unfolding then_do tell_all
  beat_mind = forward_head_mind m.waiting (ticks m)

  -- to one that has no vote
  beat_says : (j : ℕ) → j < m.agreement.all → (j ≡ m.agreement.me → ⊥) → get_or m.agreement.votes j None ≡ None → Memᴰ (Says j (Propose (accepted m) m.agreement.chosen)) (then_do (tell_all (ticks m)) forward).does
  unfolding then_do tell_all
  beat_says j lt n v =
      Memᴰ.append_left _ (to_each_says {sv = sv} (λ k. cond (eqb k m.agreement.me) [] (Says k (word_to (ticks m) k) ∷ [])) j (Says j (Propose (accepted m) m.agreement.chosen))
      (rw (ne_eqb j m.agreement.me n) (Memᴰ.head (ap (λ (w : Msg sv). Says j w) (sym (cond-false (is_some (get_or m.agreement.votes j None)) (alive_to (ticks m) j) (Propose (accepted m) m.agreement.chosen) (ap is_some v)))))) m.agreement.all lt)

module _ {sv : Service} (st : Steady sv) (all : ℕ) (two : 2 ≤ all) (small : all ≤ 7) (group : List ℕ) {n : ℕ} {es : List (Seen sv.O sv.R)} (s : Scene (Mind sv) (Msg sv)) (go : Goes (code sv) all n es s) (b : ℕ) (low : Low st all group b s) (en : Enough all group s)
    (i : ℕ) (m : Mind sv) (il : i < all) (ig : Memᴰ i group) (iw : s.frail i ≡ false) (empty : m.waiting ≡ []) (e : Elected st all group b s i m) (j : ℕ) (o : Mind sv) (jl : j < all) (jg : Memᴰ j group) (jf : s.frail j ≡ true) (ju : s.house j ≡ there o) where
  -- j is whole, and what is bounded is so by the next two views
  abbrev Healed : Type 0
  Healed = (fs : List (Seen sv.O sv.R)) × (t : Scene (Mind sv) (Msg sv)) × Among (code sv) all group s fs t × Low st all group (2 + b) t × (t.frail j ≡ false)

  jc : j ≡ i → ⊥
  jc q = true≢false (sym jf ∙ (ap s.frail q ∙ iw))

  leads_first : Leads st all group s i (suc b) e.scene e.mind
  leads_first = leads_elected st all two small group s go i il iw b m e

  here_first : e.scene.house j ≡ there o
  here_first = e.others j jf ∙ ju

  out : is_member o.agreement.role ≡ false
  out = (clients go).frail' j o jf ju

  me : o.agreement.me ≡ j
  me = let (h, r) = rel_at all group s small go e.scene leads_first.came in (r.replicas j o jl here_first).0.who.me

  -- i knows its own number, and how many there are
  mine : e.mind.agreement.me ≡ i
  mine = let (h, r) = rel_at all group s small go e.scene leads_first.came in (r.replicas i e.mind il e.up).0.who.me

  every : e.mind.agreement.all ≡ all
  every = let (h, r) = rel_at all group s small go e.scene leads_first.came in (r.replicas i e.mind il e.up).0.who.all'

  turns : e.mind.agreement.turn < all
  turns = let (h, r) = rel_at all group s small go e.scene leads_first.came in (r.replicas i e.mind il e.up).1.turn

  sees : e.mind.agreement.accepted.view.number ≡ e.mind.agreement.promised.number
  sees = ap (λ (v : View). v.number) leads_first.view

  -- what j holds fits, and so does what i holds
  fits_at : (k : ℕ) (x : Mind sv) → k < all → e.scene.house k ≡ there x → FitProposal all (accepted x)
  fits_at k x kl q = let (h, r) = rel_at all group s small go e.scene leads_first.came in made_fits all (omega arith) h r.log (accepted x) (r.replicas k x kl q).0.made

  -- j holds nothing of the new view
  module _ (p : Proposal sv) (pv : p.id.view ≡ view_above b i m.agreement.incarnation) where
    lower : rank o.agreement.accepted.view < rank p.id.view
    lower = rw pv (rank_below all b i m.agreement.incarnation o.agreement.accepted.view small (fits_at j o jl here_first).view (low.held j o jl jg ju))

    follows_not : follows p o ≡ false
    follows_not = and_left (same_view p o) _ (ne_eqb (rank o.agreement.accepted.view) (rank p.id.view) (λ q. let z = lower in omega arith))

    may_keep : may_hold p o ≡ true
    may_keep = le-leb (id_of (accepted o)) (id_of p) (let f = (fits_at j o jl here_first).seq in let z = lower in omega arith)

  -- THE END: j is welcome by p, which it has kept
  finish : (t : Scene (Mind sv) (Msg sv)) (p : Proposal sv) (k x : Mind sv) (v : View) (q : Proposal sv) → t.house i ≡ there x → Bounded st (suc (suc b)) x → Followed st all group s i (suc (suc b)) v q t → v.number ≤ suc (suc b) → ((y : ℕ) → s.frail y ≡ true → (y ≡ j → ⊥) → t.house y ≡ s.house y) → p.id.view.number ≤ suc (suc b) → st.size p.content.state ≤ 64 * suc (suc b) → Reaches all group s (turned (code sv) j (welcome i p k) t) → Healed
  finish t p k x v q ix bx fol vn others pn ps w = (w.0, u, w.1, subst (λ (d : ℕ). Low st all group d u) (let z : suc (suc b) ≡ 2 + b = omega arith in z) (low_end st all two small group s go i il iw b (suc (suc b)) (omega arith) low u w bounds), done)
    where
      u : Scene (Mind sv) (Msg sv)
      u = turned (code sv) j (welcome i p k) t

      done : (turned (code sv) j (welcome i p k) t).frail j ≡ false
      done = at_same j (t.frail j && not (whole (welcome i p k).does)) t.frail j refl ∙ and_right (t.frail j) _ (not_from_true _ (welcome_whole i p k))

      bounds : (y : ℕ) (z : Mind sv) → y < all → Memᴰ y group → (turned (code sv) j (welcome i p k) t).house y ≡ there z → Bounded st (suc (suc b)) z
      bounds y z yl yg a = ⊎_elim (λ c. here' c) (λ c. there' c (cases_eq y i)) (cases_eq y j)
        where
          here' : y ≡ j → Bounded st (suc (suc b)) z
          here' c = rw (← un_there (welcome i p k).mind z (sym (at_same j (there (welcome i p k).mind) t.house y c) ∙ a), welcome_mind i p k) (record { view = pn; held = pn; size = ps })

          there' : (y ≡ j → ⊥) → (y ≡ i) ⊎ (y ≡ i → ⊥) → Bounded st (suc (suc b)) z
          there' c (inl d) = rw (← un_there x z (sym ix ∙ (ap t.house (sym d) ∙ (sym (house_there all group s t j (welcome i p k) y c) ∙ a)))) bx
          there' c (inr d) =
              ⊎_elim (λ f. bounded_same st all two small group s go i il iw b (suc (suc b)) (omega arith) low t y yl yg (others y f c) z (sym (house_there all group s t j (welcome i p k) y c) ∙ a))
              (λ f. bounded_follows st all two small group s go i il iw (suc (suc b)) (suc (suc b)) (omega arith) v q t y vn (fol y yl yg f d) z (sym (house_there all group s t j (welcome i p k) y c) ∙ a)) (cases_Bool (s.frail y))

  -- IT IS NAMED by what i holds: it keeps that; the round; i beats, and says that it is chosen
  module _ (named : is_named (accepted e.mind) o ≡ true) where
    abbrev kept : Turn sv
    kept = still (keeping (accepted e.mind) o)

    abbrev kept_scene : Scene (Mind sv) (Msg sv)
    kept_scene = turned (code sv) j kept e.scene

    leads_kept : Leads st all group s i (suc b) kept_scene e.mind
    unfolding whole
    leads_kept = leads_beside st all two small group s go i il iw (suc b) e.scene e.mind leads_first j kept jf refl
        (talk_to all group s e.scene j o (letter i j (Propose (accepted e.mind) false)) kept jl jg ig leads_first.came here_first (leads_first.told j jl jc) refl (keeps_is i o out (accepted e.mind) (follows_not (accepted e.mind) e.view) named (may_keep (accepted e.mind) e.view)))

    settled_kept : Settled st all group s i (suc b) kept_scene e.mind
    settled_kept = round st all small group s go i il ig iw (suc b) kept_scene e.mind en leads_kept

    -- i after the round
    abbrev knows : Mind sv
    knows = learned (polled settled_kept.votes settled_kept.heard e.mind)

    none : next_job (ticks knows) ≡ None
    none = nothing_next (ticks knows) e.joins e.calls (e.waiting ∙ empty)

    knows_is : (settling (polled settled_kept.votes settled_kept.heard e.mind)).mind ≡ knows
    knows_is = settling_mind (polled settled_kept.votes settled_kept.heard e.mind) ∙ (ap (λ (x : Turn sv). (serve x.mind).mind) (answer_none knows (e.waiting ∙ empty)) ∙ ap (λ (x : Turn sv). x.mind) (serve_none knows (nothing_next knows e.joins e.calls (e.waiting ∙ empty))))

    abbrev known_scene : Scene (Mind sv) (Msg sv)
    known_scene = turned (code sv) i (settling (polled settled_kept.votes settled_kept.heard e.mind)) settled_kept.before

    abbrev said : Turn sv
    said = then_do (tell_all (ticks knows)) forward

    abbrev said_scene : Scene (Mind sv) (Msg sv)
    said_scene = turned (code sv) i said known_scene

    said_to : Reaches all group s said_scene
    said_to = beat_to all group s known_scene i knows said il ig settled_kept.came (house_here all group s settled_kept.before i (settling (polled settled_kept.votes settled_kept.heard e.mind)) ∙ ap there knows_is) (beat_is knows refl e.patience none)

    -- who is not i is as it was before i settled
    said_else : (y : ℕ) → (y ≡ i → ⊥) → said_scene.house y ≡ settled_kept.before.house y
    said_else y c = house_there all group s known_scene i said y c ∙ house_there all group s settled_kept.before i (settling (polled settled_kept.votes settled_kept.heard e.mind)) y c

    votes_none : get_or settled_kept.votes j None ≡ None
    votes_none = settled_kept.silent j jf ∙ rw e.votes (own_vote_else e.mind.agreement j (λ q. jc (q ∙ mine)))

    pub heals_named : Healed
    heals_named =
        finish said_scene (accepted e.mind) (keeping (accepted e.mind) o) said.mind e.mind.agreement.promised (accepted e.mind) (house_here all group s known_scene i said)
        (rw (beat_mind knows refl e.patience none) (record { view = omega (arith, leads_first.number); held = omega (arith, leads_first.number, sees); size = omega (arith, e.size) }))
        (λ y yl yg yw yc. follows_more (follows_still (said_else y yc) (settled_kept.voters y yl yg yw yc))) (omega (arith, leads_first.number))
        (λ y yf yc. said_else y (λ q. true≢false (sym yf ∙ (ap s.frail q ∙ iw))) ∙ (settled_kept.beside.others y yf ∙ (house_there all group s e.scene j kept y yc ∙ e.others y yf)))
        (omega (arith, leads_first.number, sees)) (omega (arith, e.size))
        (talk_to all group s said_scene j (keeping (accepted e.mind) o) (letter i j (Propose (accepted e.mind) true)) (welcome i (accepted e.mind) (keeping (accepted e.mind) o)) jl jg ig said_to
        (said_else j jc ∙ (settled_kept.beside.others j jf ∙ house_here all group s e.scene j kept))
        (since_said all group s known_scene i j (Propose (accepted e.mind) true) said settled_kept.came (beat_says knows refl e.patience none j (omega (arith, every)) (λ q. jc (q ∙ mine)) votes_none)) refl
        (welcome_is i (keeping (accepted e.mind) o) refl (accepted e.mind) (and_right (same_view (accepted e.mind) (keeping (accepted e.mind) o)) _ (le-ltb _ _ (omega arith))) named (le-leb _ _ (omega arith))))

  -- IT IS NOT NAMED: it asks to be written in, before the round
  module _ (other : is_named (accepted e.mind) o ≡ false) where
    abbrev wants : Joining
    wants = asks_in i o out (accepted e.mind)

    abbrev wants_in : Turn sv
    wants_in = says i (Join wants) o

    abbrev asked_scene : Scene (Mind sv) (Msg sv)
    asked_scene = turned (code sv) j wants_in e.scene

    leads_asked : Leads st all group s i (suc b) asked_scene e.mind
    unfolding whole
    leads_asked = leads_beside st all two small group s go i il iw (suc b) e.scene e.mind leads_first j wants_in jf refl
        (talk_to all group s e.scene j o (letter i j (Propose (accepted e.mind) false)) wants_in jl jg ig leads_first.came here_first (leads_first.told j jl jc) refl (joins_is i o out (accepted e.mind) false (follows_not (accepted e.mind) e.view) other))

    fits : join_fits j wants (accepted e.mind) ≡ true
    fits = and_from (names j wants.replaces (accepted e.mind)) _ (eq-eqb _ _ (ap (λ (k : ℕ). roster (accepted e.mind) k) (sym me))) (not_from_false _ (ne_eqb o.agreement.incarnation (roster (accepted e.mind) o.agreement.me) (λ q. eqb-false (roster (accepted e.mind) o.agreement.me) o.agreement.incarnation other (sym q))))

    -- i takes it up
    abbrev asked : Mind sv
    asked = with_joins (set e.mind.agreement.joins j (Some wants)) e.mind

    abbrev queued_scene : Scene (Mind sv) (Msg sv)
    queued_scene = turned (code sv) i (still asked) asked_scene

    leads_queued : Leads st all group s i (suc b) queued_scene asked
    leads_queued =
        record {
          came = talk_to all group s asked_scene i e.mind (letter j i (Join wants)) (still asked) il ig jg leads_asked.came leads_asked.up (since_said all group s e.scene j i (Join wants) wants_in leads_first.came (Memᴰ.head refl)) refl (join_kept j wants e.mind e.role e.chosen fits);
          frail = λ y. whole_stays all group s asked_scene i (still asked) (leads_asked.frail i ∙ iw) y ∙ leads_asked.frail y;
          up = house_here all group s asked_scene i (still asked);
          role = e.role;
          view = leads_first.view;
          chosen = e.chosen;
          short = leads_first.short;
          seats = leads_first.seats;
          own = leads_first.own;
          number = leads_first.number;
          size = e.size;
          told = λ y yl yc. since_stays all group s asked_scene i (still asked) _ (leads_asked.told y yl yc);
          voters = λ y yl yg yw yc. follows_still (house_there all group s asked_scene i (still asked) y yc) (leads_asked.voters y yl yg yw yc);
        }

    settled_queued : Settled st all group s i (suc b) queued_scene asked
    settled_queued = round st all small group s go i il ig iw (suc b) queued_scene asked en leads_queued

    -- after the round i writes j in
    abbrev polls : Mind sv
    polls = polled settled_queued.votes settled_queued.heard asked

    abbrev writes : Proposal sv
    writes = next_of (joined j o.agreement.incarnation (content_of e.mind)) (accepted e.mind)

    abbrev busy' : Mind sv
    busy' = with_joins (set asked.agreement.joins j None) (job_of j (learned polls))

    serves_join : serve (answer (learned polls)).mind ≡ proposes writes busy'
    serves_join =
        ap (λ (x : Turn sv). serve x.mind) (answer_none (learned polls) (e.waiting ∙ empty))
        ∙ serve_join (learned polls) j wants (omega (arith, every)) (omega arith) (omega (arith, every, turns)) (ap (λ (l : List (Option Joining)). set l j (Some wants)) e.joins) fits (lt-ltb (suc e.mind.agreement.accepted.seq) limit (omega (arith, e.seq)))

    writes_is : (settling polls).mind ≡ making writes busy'
    writes_is = settling_mind polls ∙ (ap (λ (x : Turn sv). x.mind) serves_join ∙ proposes_mind writes busy' (omega (arith, every)))

    abbrev written_scene : Scene (Mind sv) (Msg sv)
    written_scene = turned (code sv) i (settling polls) settled_queued.before

    leads_written : Leads st all group s i (suc (suc b)) written_scene (making writes busy')
    leads_written =
        leads_next st all two small group s go i il iw (suc b) queued_scene asked settled_queued writes busy' writes_is every mine refl leads_first.view (omega arith) leads_first.number (omega (arith, e.size))
        (λ y yl yc. settling_serves polls (Says y (Propose writes false)) (subst (λ (x : Turn sv). Memᴰ (Says y (Propose writes false)) x.does) (sym serves_join) (proposes_says writes busy' (omega (arith, every)) y (omega (arith, every)) (λ q. yc (q ∙ mine)))))

    -- j keeps that
    named_now : roster writes j ≡ o.agreement.incarnation
    named_now = ap (λ q. q.incarnation) (get_or-set_same e.mind.agreement.places j (fresh_place o.agreement.incarnation) (fresh_place 0) (omega (arith, (fits_at i e.mind il e.up).arrays.0)))

    is_named_now : is_named writes o ≡ true
    is_named_now = eq-eqb _ _ (ap (λ (k : ℕ). roster writes k) me ∙ named_now)

    here_written : written_scene.house j ≡ there o
    here_written = house_there all group s settled_queued.before i (settling polls) j jc ∙ (settled_queued.beside.others j jf ∙ (house_there all group s asked_scene i (still asked) j jc ∙ house_here all group s e.scene j wants_in))

    abbrev keeps_it : Turn sv
    keeps_it = still (keeping writes o)

    abbrev ready_scene : Scene (Mind sv) (Msg sv)
    ready_scene = turned (code sv) j keeps_it written_scene

    leads_ready : Leads st all group s i (suc (suc b)) ready_scene (making writes busy')
    unfolding whole
    leads_ready = leads_beside st all two small group s go i il iw (suc (suc b)) written_scene (making writes busy') leads_written j keeps_it jf refl
        (talk_to all group s written_scene j o (letter i j (Propose writes false)) keeps_it jl jg ig leads_written.came here_written (leads_written.told j jl jc) refl (keeps_is i o out writes (follows_not writes e.view) is_named_now (may_keep writes e.view)))

    settled_ready : Settled st all group s i (suc (suc b)) ready_scene (making writes busy')
    settled_ready = round st all small group s go i il ig iw (suc (suc b)) ready_scene (making writes busy') en leads_ready

    -- and is told that it is chosen
    abbrev polls' : Mind sv
    polls' = polled settled_ready.votes settled_ready.heard (making writes busy')

    abbrev word : Msg sv
    word = Alive writes.id true (roster writes j)

    tells_it : Memᴰ (Says j word) (tell_done (Some j) (learned polls')).does
    unfolding tell_done
    tells_it = subst (λ (x : Turn sv). Memᴰ (Says j word) x.does) (sym (cond-false (eqb j e.mind.agreement.me) (still (learned polls')) (says j word (learned polls')) (ne_eqb j e.mind.agreement.me (λ q. jc (q ∙ mine))))) (Memᴰ.head refl)

    abbrev told_scene : Scene (Mind sv) (Msg sv)
    told_scene = turned (code sv) i (settling polls') settled_ready.before

    told_else : (y : ℕ) → (y ≡ i → ⊥) → told_scene.house y ≡ settled_ready.before.house y
    told_else y c = house_there all group s settled_ready.before i (settling polls') y c

    welcomed : Reaches all group s (turned (code sv) j (welcome i writes (keeping writes o)) told_scene)
    welcomed =
        talk_to all group s told_scene j (keeping writes o) (letter i j word) (welcome i writes (keeping writes o)) jl jg ig settled_ready.came (told_else j jc ∙ (settled_ready.beside.others j jf ∙ house_here all group s written_scene j keeps_it))
        (since_said all group s settled_ready.before i j word (settling polls') settled_ready.led (settling_tells polls' (Says j word) tells_it)) refl
        (alive_is i (keeping writes o) refl (roster writes j) (eq-eqb _ _ named_now) (and_from _ _ (eq-eqb _ _ refl) is_named_now))

    -- those that are frail, but for j, did nothing
    idle : (y : ℕ) → s.frail y ≡ true → (y ≡ j → ⊥) → told_scene.house y ≡ s.house y
    idle y yf yc =
        told_else y yi ∙ (settled_ready.beside.others y yf ∙ (house_there all group s written_scene j keeps_it y yc ∙ (house_there all group s settled_queued.before i (settling polls) y yi
        ∙ (settled_queued.beside.others y yf ∙ (house_there all group s asked_scene i (still asked) y yi ∙ (house_there all group s e.scene j wants_in y yc ∙ e.others y yf))))))
      where
        yi : y ≡ i → ⊥
        yi q = true≢false (sym yf ∙ (ap s.frail q ∙ iw))

    pub heals_other : Healed
    heals_other =
        let k = settling_onward st polls' in
        finish told_scene writes (keeping writes o) (settling polls').mind e.mind.agreement.promised writes (house_here all group s settled_ready.before i (settling polls'))
        (record { view = omega (arith, leads_first.number, ap (λ (v : View). v.number) k.promised); held = omega (arith, leads_first.number, sees, ap (λ (v : View). v.number) k.view); size = omega (arith, e.size, k.size) })
        (λ y yl yg yw yc. follows_still (told_else y yc) (settled_ready.voters y yl yg yw yc)) (omega (arith, leads_first.number)) idle (omega (arith, leads_first.number, sees)) (omega (arith, e.size)) welcomed

pub healing : {sv : Service} (st : Steady sv) (all : ℕ) → 2 ≤ all → all ≤ 7 → (group : List ℕ) {n : ℕ} {es : List (Seen sv.O sv.R)} (s : Scene (Mind sv) (Msg sv)) → Goes (code sv) all n es s → (b : ℕ) → Low st all group b s → Enough all group s →
    (i : ℕ) (m : Mind sv) → i < all → Memᴰ i group → s.frail i ≡ false → m.waiting ≡ [] → Elected st all group b s i m → (j : ℕ) (o : Mind sv) → j < all → Memᴰ j group → s.frail j ≡ true → s.house j ≡ there o →
    (fs : List (Seen sv.O sv.R)) × (t : Scene (Mind sv) (Msg sv)) × Among (code sv) all group s fs t × Low st all group (2 + b) t × (t.frail j ≡ false)
healing st all two small group s go b low en i m il ig iw empty e j o jl jg jf ju =
    ⊎_elim (λ y. heals_named st all two small group s go b low en i m il ig iw empty e j o jl jg jf ju y) (λ y. heals_other st all two small group s go b low en i m il ig iw empty e j o jl jg jf ju y) (cases_Bool (is_named (accepted e.mind) o))
