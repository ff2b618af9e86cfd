-- ANSWERING: a replica of the group that leads answers its oldest call. If what it holds counts that call already, it answers when that is chosen; else it does the call next, and answers when that is chosen.
use Rattle.std.proofs.Common.{◌≡◌, ℕ, suc, ◌+◌, ◌*◌, ◌<◌, ◌≤◌, true, false, ◌&&◌, eqb, ltb, List, ◌∷◌, length, get_or, set, Some, None, Option, sym, refl, ap, ◌∙◌, subst, ⊎_elim, arith}
use Rattle.std.proofs.lemmas.List.{get_or-set_same}
use mathlib.Core.List.{Memᴰ}
use Rattle.std.proofs.lemmas.Bool.{cond_both, cond-true, cases_eq, cases_Bool, true≢false, and_from, and_right, eq-eqb, ne_eqb, lt-ltb}
use Rattle.runs.specs.Replicas.{Scene, Seen, Says, there, turned, Goes}
use Rattle.runs.specs.Progress.{Among, Enough}
use Rattle.agreement.specs.declared.View.{View}
use Rattle.agreement.specs.declared.Place.{Place}
use Rattle.agreement.specs.Content.{Service, Content, Proposal, limit, seven, place_in, place_at, roster, called, FitProposal}
use Rattle.agreement.specs.Machine.{Msg, Propose, Waiting, Mind, accepted, content_of, names, Turn, still, may_answer, say_kept, reply_to, hands, answer_head, answer, learned, making, call_fits, own_call, with_calls, with_waiting, job_of, next_of, proposes, serve, then_do, code}
use Rattle.agreement.specs.Steady.{Steady}
use Rattle.agreement.specs.Log.{Event, asks, At, Log}
use Rattle.agreement.proofs.Scenes.{un_there}
use Rattle.agreement.proofs.Carried.{forward_head_mind}
use Rattle.agreement.proofs.History.{made_fits}
use Rattle.agreement.proofs.Climbs.{called_place, ask_once}
use Rattle.agreement.proofs.Inv.{Lined, MindInv}
use Rattle.agreement.proofs.LastDone.{LastDone, last_done}
use Rattle.agreement.proofs.Abreast.{one_ahead, not_behind}
use Rattle.agreement.proofs.Among.{among_goes_here}
use Rattle.agreement.proofs.Stages.{Low, Elected, low_more}
use Rattle.agreement.proofs.Steps.{rel_at, house_here, house_there}
use Rattle.agreement.proofs.Rounds.{Leads, Settled, follows_still, polled, settling, round, named_by}
use Rattle.agreement.proofs.Settling.{answer_not, settling_mind, settling_serves, proposes_mind, proposes_says, serve_onward, settling_onward, called_size}
use Rattle.agreement.proofs.NextJob.{serve_call}
use Rattle.agreement.proofs.Phases.{leads_elected, leads_next, Bounded, low_end, bounded_same, bounded_follows}

-- an answer is given, where it may be and there is something to say
module _ {sv : Service} (m : Mind sv) (t : Waiting sv) (ts : List (Waiting sv)) (r : sv.R) where
  hands_one : (hands t.number ts (Some r) m).mind.waiting ≡ ts
  unfolding hands then_do
  hands_one = ap (λ (z : Mind sv). z.waiting) (forward_head_mind ts (with_waiting ts (suc m.agreement.no) m))

  answers_one : m.waiting ≡ t ∷ ts → may_answer m ≡ true → reply_to t.call m ≡ Some r → (answer m).mind.waiting ≡ ts
  unfolding answer_head
  answers_one e may rep =
      ap (λ (l : List (Waiting sv)). (answer_head l m).mind.waiting) e
      ∙ (ap (λ (x : Turn sv). x.mind.waiting) (cond-true (may_answer m) (hands t.number ts (reply_to t.call m) m) (still m) may) ∙ (ap (λ (o : Option sv.R). (hands t.number ts o m).mind.waiting) rep ∙ hands_one))

-- there is something to say of a read, and of a write of which something was kept
replies : {sv : Service} (o : sv.O) (m : Mind sv) → (sv.is_read o ≡ false → (k : sv.K) × (get_or m.outcomes m.agreement.me None ≡ Some k)) → (r : sv.R) × (reply_to o m ≡ Some r)
replies {sv} o m f =
    cond_both (sv.is_read o) (Some (sv.clerk.reply o m.state)) (say_kept sv o (get_or m.outcomes m.agreement.me None)) (λ (q : Option sv.R). (r : sv.R) × (q ≡ Some r)) (λ _. (sv.clerk.reply o m.state, refl))
    (λ e. let (k, q) = f e in (sv.say o k, ap (λ (z : Option sv.K). say_kept sv o z) q))

module _ {sv : Service} (st : Steady sv) (all : ℕ) (two : 2 ≤ all) (small : all ≤ 7) (group : List ℕ) {n : ℕ} {es : List (Seen sv.O sv.R)} (s : Scene (Mind sv) (Msg sv)) (go : Goes (code sv) all n es s) (b : ℕ) (low : Low st all group b s) (en : Enough all group s) (i : ℕ) (il : i < all) (ig : Memᴰ i group) (iw : s.frail i ≡ false) where
  -- fewer calls than k wait at i, and what is bounded is so by d
  abbrev pub Answers : (d k : ℕ) → Type 0
  Answers d k = (fs : List (Seen sv.O sv.R)) × (t : Scene (Mind sv) (Msg sv)) × Among (code sv) all group s fs t × Low st all group d t × (o : Mind sv) × (t.house i ≡ there o) × (length o.waiting < k)

  -- IT IS COUNTED by what i holds: i answers as soon as that is chosen
  module _ (d : ℕ) (le : b ≤ d) (t : Scene (Mind sv) (Msg sv)) (m : Mind sv) (a : Leads st all group s i d t m) (others : (y : ℕ) → s.frail y ≡ true → t.house y ≡ s.house y) (w : Waiting sv) (ws : List (Waiting sv)) (ow : m.waiting ≡ w ∷ ws)
      (next : (place_at (accepted m) i).no ≡ suc m.agreement.no) (kept : sv.is_read w.call ≡ false → (k : sv.K) × (get_or m.outcomes i None ≡ Some k)) where
    me : m.agreement.me ≡ i
    me = let (h, r) = rel_at all group s small go t a.came in (r.replicas i m il a.up).0.who.me

    settled : Settled st all group s i d t m
    settled = round st all small group s go i il ig iw d t m en a

    abbrev polls : Mind sv
    polls = polled settled.votes settled.heard m

    may : may_answer (learned polls) ≡ true
    may = and_from (names m.agreement.me m.agreement.incarnation (accepted m)) _
        (eq-eqb _ _ (ap (λ (k : ℕ). roster (accepted m) k) me ∙ named_by st all small group s go i il ig iw t m a.came a.up i m il a.up (rw a.role refl) (omega arith)))
        (eq-eqb _ _ (ap (λ (k : ℕ). (place_at (accepted m) k).no) me ∙ next))

    said : (r : sv.R) × (reply_to w.call (learned polls) ≡ Some r)
    said = replies w.call (learned polls) (λ e. let (k, q) = kept e in (k, ap (λ (y : ℕ). get_or m.outcomes y None) me ∙ q))

    fewer : length (settling polls).mind.waiting ≤ length ws
    fewer = rw (settling_mind polls) (let f = (serve_onward st (answer (learned polls)).mind).fewer in omega (arith, ap length (answers_one (learned polls) w ws said.0 ow may said.1)))

    abbrev last : Scene (Mind sv) (Msg sv)
    last = turned (code sv) i (settling polls) settled.before

    bounds : (y : ℕ) (z : Mind sv) → y < all → Memᴰ y group → last.house y ≡ there z → Bounded st (suc d) z
    bounds y z yl yg q = ⊎_elim here' there' (cases_eq y i)
      where
        here' : y ≡ i → Bounded st (suc d) z
        here' c =
            let k = settling_onward st polls in
            rw (← un_there (settling polls).mind z (sym (house_here all group s settled.before i (settling polls)) ∙ (ap last.house (sym c) ∙ q)))
            (record { view = omega (arith, a.number, ap (λ (v : View). v.number) k.promised); held = omega (arith, a.number, ap (λ (v : View). v.number) a.view, ap (λ (v : View). v.number) k.view); size = omega (arith, a.size, k.size) })

        there' : (y ≡ i → ⊥) → Bounded st (suc d) z
        there' c =
            ⊎_elim (λ f. bounded_same st all two small group s go i il iw b (suc d) (omega arith) low last y yl yg (house_there all group s settled.before i (settling polls) y c ∙ (settled.beside.others y f ∙ others y f)) z q)
            (λ f. bounded_follows st all two small group s go i il iw (suc d) d (omega arith) m.agreement.promised (accepted m) last y (omega (arith, a.number)) (follows_still (house_there all group s settled.before i (settling polls) y c) (settled.voters y yl yg f c)) z q) (cases_Bool (s.frail y))

    pub answers_counted : Answers (suc d) (suc (length ws))
    answers_counted = (settled.came.0, last, settled.came.1, low_end st all two small group s go i il iw b (suc d) (omega arith) low last settled.came bounds, (settling polls).mind, house_here all group s settled.before i (settling polls), omega (arith, fewer))

  -- IT IS NOT COUNTED yet: i does it next
  module _ (d : ℕ) (le : b ≤ d) (t : Scene (Mind sv) (Msg sv)) (m : Mind sv) (a : Leads st all group s i d t m) (others : (y : ℕ) → s.frail y ≡ true → t.house y ≡ s.house y) (w : Waiting sv) (ws : List (Waiting sv)) (ow : m.waiting ≡ w ∷ ws)
      (exact : (place_at (accepted m) i).no ≡ m.agreement.no) (js : m.agreement.joins ≡ seven None) (cs : m.calls ≡ seven None) (sq : suc m.agreement.accepted.seq < limit) (nb : suc m.agreement.no < limit) (calm : st.size m.state < 64 * (st.most + 256)) where
    self : (m.agreement.me ≡ i) × (m.agreement.all ≡ all) × (m.agreement.turn < all)
    self = let (h, r) = rel_at all group s small go t a.came in let v = r.replicas i m il a.up in (v.0.who.me, v.0.who.all', v.1.turn)

    fits_here : FitProposal all (accepted m)
    fits_here = let (h, r) = rel_at all group s small go t a.came in made_fits all (omega arith) h r.log (accepted m) (r.replicas i m il a.up).0.made

    named : roster (accepted m) i ≡ m.agreement.incarnation
    named = named_by st all small group s go i il ig iw t m a.came a.up i m il a.up (rw a.role refl) (omega arith)

    settled_copy : Settled st all group s i d t m
    settled_copy = round st all small group s go i il ig iw d t m en a

    abbrev copies : Mind sv
    copies = polled settled_copy.votes settled_copy.heard m

    abbrev doing : Proposal sv
    doing = next_of (called i w.call (content_of m)) (accepted m)

    abbrev busy' : Mind sv
    busy' = with_calls (set m.calls i None) (job_of i (learned copies))

    fits_call : call_fits i (own_call w (learned copies)) (accepted m) ≡ true
    fits_call =
        and_from (names i m.agreement.incarnation (accepted m) && (eqb (suc m.agreement.no) (suc (place_at (accepted m) i).no) && ltb (suc m.agreement.no) limit)) (sv.calm m.state)
        (and_from (names i m.agreement.incarnation (accepted m)) _ (eq-eqb _ _ named) (and_from _ _ (eq-eqb _ _ (ap suc (sym exact))) (lt-ltb _ _ nb))) (st.calm m.state calm)

    may_not : may_answer (learned copies) ≡ false
    may_not = and_right (names m.agreement.me m.agreement.incarnation (accepted m)) _ (ne_eqb (place_at (accepted m) m.agreement.me).no (suc m.agreement.no) (λ q. let z = ap (λ (k : ℕ). (place_at (accepted m) k).no) self.0 in omega arith))

    serves_call : serve (answer (learned copies)).mind ≡ proposes doing busy'
    serves_call = ap (λ (x : Turn sv). serve x.mind) (answer_not (learned copies) may_not) ∙ serve_call (learned copies) i w ws (omega (arith, self.1)) self.0 (omega (arith, self.1, self.2)) js cs ow fits_call (lt-ltb (suc m.agreement.accepted.seq) limit sq)

    doing_is : (settling copies).mind ≡ making doing busy'
    doing_is = settling_mind copies ∙ (ap (λ (x : Turn sv). x.mind) serves_call ∙ proposes_mind doing busy' (omega (arith, self.1)))

    abbrev doing_scene : Scene (Mind sv) (Msg sv)
    doing_scene = turned (code sv) i (settling copies) settled_copy.before

    leads_doing : Leads st all group s i (suc d) doing_scene (making doing busy')
    leads_doing =
        leads_next st all two small group s go i il iw d t m settled_copy doing busy' doing_is self.1 self.0 refl a.view (omega arith) a.number (let z = called_size st i w.call (content_of m) in omega (arith, a.size))
        (λ y yl yc. settling_serves copies (Says y (Propose doing false)) (subst (λ (x : Turn sv). Memᴰ (Says y (Propose doing false)) x.does) (sym serves_call) (proposes_says doing busy' (omega (arith, self.1)) y (omega (arith, self.1)) (λ q. yc (q ∙ self.0)))))

    -- what is kept of a write
    kept_now : sv.is_read w.call ≡ false → (k : sv.K) × (get_or (called i w.call (content_of m)).outcomes i None ≡ Some k)
    kept_now f = (sv.keep w.call m.state, rw f (get_or-set_same m.outcomes i (Some (sv.keep w.call m.state)) None (omega (arith, fits_here.arrays.1))))

    pub answers_uncounted : Answers (suc (suc d)) (suc (length ws))
    answers_uncounted =
        answers_counted (suc d) (omega arith) doing_scene (making doing busy') leads_doing (λ y yf. house_there all group s settled_copy.before i (settling copies) y (λ q. true≢false (sym yf ∙ (ap s.frail q ∙ iw))) ∙ (settled_copy.beside.others y yf ∙ others y yf)) w ws ow
        (ap (λ (q : Place). q.no) (called_place i w.call (content_of m) (omega (arith, fits_here.arrays.0))) ∙ ap suc exact) kept_now

-- something is kept of a write that came in as the last that a content counts
kept_of : {sv : Service} (all : ℕ) (h : List (Event sv)) → Log all h → (i : ℕ) (c : Content sv) (x k t n : ℕ) (o : sv.O) → (place_in c i).incarnation ≡ x → (place_in c i).no ≡ k → At h t (asks i x k n o) → LastDone h i c → sv.is_read o ≡ false → (q : sv.K) × (get_or c.outcomes i None ≡ Some q)
kept_of {sv} all h lg i c x k t n o ex ek a d f = d.kept (ap sv.is_read (ask_once all h lg d.time t i x k d.number n d.call o (subst (λ (z : ℕ). At h d.time (asks i x z d.number d.call)) ek (subst (λ (z : ℕ). At h d.time (asks i z (place_in c i).no d.number d.call)) ex d.asked)) a).1 ∙ f)

module _ {sv : Service} (st : Steady sv) (all : ℕ) (two : 2 ≤ all) (small : all ≤ 7) (group : List ℕ) {n : ℕ} {es : List (Seen sv.O sv.R)} (s : Scene (Mind sv) (Msg sv)) (go : Goes (code sv) all n es s) (b : ℕ) (low : Low st all group b s) (most : b < st.most + 255) (en : Enough all group s)
    (i : ℕ) (m : Mind sv) (il : i < all) (ig : Memᴰ i group) (iw : s.frail i ≡ false) (iu : s.house i ≡ there m) (w : Waiting sv) (ws : List (Waiting sv)) (ow : m.waiting ≡ w ∷ ws) (e : Elected st all group b s i m) where
  leads_first : Leads st all group s i (suc b) e.scene e.mind
  leads_first = leads_elected st all two small group s go i il iw b m e

  names_leader : roster (accepted e.mind) i ≡ e.mind.agreement.incarnation
  names_leader = named_by st all small group s go i il ig iw e.scene e.mind leads_first.came e.up i e.mind il e.up (rw e.role refl) (omega arith)

  low' : e.mind.agreement.no ≤ (place_at (accepted e.mind) i).no
  low' = not_behind all small (among_goes_here go e.among).1 i e.mind il e.up names_leader

  high' : (place_at (accepted e.mind) i).no ≤ suc e.mind.agreement.no
  high' = one_ahead all small (among_goes_here go e.among).1 i e.mind il e.up names_leader

  -- the call that is counted is the oldest that waits: so if it is a write, something is kept of it
  kept_for : (place_at (accepted e.mind) i).no ≡ suc e.mind.agreement.no → sv.is_read w.call ≡ false → (k : sv.K) × (get_or e.mind.outcomes i None ≡ Some k)
  kept_for next f = let (h, r) = rel_at all group s small go e.scene leads_first.came in from h r.log (r.replicas i e.mind il e.up)
    where
      from : (h : List (Event sv)) → Log all h → MindInv all h i e.mind → (k : sv.K) × (get_or e.mind.outcomes i None ≡ Some k)
      from h lg v = kept_of all h lg i (content_of e.mind) e.mind.agreement.incarnation (suc e.mind.agreement.no) waits.1.0 w.number w.call names_leader next waits.1.1 (last_done all h lg (omega arith) i (omega arith) (accepted e.mind) v.0.made (omega arith)) f
        where
          waits : Lined h i e.mind.agreement.incarnation (suc e.mind.agreement.no) (w ∷ ws)
          waits = subst (Lined h i e.mind.agreement.incarnation (suc e.mind.agreement.no)) (e.waiting ∙ ow) v.1.waits

  answers : Answers st all two small group s go b low en i il ig iw (suc (suc (suc b))) (suc (length ws))
  answers = ⊎_elim counted' uncounted (cases_eq (place_at (accepted e.mind) i).no (suc e.mind.agreement.no))
    where
      counted' : (place_at (accepted e.mind) i).no ≡ suc e.mind.agreement.no → Answers st all two small group s go b low en i il ig iw (suc (suc (suc b))) (suc (length ws))
      counted' q = let (fs, t, x, l, o, up, lt) = answers_counted st all two small group s go b low en i il ig iw (suc b) (omega arith) e.scene e.mind leads_first e.others w ws (e.waiting ∙ ow) q (kept_for q) in (fs, t, x, low_more (omega arith) l, o, up, lt)

      uncounted : ((place_at (accepted e.mind) i).no ≡ suc e.mind.agreement.no → ⊥) → Answers st all two small group s go b low en i il ig iw (suc (suc (suc b))) (suc (length ws))
      uncounted q = answers_uncounted st all two small group s go b low en i il ig iw (suc b) (omega arith) e.scene e.mind leads_first e.others w ws (e.waiting ∙ ow) (let l = low' in let h = high' in omega arith) e.joins e.calls (omega (arith, e.seq)) (omega (arith, e.no, low.calls i m il ig iu)) (omega (arith, e.size))

pub answering : {sv : Service} (st : Steady sv) (all : ℕ) → 2 ≤ all → all ≤ 7 → (group : List ℕ) {n : ℕ} {es : List (Seen sv.O sv.R)} (s : Scene (Mind sv) (Msg sv)) → Goes (code sv) all n es s → (b : ℕ) → Low st all group b s → b < st.most + 255 → Enough all group s →
    (i : ℕ) (m : Mind sv) → i < all → Memᴰ i group → s.frail i ≡ false → s.house i ≡ there m → (w : Waiting sv) (ws : List (Waiting sv)) → m.waiting ≡ w ∷ ws → Elected st all group b s i m →
    (fs : List (Seen sv.O sv.R)) × (t : Scene (Mind sv) (Msg sv)) × Among (code sv) all group s fs t × Low st all group (3 + b) t × (o : Mind sv) × (t.house i ≡ there o) × (length o.waiting < length m.waiting)
answering st all two small group s go b low most en i m il ig iw iu w ws ow e =
    let (fs, t, x, l, o, up, lt) = answers st all two small group s go b low most en i m il ig iw iu w ws ow e in (fs, t, x, low_more (omega arith) l, o, up, omega (arith, ap length ow))
