-- ABREAST: whatever happens, whatever is held, queued or said counts at most one call more of a replica that is up than it answered (Ahead); and what it holds itself counts no fewer. So the oldest call that waits either is counted by what its replica holds, or is the next to be counted.
use Rattle.std.proofs.Common.{◌≡◌, ℕ, suc, ◌<◌, ◌≤◌, false, eqb, List, [], ◌∷◌, length, Some, None, Option, sym, refl, ap, ◌∙◌, subst, inl, inr, ⊎_elim, arith, T_not}
use Rattle.std.proofs.lemmas.Option.{none-some}
use mathlib.Core.List.Memᴰ
use mathlib.Core.List.{Memᴰ}
use Rattle.std.proofs.lemmas.Bool.{cond_both, cases_eq}
use Rattle.runs.specs.Replicas.{Letter, Does, Says, Gives, Whole', posted, there, gone, Scene, Seen, Said, Call', Beat, at, is_in, New, Goes, first, hears, is_asked, beats, falls, wakes, turned, with_call, woken, fallen}
use Rattle.agreement.specs.declared.Place.{Place}
use Rattle.agreement.specs.Content.{Service, Proposal, rank, place_at, roster, fresh_place}
use Rattle.agreement.specs.Log.{Event, asks, At, age_in, world, Ok, Log, goes_on}
use Rattle.agreement.specs.Machine.{Msg, Prepare, Promise, Propose, Alive, Accepted, Join, Forward, Waiting, Mind, accepted, Turn, then_do, forward, serve, is_full, comes_in, wait_or_not, quick_or_not, turn, woke, code}
use Rattle.agreement.proofs.Age.{age_stays}
use Rattle.agreement.proofs.Seven.{get_seven}
use Rattle.agreement.proofs.Scenes.{at_same, at_other, un_there}
use Rattle.agreement.proofs.History.{drawn, pledge_made}
use Rattle.agreement.proofs.Inv.{AnsweredTo, unanswered, answered_by, MindInv, WordInv}
use Rattle.agreement.proofs.Runs.{Rel, run, calls_rise, from_here}
use Rattle.agreement.proofs.CameIn.{Kept, forward_counts, serve_counts, hears_counts, on_beat_counts}
use Rattle.agreement.proofs.Ahead.{NextAt, NextIn, NextSaid, NextOf, hears_fine, quick_or_not_fine, on_beat_fine}

module _ {sv : Service} where
  -- k is at most the next call of y at the replica j, if that is up
  abbrev pub AtMostNext : Scene (Mind sv) (Msg sv) → (j y k : ℕ) → Type 0
  AtMostNext s j y k = (m : Mind sv) → s.house j ≡ there m → m.agreement.incarnation ≡ y → k ≤ suc m.agreement.no

  -- what holds of each call holds of all that is said, and held
  word_map : (G K : ℕ → ℕ → ℕ → Type 0) → ((j y k : ℕ) → G j y k → K j y k) → (b : ℕ) (w : Msg sv) → NextIn G b w → NextIn K b w
  word_map G K f b (Prepare v) a = tt
  word_map G K f b (Promise v x p) a = λ j. f j _ _ (a j)
  word_map G K f b (Propose p c) a = λ j. f j _ _ (a j)
  word_map G K f b (Alive d c x) a = tt
  word_map G K f b (Accepted d x) a = tt
  word_map G K f b (Join q) a = tt
  word_map G K f b (Forward q) a = f b _ _ a

  mind_map : (G K : ℕ → ℕ → ℕ → Type 0) → ((j y k : ℕ) → G j y k → K j y k) → (m : Mind sv) → NextOf G m → NextOf K m
  mind_map G K f m a = (λ j. f j _ _ (a.0 j), λ j q e. f j _ _ (a.1 j q e))

  said_in : (G : ℕ → ℕ → ℕ → Type 0) (i : ℕ) (ds : List (Does (Msg sv) sv.R)) → NextSaid G i ds → (l : Letter (Msg sv)) → Memᴰ l (posted i ds) → NextIn G l.by l.word
  unfolding posted
  said_in G i [] a l d = absurd (Memᴰ.not-nil d)
  said_in G i (Says j w ∷ ds) (b, a) l d = ⊎_elim (λ e. rw e b) (λ z. said_in G i ds a l z) (Memᴰ.cases_cons d)
  said_in G i (Gives n r ∷ ds) a l d = said_in G i ds a l d
  said_in G i (Whole' ∷ ds) a l d = said_in G i ds a l d

  pub record Abreast (all : ℕ) (s : Scene (Mind sv) (Msg sv)) : Type 0 where
    pub minds : (j : ℕ) (m : Mind sv) → j < all → s.house j ≡ there m → NextOf (AtMostNext s) m
    pub letters : (l : Letter (Msg sv)) → Memᴰ l s.letters → NextIn (AtMostNext s) l.by l.word

  -- A TURN of i, in which the number of its answers rises, if at all
  module _ (all : ℕ) (s : Scene (Mind sv) (Msg sv)) (i : ℕ) (m : Mind sv) (x : Turn sv) (lt : i < all) (here' : s.house i ≡ there m) (who : x.mind.agreement.incarnation ≡ m.agreement.incarnation) (up : m.agreement.no ≤ x.mind.agreement.no) (a : Abreast all s) where
    abbrev after_turn : Scene (Mind sv) (Msg sv)
    after_turn = turned (code sv) i x s

    rises : (j y k : ℕ) → AtMostNext s j y k → AtMostNext after_turn j y k
    rises j y k g n e q = ⊎_elim (λ z. same' z (un_there x.mind n (sym (at_same i (there x.mind) s.house j z) ∙ e))) (λ z. g n (sym (at_other i (there x.mind) s.house j z) ∙ e) q) (cases_eq j i)
      where
        same' : j ≡ i → x.mind ≡ n → k ≤ suc n.agreement.no
        same' z w = omega (arith, g m (ap s.house z ∙ here') (sym who ∙ (ap (λ (o : Mind sv). o.agreement.incarnation) w ∙ q)), up, ap (λ (o : Mind sv). o.agreement.no) w)

    own_now : (n : ℕ) → n ≤ x.mind.agreement.no → AtMostNext after_turn i m.agreement.incarnation (suc n)
    own_now n le o e q = omega (arith, ap (λ (z : Mind sv). z.agreement.no) (un_there x.mind o (sym (at_same i (there x.mind) s.house i refl) ∙ e)))

    turn_abreast : NextOf (AtMostNext after_turn) x.mind × NextSaid (AtMostNext after_turn) i x.does → Abreast all after_turn
    turn_abreast f =
        record {
          minds = λ j n jl e. ⊎_elim (λ z. rw (← un_there x.mind n (sym (at_same i (there x.mind) s.house j z) ∙ e)) f.0) (λ z. mind_map (AtMostNext s) (AtMostNext after_turn) rises n (a.minds j n jl (sym (at_other i (there x.mind) s.house j z) ∙ e))) (cases_eq j i);
          letters = λ l d. ⊎_elim (λ z. said_in (AtMostNext after_turn) i x.does f.1 l z) (λ z. word_map (AtMostNext s) (AtMostNext after_turn) rises l.by l.word (a.letters l z)) (Memᴰ.append_cases (posted i x.does) d);
        }

    mind_now : NextOf (AtMostNext after_turn) m
    mind_now = mind_map (AtMostNext s) (AtMostNext after_turn) rises m (a.minds i m lt here')

  -- nothing is counted of anybody
  none_next : (s : Scene (Mind sv) (Msg sv)) (j y : ℕ) → AtMostNext s j y 0
  none_next s j y m e q = omega arith

  first_next : (s : Scene (Mind sv) (Msg sv)) (i all x : ℕ) → NextOf (AtMostNext s) (woke sv i all x)
  first_next s i all x = (λ j m e q. let z = ap (λ (p : Place). p.no) (get_seven (fresh_place 0) j) in omega arith, λ j c e. absurd (none-some _ (sym (get_seven None j) ∙ e)))

  -- who asked was drawn
  asked_drawn : (all : ℕ) (h : List (Event sv)) → Log all h → (t s x k n : ℕ) (o : sv.O) → At h t (asks s x k n o) → 0 < age_in h s x
  asked_drawn all [] l t s x k n o a = absurd a
  asked_drawn all (e ∷ h) (goes_on l g) t s x k n o (inl (q, a)) = let d = (subst (Ok all h) (sym a) g).drawn in omega (arith, age_stays all h e g s x d)
  asked_drawn all (e ∷ h) (goes_on l g) t s x k n o (inr a) = let d = asked_drawn all h l t s x k n o a in omega (arith, age_stays all h e g s x d)

  -- ONE WAKES: nothing speaks of its incarnation yet
  module _ (all : ℕ) (small : all ≤ 7) (h : List (Event sv)) (es : List (Seen sv.O sv.R)) (s : Scene (Mind sv) (Msg sv)) (r : Rel all h es s) (i x : ℕ) (new : New x s) (a : Abreast all s) where
    abbrev after_waking : Scene (Mind sv) (Msg sv)
    after_waking = woken (code sv) all i x s

    wakes' : (j y k : ℕ) → 0 < age_in h j y → AtMostNext s j y k → AtMostNext after_waking j y k
    wakes' j y k d g n e q = ⊎_elim (λ z. absurd (fresh (ap (λ (o : Mind sv). o.agreement.incarnation) (un_there (woke sv i all x) n (sym (at_same i (there (woke sv i all x)) s.house j z) ∙ e)) ∙ q))) (λ z. g n (sym (at_other i (there (woke sv i all x)) s.house j z) ∙ e) q) (cases_eq j i)
      where
        fresh : x ≡ y → ⊥
        fresh z = T_not (is_in x s.drawn) new.1 (rw (z, r.drawn j y d) tt)

    proposal_wakes : (p : Proposal sv) → (world all h).Made p → NextAt {sv = sv} (AtMostNext s) p → NextAt {sv = sv} (AtMostNext after_waking) p
    proposal_wakes p m v j = wakes' j (roster p j) (place_at p j).no (drawn all h r.log p m j) (v j)

    mind_wakes : (j : ℕ) (m : Mind sv) → MindInv all h j m → NextOf (AtMostNext s) m → NextOf (AtMostNext after_waking) m
    mind_wakes j m v n = (proposal_wakes (accepted m) v.0.made n.0, λ k c e. let (t, b) = v.1.calls k c e in wakes' k _ _ (asked_drawn all h r.log t k c.incarnation c.no c.number c.call b) (n.1 k c e))

    word_wakes : (b c : ℕ) (w : Msg sv) → WordInv all h b c w → NextIn (AtMostNext s) b w → NextIn (AtMostNext after_waking) b w
    word_wakes b c (Prepare v) u n = tt
    word_wakes b c (Promise v y p) (f, g, u) n = proposal_wakes p (pledge_made all h r.log u.0 b y (rank v) p u.1).0 n
    word_wakes b c (Propose p q) u n = proposal_wakes p u.0 n
    word_wakes b c (Alive d q y) u n = tt
    word_wakes b c (Accepted d y) u n = tt
    word_wakes b c (Join q) u n = tt
    word_wakes b c (Forward q) (f, g, z, (t, u)) n = wakes' b _ _ (asked_drawn all h r.log t b q.incarnation q.no q.number q.call u) n

    wake_abreast : Abreast all after_waking
    wake_abreast =
        record {
          minds = λ j n jl e. ⊎_elim (λ z. rw (← un_there (woke sv i all x) n (sym (at_same i (there (woke sv i all x)) s.house j z) ∙ e)) (first_next after_waking i all x)) (λ z. let y = sym (at_other i (there (woke sv i all x)) s.house j z) ∙ e in mind_wakes j n (r.replicas j n jl y) (a.minds j n jl y)) (cases_eq j i);
          letters = λ l d. word_wakes l.by l.to l.word (r.letters l d).2 (a.letters l d);
        }

  -- a call that comes in changes neither who it is nor what was answered
  wait_rises : (t : Waiting sv) (m : Mind sv) → ((wait_or_not t m).mind.agreement.incarnation ≡ m.agreement.incarnation) × (m.agreement.no ≤ (wait_or_not t m).mind.agreement.no)
  unfolding wait_or_not then_do
  wait_rises t m =
      cond_both (is_full m.waiting) _ _ (λ (x : Turn sv). (x.mind.agreement.incarnation ≡ m.agreement.incarnation) × (m.agreement.no ≤ x.mind.agreement.no)) (λ _. (refl, omega arith))
      (λ _. cond_both (eqb (length m.waiting) 0) _ _ (λ (x : Turn sv). (x.mind.agreement.incarnation ≡ m.agreement.incarnation) × (m.agreement.no ≤ x.mind.agreement.no)) (λ _. both) (λ _. (refl, omega arith)))
    where
      both : ((serve (forward (comes_in t m)).mind).mind.agreement.incarnation ≡ m.agreement.incarnation) × (m.agreement.no ≤ (serve (forward (comes_in t m)).mind).mind.agreement.no)
      both = let f = forward_counts (comes_in t m) in let s = serve_counts (forward (comes_in t m)).mind in (s.1 ∙ f.1, omega (arith, s.3, f.3))

  quick_rises : (o : Option sv.R) (t : Waiting sv) (m : Mind sv) → ((quick_or_not o t m).mind.agreement.incarnation ≡ m.agreement.incarnation) × (m.agreement.no ≤ (quick_or_not o t m).mind.agreement.no)
  unfolding quick_or_not
  quick_rises None t m = wait_rises t m
  quick_rises (Some r) t m = (refl, omega arith)

  fall_abreast : (all : ℕ) (s : Scene (Mind sv) (Msg sv)) (i : ℕ) → Abreast all s → Abreast all (fallen i s)
  fall_abreast all s i a = record { minds = λ j m jl e. mind_map (AtMostNext s) (AtMostNext (fallen i s)) stays m (a.minds j m jl (was j m e)); letters = λ l d. word_map (AtMostNext s) (AtMostNext (fallen i s)) stays l.by l.word (a.letters l d) }
    where
      was : (j : ℕ) (m : Mind sv) → at i gone s.house j ≡ there m → s.house j ≡ there m
      was j m e = ⊎_elim (λ z. absurd (let y : gone ≡ there m = sym (at_same i gone s.house j z) ∙ e in let c : ◌≡◌ {A = ℕ} 0 1 = cc in omega arith)) (λ z. sym (at_other i gone s.house j z) ∙ e) (cases_eq j i)

      stays : (j y k : ℕ) → AtMostNext s j y k → AtMostNext (fallen i s) j y k
      stays j y k g m e q = g m (was j m e) q

  -- what comes to i, whose mind is m
  module _ (all : ℕ) (s : Scene (Mind sv) (Msg sv)) (i : ℕ) (m : Mind sv) (lt : i < all) (here' : s.house i ≡ there m) (me : m.agreement.me ≡ i) (a : Abreast all s) where
    hears_abreast : (l : Letter (Msg sv)) → Memᴰ l s.letters → Abreast all (turned (code sv) i (turn (Said l.by l.word) m) s)
    unfolding turn
    hears_abreast l d = turn_abreast all s i m x lt here' k.1 k.3 a
        (hears_fine (AtMostNext (turned (code sv) i x s)) (none_next (turned (code sv) i x s)) i m.agreement.incarnation x.mind.agreement.no (own_now all s i m x lt here' k.1 k.3 a) l.by l.word
        (word_map (AtMostNext s) (AtMostNext (turned (code sv) i x s)) (rises all s i m x lt here' k.1 k.3 a) l.by l.word (a.letters l d)) m (me, refl) (mind_now all s i m x lt here' k.1 k.3 a) (omega arith))
      where
        x : Turn sv
        x = turn (Said l.by l.word) m

        k : Kept m (turn (Said l.by l.word) m).mind
        k = hears_counts l.by l.word m

    asked_abreast : (q : ℕ) (o : sv.O) → Abreast all (turned (code sv) i (turn (Call' q o) m) s)
    unfolding turn
    asked_abreast q o = turn_abreast all s i m x lt here' k.0 k.1 a
        (quick_or_not_fine (AtMostNext (turned (code sv) i x s)) (none_next (turned (code sv) i x s)) i m.agreement.incarnation x.mind.agreement.no (own_now all s i m x lt here' k.0 k.1 a) (sv.quick o) (record { number = q; call = o }) m (me, refl) (mind_now all s i m x lt here' k.0 k.1 a) (omega arith))
      where
        x : Turn sv
        x = turn (Call' q o) m

        k : ((turn (Call' q o) m).mind.agreement.incarnation ≡ m.agreement.incarnation) × (m.agreement.no ≤ (turn (Call' q o) m).mind.agreement.no)
        k = quick_rises (sv.quick o) (record { number = q; call = o }) m

    beats_abreast : Abreast all (turned (code sv) i (turn Beat m) s)
    unfolding turn
    beats_abreast = turn_abreast all s i m x lt here' k.1 k.3 a
        (on_beat_fine (AtMostNext (turned (code sv) i x s)) (none_next (turned (code sv) i x s)) i m.agreement.incarnation x.mind.agreement.no (own_now all s i m x lt here' k.1 k.3 a) m (me, refl) (mind_now all s i m x lt here' k.1 k.3 a) (omega arith))
      where
        x : Turn sv
        x = turn Beat m

        k : Kept m (turn Beat m).mind
        k = on_beat_counts m

  pub abreast : (all : ℕ) → all ≤ 7 → {n : ℕ} {es : List (Seen sv.O sv.R)} {s : Scene (Mind sv) (Msg sv)} → Goes (code sv) all n es s → Abreast all s
  abreast all small first = record { minds = λ j m jl e. rw (← un_there (woke sv j all 0) m e) (first_next (record { house = λ i. there (woke sv i all 0); frail = λ i. false; letters = []; waits = []; drawn = 0 ∷ [] }) j all 0); letters = λ l d. absurd (Memᴰ.not-nil d) }
  abreast all small (hears {s = s} i m l lt g e d to) = let (h, r) = run all small g in hears_abreast all s i m lt e (r.replicas i m lt e).0.who.me (abreast all small g) l d
  abreast all small (is_asked {s = s} i q o m lt fits g e new) = let (h, r) = run all small g in let a = abreast all small g in asked_abreast all (with_call i q s) i m lt e (r.replicas i m lt e).0.who.me (record { minds = a.minds; letters = a.letters }) q o
  abreast all small (beats {s = s} i m lt g e) = let (h, r) = run all small g in beats_abreast all s i m lt e (r.replicas i m lt e).0.who.me (abreast all small g)
  abreast all small (falls {s = s} i m lt g e few) = fall_abreast all s i (abreast all small g)
  abreast all small (wakes {es = es} {s = s} i x lt new g e) = let (h, r) = run all small g in wake_abreast all small h es s r i x new (abreast all small g)

  -- SO what a replica holds, if it names it, counts as many calls as it answered, or one more
  module _ (all : ℕ) (small : all ≤ 7) {n : ℕ} {es : List (Seen sv.O sv.R)} {s : Scene (Mind sv) (Msg sv)} (g : Goes (code sv) all n es s) (i : ℕ) (m : Mind sv) (il : i < all) (up : s.house i ≡ there m) (named : roster (accepted m) i ≡ m.agreement.incarnation) where
    pub one_ahead : (place_at (accepted m) i).no ≤ suc m.agreement.no
    one_ahead = ((abreast all small g).minds i m il up).0 i m up (sym named)

    pub not_behind : m.agreement.no ≤ (place_at (accepted m) i).no
    not_behind = let (h, r) = run all small g in from h r (r.replicas i m il up).0.answered
      where
        from : (h : List (Event sv)) → Rel all h es s → AnsweredTo all h i m.agreement.incarnation m.agreement.no (accepted m) → m.agreement.no ≤ (place_at (accepted m) i).no
        from h r (unanswered e) = omega arith
        from h r (answered_by w c q k le) = omega (arith, calls_rise all h es s r (from_here all h es s r w (accepted m) c (r.replicas i m il up).0.made le) i (q ∙ sym named))
