-- LINEARIZABLE: whatever happens, there is a trace of what clients saw, whose writes are those of the chosen line; so clients can't tell the replicas from one clerk.
use Rattle.std.proofs.Common.{◌≡◌, ℕ, ◌+◌, ◌<◌, ◌≤◌, Bool, true, false, cond, not, T, eqb, ◌⊎◌, List, [], ◌∷◌, ◌++◌, length, get_or, Some, None, Option, sym, refl, ap, ◌∙◌, inl, inr, ⊎_elim, arith, T_not}
use Rattle.std.proofs.lemmas.Option.{same_Some}
use mathlib.Core.List.Memᴰ
use mathlib.Core.List.{Memᴰ}
use Rattle.std.proofs.lemmas.Bool.{cond_both, cases_lt, cases_Bool, false≢true, or_cases, or_left, or_right, eq-eqb}
use Rattle.runs.specs.Replicas.{Does, Says, Gives, Whole', there, Scene, Seen, asked, gave, Waits, Said, Beat, given, without, was_asked, Goes, first, hears, is_asked, beats, falls, wakes, turned, with_call}
use Rattle.runs.specs.Room.{Open, Ready, Room, LikeARoom}
use Rattle.agreement.specs.Content.{Service, Lawful, Proposal, limit, id_of, root, place_at, roster}
use Rattle.agreement.specs.Facts.{at_first}
use Rattle.agreement.specs.Log.{Event, draws, asks, makes, votes, pledges, At, Ok, Log, goes_on}
use Rattle.agreement.specs.Agree.{IsChosen}
use Rattle.agreement.specs.Waiting.{times_given}
use Rattle.agreement.specs.Machine.{Msg, Waiting, Mind, Turn, turn, is_full, wait_or_not, quick_or_not, code}
use Rattle.agreement.proofs.Inv.{Answered, Replied, Well, chosen_now}
use Rattle.agreement.proofs.Moves.{Ext, same, more, Plain, Good, ext_log, chosen_made}
use Rattle.agreement.proofs.Waits.{Wait, Taken, hears_fair, on_beat_fair, on_call_fair}
use Rattle.agreement.proofs.Clients.{clients, times_waiting, less_waits, off_waits, given_once, called_clients, fresh}
use Rattle.agreement.proofs.Turns.{on_beat_good, asked_now, ask_ok, starts_good, waits_good}
use Rattle.agreement.proofs.Runs.{Rel, beside, turned_rel, first_rel, fall_rel, wake_rel, heard_good, at_once_rel, mind_here, unused, waits_beside}
use Rattle.agreement.proofs.Trace.{Tick, Asked, Moved, Gave, AtOnce, state_of, seen_of, was_given, Tail, whole, later, Way, wrote, read_at, Quickly, Trace, none, gives}
use Rattle.agreement.proofs.Trace.{asks as asks', once as once'}
use Rattle.agreement.proofs.RoomOf.{room_of}
use Rattle.agreement.proofs.Climbs.{ask_once, ask_positive, chain_to, Climbs, at_root, passes, climbs_stay, climb_state, chosen_passed, tail_trans, tail_in, Passed, passed_at, Done, done_at, Climbed, climb_to}

-- tr is a trace of what clients saw (es), and climbed to a chosen proposal; every call that came in to wait is in it
pub record Traced {sv : Service} (all : ℕ) (h : List (Event sv)) (es : List (Seen sv.O sv.R)) (tr : List (Tick sv.O sv.R)) : Type 0 where
  pub trace : Trace sv.clerk sv.is_read tr
  pub seen : seen_of tr ≡ es
  pub high : Proposal sv
  pub rest : List (Proposal sv)
  pub chosen : IsChosen all h high
  pub path : Climbs all h tr (high ∷ rest)
  pub asked' : (j x k n t : ℕ) (o : sv.O) → At h t (asks j x k n o) → Memᴰ (Asked j n o) tr

abbrev NoCall : {sv : Service} → Event sv → Type 0
NoCall (draws s x) = Unit {0}
NoCall (asks s x k n o) = ⊥
NoCall (makes p) = Unit {0}
NoCall (votes s x p) = Unit {0}
NoCall (pledges s x v p) = Unit {0}

not_ask : {sv : Service} (e : Event sv) → NoCall e → (j x k n : ℕ) (o : sv.O) → asks j x k n o ≡ e → ⊥
not_ask (draws s y) a j x k n o q = let z : ◌≡◌ {A = ℕ} 0 1 = cc in omega arith
not_ask (asks s y i m p) a j x k n o q = absurd a
not_ask (makes p) a j x k n o q = let z : ◌≡◌ {A = ℕ} 0 1 = cc in omega arith
not_ask (votes s y p) a j x k n o q = let z : ◌≡◌ {A = ℕ} 0 1 = cc in omega arith
not_ask (pledges s y v p) a j x k n o q = let z : ◌≡◌ {A = ℕ} 0 1 = cc in omega arith

plain_no_call : {sv : Service} (e : Event sv) → Plain e → NoCall e
plain_no_call (draws s x) a = tt
plain_no_call (asks s x k n o) a = a
plain_no_call (makes p) a = tt
plain_no_call (votes s x p) a = tt
plain_no_call (pledges s x v p) a = tt

module _ {sv : Service} (all : ℕ) where
  traced_stays : (h : List (Event sv)) (e : Event sv) → Ok all h e → NoCall e → {es : List (Seen sv.O sv.R)} {tr : List (Tick sv.O sv.R)} → Traced all h es tr → Traced all (e ∷ h) es tr
  traced_stays h e k a {es} {tr} t = record { trace = t.trace; seen = t.seen; high = t.high; rest = t.rest; chosen = chosen_now all h e k t.high t.chosen; path = climbs_stay all h e k t.path; asked' = asked'' }
    where
      asked'' : (j x i n u : ℕ) (o : sv.O) → At (e ∷ h) u (asks j x i n o) → Memᴰ (Asked j n o) tr
      asked'' j x i n u o (inl (_, q)) = absurd (not_ask e a j x i n o q)
      asked'' j x i n u o (inr b) = t.asked' j x i n u o b

  ext_traced : (i : ℕ) (h : List (Event sv)) {k : List (Event sv)} → Ext all i h k → {es : List (Seen sv.O sv.R)} {tr : List (Tick sv.O sv.R)} → Traced all h es tr → Traced all k es tr
  ext_traced i h same t = t
  ext_traced i h (more {k = k} {e = e} x ok b a) t = traced_stays k e ok (plain_no_call e a) (ext_traced i h x t)

-- WHAT IS ANSWERED has its way in the trace
way_more : (sv : Service) {a b : List (Tick sv.O sv.R)} {i n : ℕ} {r : sv.R} → Tail a b → Way sv.clerk sv.is_read a i n r → Way sv.clerk sv.is_read b i n r
way_more sv t (wrote o c e l q) = wrote o c e (tail_trans l t) q
way_more sv t (read_at o c e l d q) = read_at o c e (tail_trans l t) d q

module _ {sv : Service} (law : Lawful sv) (all : ℕ) (h : List (Event sv)) (lg : Log all h) (some : 0 < all) (i : ℕ) (small : i < 7) where
  -- from the trace as it was when the proposal was passed
  way_at : (n : ℕ) (r : sv.R) (a : Answered all h i n r) (l tr : List (Tick sv.O sv.R)) (ps : List (Proposal sv)) → Climbs all h l (a.from ∷ ps) → Tail l tr → Way sv.clerk sv.is_read tr i n r
  way_at n r a l tr ps c t = go a.reply
    where
      d : Done h a.from.content i l
      d = done_at all h lg some c i small (ask_positive all h lg a.asked.0 i a.inc (place_at a.from i).no n a.call a.asked.1)

      same' : (d.number ≡ n) × (d.call ≡ a.call)
      same' = ask_once all h lg d.time a.asked.0 i (roster a.from i) (place_at a.from i).no d.number n d.call a.call d.asks' (rw a.named a.asked.1)

      came : Memᴰ (Asked i n a.call) l
      came = rw (same'.0, same'.1) at d.asked'

      go : Replied a.from i a.call r → Way sv.clerk sv.is_read tr i n r
      go (inl (e, q)) = read_at a.call l e t came (q ∙ ap (sv.clerk.reply a.call) (sym (climb_state all h c)))
      go (inr (e, k, o, q)) = from (d.wrote' (ap sv.is_read same'.1 ∙ e))
        where
          from : (b : List (Tick sv.O sv.R)) × Tail (Moved i d.number d.call ∷ b) l × (get_or a.from.content.outcomes i None ≡ Some (sv.keep d.call (state_of sv.clerk b))) → Way sv.clerk sv.is_read tr i n r
          from (b, u, z) =
              wrote a.call b e (tail_trans (rw (same'.0, same'.1) at u) t)
              (q ∙ (ap (sv.say a.call) (same_Some _ _ (sym o ∙ z)) ∙ (ap (λ (y : sv.O). sv.say a.call (sv.keep y (state_of sv.clerk b))) same'.1 ∙ law.kept a.call (state_of sv.clerk b) e)))

  record Ready' (es : List (Seen sv.O sv.R)) (tr : List (Tick sv.O sv.R)) (n : ℕ) (r : sv.R) : Type 0 where
    pub now : List (Tick sv.O sv.R)
    pub traced : Traced all h es now
    pub grew : Tail tr now
    pub way : Way sv.clerk sv.is_read now i n r

  -- the trace climbs to what is answered from, if it is not there yet
  way_of : (n : ℕ) (r : sv.R) (es : List (Seen sv.O sv.R)) (tr : List (Tick sv.O sv.R)) → Traced all h es tr → Answered all h i n r → Ready' es tr n r
  way_of n r es tr t a = go (cases_lt (id_of a.from) (id_of t.high))
    where
      higher : Climbed all h lg some tr a.from → Ready' es tr n r
      higher c =
          record {
            now = c.now;
            traced = record { trace = c.trace; seen = c.seen ∙ t.seen; high = a.from; rest = c.rest; chosen = a.chosen; path = c.path; asked' = λ j x k m u o e. tail_in c.grew (t.asked' j x k m u o e) };
            grew = c.grew;
            way = way_at n r a c.now c.now c.rest c.path whole;
          }

      lower : Passed all h tr a.from → Ready' es tr n r
      lower p = record { now = tr; traced = t; grew = whole; way = way_at n r a p.then tr p.rest p.climbed p.tail }

      go : (id_of a.from < id_of t.high) ⊎ (id_of t.high ≤ id_of a.from) → Ready' es tr n r
      go (inl lt) = lower (passed_at all h t.path a.from (chosen_passed all h lg some t.path a.from a.chosen (omega arith)))
      go (inr ge) = higher (climb_to all h lg some tr t.rest t.asked' t.path t.trace (chain_to all h lg t.high t.chosen a.from (chosen_made h a.chosen) ge))

  -- all that a turn answers
  abbrev WaysFor : List (Tick sv.O sv.R) → List (Does (Msg sv) sv.R) → Type 0
  WaysFor l [] = Unit {0}
  WaysFor l (Says j w ∷ ds) = WaysFor l ds
  WaysFor l (Gives n r ∷ ds) = Way sv.clerk sv.is_read l i n r × WaysFor l ds
  WaysFor l (Whole' ∷ ds) = WaysFor l ds

  record AllReady (es : List (Seen sv.O sv.R)) (tr : List (Tick sv.O sv.R)) (ds : List (Does (Msg sv) sv.R)) : Type 0 where
    pub now : List (Tick sv.O sv.R)
    pub traced : Traced all h es now
    pub grew : Tail tr now
    pub ways : WaysFor now ds

  ways_of : (ds : List (Does (Msg sv) sv.R)) (es : List (Seen sv.O sv.R)) (tr : List (Tick sv.O sv.R)) → Traced all h es tr → Well all h i ds → AllReady es tr ds
  ways_of [] es tr t w = record { now = tr; traced = t; grew = whole; ways = tt }
  ways_of (Says j x ∷ ds) es tr t (_, _, w) = let r = ways_of ds es tr t w in record { now = r.now; traced = r.traced; grew = r.grew; ways = r.ways }
  ways_of (Whole' ∷ ds) es tr t w = let r = ways_of ds es tr t w in record { now = r.now; traced = r.traced; grew = r.grew; ways = r.ways }
  ways_of (Gives n y ∷ ds) es tr t (a, w) = let f = way_of n y es tr t a in let r = ways_of ds es f.now f.traced w in record { now = r.now; traced = r.traced; grew = tail_trans f.grew r.grew; ways = (way_more sv r.grew f.way, r.ways) }

-- what was given was seen
given_seen : {O R : Type 0} (n : ℕ) (tr : List (Tick O R)) → was_given n tr ≡ true → 0 < times_given n (seen_of tr)
unfolding times_given
given_seen n [] e = absurd (false≢true e)
given_seen n (Asked i k o ∷ tr) e = given_seen n tr e
given_seen n (Moved i k o ∷ tr) e = given_seen n tr e
given_seen n (Gave i k r ∷ tr) e = ⊎_elim (λ z. rw z (omega arith)) (λ z. let ih = given_seen n tr z in cond_both (eqb n k) _ _ (λ (m : ℕ). 0 < m) (λ _. omega arith) (λ _. ih)) (or_cases (eqb n k) (was_given n tr) e)
given_seen n (AtOnce i k o r ∷ tr) e = let ih = given_seen n tr e in cond_both (eqb n k) _ _ (λ (m : ℕ). 0 < m) (λ _. omega arith) (λ _. ih)

-- what came in to wait was seen
asked_seen : {O R : Type 0} (j n : ℕ) (p : O) (tr : List (Tick O R)) → Memᴰ (Asked j n p) tr → was_asked n (seen_of tr) ≡ true
unfolding was_asked
asked_seen j n p [] d = absurd (Memᴰ.not-nil d)
asked_seen j n p (Asked i k o ∷ tr) d = ⊎_elim (λ e. or_left (eqb n k) (was_asked n (seen_of tr)) (eq-eqb n k (let z : n ≡ k = cc in z))) (λ z. or_right (eqb n k) (was_asked n (seen_of tr)) (asked_seen j n p tr z)) (Memᴰ.cases_cons d)
asked_seen j n p (Moved i k o ∷ tr) d = ⊎_elim (λ e. absurd (let z : ◌≡◌ {A = ℕ} 0 1 = cc in omega arith)) (λ z. asked_seen j n p tr z) (Memᴰ.cases_cons d)
asked_seen j n p (Gave i k r ∷ tr) d = ⊎_elim (λ e. absurd (let z : ◌≡◌ {A = ℕ} 0 1 = cc in omega arith)) (λ z. asked_seen j n p tr z) (Memᴰ.cases_cons d)
asked_seen j n p (AtOnce i k o r ∷ tr) d = ⊎_elim (λ e. absurd (let z : ◌≡◌ {A = ℕ} 0 1 = cc in omega arith)) (λ z. or_right (eqb n k) (was_asked n (seen_of tr)) (asked_seen j n p tr z)) (Memᴰ.cases_cons d)

module _ {sv : Service} (law : Lawful sv) (all : ℕ) where
  -- ANSWERS ARE GIVEN, the last of a turn first, as they are seen
  record Gone (h : List (Event sv)) (es : List (Seen sv.O sv.R)) (tr : List (Tick sv.O sv.R)) : Type 0 where
    pub now : List (Tick sv.O sv.R)
    pub traced : Traced all h es now
    pub grew : Tail tr now

  give_all : (h : List (Event sv)) (lg : Log all h) (some : 0 < all) (i : ℕ) (small : i < 7) (ds : List (Does (Msg sv) sv.R)) (ws : List Waits) (es : List (Seen sv.O sv.R)) (tr : List (Tick sv.O sv.R)) → Taken i (λ _. Unit {0}) ds ws → ((n : ℕ) → times_given n es + times_waiting n ws ≤ 1) → WaysFor law all h lg some i small tr ds → Traced all h es tr →
      Gone h (given i ds ++ es) tr
  unfolding given
  give_all h lg some i small [] ws es tr a f w t = record { now = tr; traced = t; grew = whole }
  give_all h lg some i small (Says j x ∷ ds) ws es tr a f w t = let r = give_all h lg some i small ds ws es tr a f w t in record { now = r.now; traced = r.traced; grew = r.grew }
  give_all h lg some i small (Whole' ∷ ds) ws es tr a f w t = let r = give_all h lg some i small ds ws es tr a f w t in record { now = r.now; traced = r.traced; grew = r.grew }
  give_all h lg some i small (Gives n y ∷ ds) ws es tr (d, _, a) f (w, ws') t = on (give_all h lg some i small ds (without i n ws) es tr a (λ m. omega (arith, f m, less_waits i n m ws)) ws' t)
    where
      on : Gone h (given i ds ++ es) tr → Gone h (gave i n y ∷ given i ds ++ es) tr
      on r =
          record {
            now = Gave i n y ∷ r.now;
            traced = record {
              trace = gives i n y r.traced.trace (⊎_elim (λ e. absurd (not_yet e)) (λ e. e) (cases_Bool (was_given n r.now))) (way_more sv r.grew w);
              seen = ap (λ (z : List (Seen sv.O sv.R)). gave i n y ∷ z) r.traced.seen;
              high = r.traced.high;
              rest = r.traced.rest;
              chosen = r.traced.chosen;
              path = passes (Gave i n y) tt r.traced.path;
              asked' = λ j x k m u o e. Memᴰ.tail (r.traced.asked' j x k m u o e);
            };
            grew = later r.grew;
          }
        where
          one : ◌≡◌ {A = ℕ} (cond (eqb n n) 1 0) 1
          one = rw (eq-eqb n n refl) refl

          not_yet : was_given n r.now ≡ true → ⊥
          not_yet e =
              let a' = given_seen n r.now e in let b : 0 < times_given n (given i ds ++ es) = rw r.traced.seen at a' in
              omega (arith, f n, off_waits i n n ws d, one, given_once i n (λ _. Unit {0}) ds (without i n ws) es a)

  -- A TURN, over the history after it
  turn_traced : (h : List (Event sv)) (lg : Log all h) → all ≤ 7 → (i : ℕ) → i < all → (x : Turn sv) (g : Good all h i x) (ws : List Waits) (es : List (Seen sv.O sv.R)) (tr : List (Tick sv.O sv.R)) → Taken i (λ _. Unit {0}) x.does ws → ((n : ℕ) → times_given n es + times_waiting n ws ≤ 1) → Traced all h es tr →
      (l : List (Tick sv.O sv.R)) × Traced all g.then (given i x.does ++ es) l
  turn_traced h lg few i lt x g ws es tr a f t = from (ways_of law all g.then lg' (omega arith) i (omega arith) x.does es tr (ext_traced all i h g.ext t) g.words)
    where
      lg' : Log all g.then
      lg' = ext_log all i h g.ext lg

      from : AllReady law all g.then lg' (omega arith) i (omega arith) es tr x.does → (l : List (Tick sv.O sv.R)) × Traced all g.then (given i x.does ++ es) l
      from r = let y = give_all g.then lg' (omega arith) i (omega arith) x.does ws es r.now a f r.ways r.traced in (y.now, y.traced)

  -- A CALL COMES IN and is answered at once
  once_traced : (h : List (Event sv)) (i n : ℕ) (o : sv.O) (r : sv.R) (es : List (Seen sv.O sv.R)) (tr : List (Tick sv.O sv.R)) → Quickly sv.clerk o r → Traced all h es tr → Traced all h (given {M = Msg sv} i (Gives n r ∷ []) ++ asked i n o ∷ es) (AtOnce i n o r ∷ tr)
  unfolding given
  once_traced h i n o r es tr q t =
      record {
        trace = once' i n o r t.trace q;
        seen = ap (λ (z : List (Seen sv.O sv.R)). gave i n r ∷ asked i n o ∷ z) t.seen;
        high = t.high;
        rest = t.rest;
        chosen = t.chosen;
        path = passes (AtOnce i n o r) tt t.path;
        asked' = λ j x k m u p e. Memᴰ.tail (t.asked' j x k m u p e);
      }

  -- or it waits
  ask_traced : (h : List (Event sv)) (i x k n : ℕ) (o : sv.O) → Ok all h (asks i x k n o) → (es : List (Seen sv.O sv.R)) (tr : List (Tick sv.O sv.R)) → T (not (was_asked n es)) → Traced all h es tr → Traced all (asks i x k n o ∷ h) (asked i n o ∷ es) (Asked i n o ∷ tr)
  ask_traced h i x k n o ok es tr new t =
      record {
        trace = asks' i n o t.trace (λ j p d. T_not (was_asked n es) new (rw (← t.seen, asked_seen j n p tr d) tt));
        seen = ap (λ (z : List (Seen sv.O sv.R)). asked i n o ∷ z) t.seen;
        high = t.high;
        rest = t.rest;
        chosen = chosen_now all h _ ok t.high t.chosen;
        path = passes (Asked i n o) tt (climbs_stay all h _ ok t.path);
        asked' = asked'';
      }
    where
      asked'' : (j y l m u : ℕ) (p : sv.O) → At (asks i x k n o ∷ h) u (asks j y l m p) → Memᴰ (Asked j m p) (Asked i n o ∷ tr)
      asked'' j y l m u p (inl (_, e)) = Memᴰ.head (let a : j ≡ i = cc in let b : m ≡ n = cc in let c : p ≡ o = cc in cc)
      asked'' j y l m u p (inr e) = Memᴰ.tail (t.asked' j y l m u p e)

  quickly' : (o : sv.O) (r : sv.R) → sv.quick o ≡ Some r → Quickly sv.clerk o r
  quickly' o r e = inr (λ t. law.quickly o r t e, λ t. law.stays o r t e)

  -- the scene, the history and the trace after a call of t at i
  module _ (few : all ≤ 7) (i : ℕ) (h : List (Event sv)) (es : List (Seen sv.O sv.R)) (s : Scene (Mind sv) (Msg sv)) (r : Rel all h es s) (lt : i < all) (t : Waiting sv) (fits : t.number < limit) (new : T (not (was_asked t.number es))) (m : Mind sv) (here'' : s.house i ≡ there m) (tr : List (Tick sv.O sv.R)) (td : Traced all h es tr) (count : (n : ℕ) → times_given n (asked i t.number t.call ∷ es) + times_waiting n (Wait i t.number ∷ s.waits) ≤ 1) where
    abbrev CalledT : Turn sv → Type 0
    CalledT x =
        Taken i (λ _. Unit {0}) x.does (Wait i t.number ∷ s.waits) →
        (k : List (Event sv)) × Rel all k (given i x.does ++ asked i t.number t.call ∷ es) (turned (code sv) i x (with_call i t.number s)) × (l : List (Tick sv.O sv.R)) × Traced all k (given i x.does ++ asked i t.number t.call ∷ es) l

    -- it waits, and the rest of the turn is x
    later_t : (x : Turn sv) → Good all (asked_now all i h r.log t fits (unused all i h es s r lt t fits new m here'') m (mind_here all i h es s r lt t fits new m here'')) i x → CalledT x
    later_t x g a = from (turn_traced _ (goes_on r.log (ask_ok all i h r.log t fits (unused all i h es s r lt t fits new m here'') m (mind_here all i h es s r lt t fits new m here''))) few i lt x g (Wait i t.number ∷ s.waits) (asked i t.number t.call ∷ es) (Asked i t.number t.call ∷ tr) a count
        (ask_traced h i m.agreement.incarnation _ t.number t.call (ask_ok all i h r.log t fits (unused all i h es s r lt t fits new m here'') m (mind_here all i h es s r lt t fits new m here'')) es tr new td))
      where
        from : (l : List (Tick sv.O sv.R)) × Traced all g.then (given i x.does ++ asked i t.number t.call ∷ es) l → (k : List (Event sv)) × Rel all k (given i x.does ++ asked i t.number t.call ∷ es) (turned (code sv) i x (with_call i t.number s)) × (l : List (Tick sv.O sv.R)) × Traced all k (given i x.does ++ asked i t.number t.call ∷ es) l
        from (l, y) = (g.then, turned_rel all i _ _ _ (waits_beside all i h es s r lt t fits new m here'') x lt g, l, y)

    wait_or_not_t : CalledT (wait_or_not t m)
    unfolding wait_or_not
    wait_or_not_t =
        cond_both (is_full m.waiting) _ _ CalledT (λ _ _. (h, at_once_rel all i h es s r lt t fits new m here'' sv.clerk.busy, AtOnce i t.number t.call sv.clerk.busy ∷ tr, once_traced h i t.number t.call sv.clerk.busy es tr (inl refl) td))
        (λ _. cond_both (eqb (length m.waiting) 0) _ _ CalledT (λ _. later_t _ (starts_good all i h r.log t fits (unused all i h es s r lt t fits new m here'') m (mind_here all i h es s r lt t fits new m here'')))
        (λ _. later_t _ (waits_good all i h r.log t fits (unused all i h es s r lt t fits new m here'') m (mind_here all i h es s r lt t fits new m here''))))

    quick_or_not_t : (o : Option sv.R) → sv.quick t.call ≡ o → CalledT (quick_or_not o t m)
    unfolding quick_or_not
    quick_or_not_t None e a = wait_or_not_t a
    quick_or_not_t (Some q) e a = (h, at_once_rel all i h es s r lt t fits new m here'' q, AtOnce i t.number t.call q ∷ tr, once_traced h i t.number t.call q es tr (quickly' t.call q e) td)

  at_most_one : (b : Bool) (n : ℕ) → n ≤ cond b 1 0 → n ≤ 1
  at_most_one true n le = le
  at_most_one false n le = omega arith

  pub linear : all ≤ 7 → {n : ℕ} {es : List (Seen sv.O sv.R)} {s : Scene (Mind sv) (Msg sv)} → Goes (code sv) all n es s → (h : List (Event sv)) × Rel all h es s × (tr : List (Tick sv.O sv.R)) × Traced all h es tr
  unfolding turn
  linear few first = ([], first_rel all few, [], record { trace = none; seen = refl; high = root sv; rest = []; chosen = at_first; path = at_root; asked' = λ j x k n t o e. absurd e })
  linear few (hears {es = es} {s = s} i m l lt g e d to) =
      let (h, r, tr, t) = linear few g in let c = clients g in
      let x = heard_good all few h es s r i m l lt e d to in
      let (u, y) = turn_traced h r.log few i lt (turn (Said l.by l.word) m) x s.waits es tr (hears_fair sv i (λ _. Unit {0}) (λ o t. tt) (λ o k. tt) l.by l.word s.waits m (c.match i m e)).gives (λ n. at_most_one (was_asked n es) _ (c.once n)) t in
      (x.then, turned_rel all i h es s (beside all i h es s r) (turn (Said l.by l.word) m) lt x, u, y)
  linear few (is_asked {es = es} {s = s} i k o m lt fits g e new) =
      let (h, r, tr, t) = linear few g in let c = clients g in let d = called_clients es s i k o new c in
      quick_or_not_t few i h es s r lt (record { number = k; call = o }) fits new m e tr t (λ n. at_most_one (was_asked n (asked i k o ∷ es)) _ (d.once n)) (sv.quick o) refl (on_call_fair i k o s.waits m (c.match i m e) (fresh es s c i k new)).gives
  linear few (beats {es = es} {s = s} i m lt g e) =
      let (h, r, tr, t) = linear few g in let c = clients g in
      let x = on_beat_good all i h r.log m (r.replicas i m lt e) in
      let (u, y) = turn_traced h r.log few i lt (turn Beat m) x s.waits es tr (on_beat_fair sv i (λ _. Unit {0}) (λ o t. tt) (λ o k. tt) s.waits m (c.match i m e)).gives (λ n. at_most_one (was_asked n es) _ (c.once n)) t in
      (x.then, turned_rel all i h es s (beside all i h es s r) (turn Beat m) lt x, u, y)
  linear few (falls {es = es} {s = s} i m lt g e few') = let (h, r, tr, t) = linear few g in (h, fall_rel all few h es s i r, tr, t)
  linear few (wakes {es = es} {s = s} i x lt new g e) = let (h, r, tr, t) = linear few g in let y = wake_rel all few h es s i x lt new r in (draws i x ∷ h, y, tr, traced_stays all h (draws i x) (last_ok y.log) tt t)
    where
      last_ok : {h : List (Event sv)} {f : Event sv} → Log all (f ∷ h) → Ok all h f
      last_ok (goes_on l o) = o

-- clients can't tell: for runs of any length
pub in_the_room : (sv : Service) → Lawful sv → (all n : ℕ) → all ≤ 7 → (es : List (Seen sv.O sv.R)) (s : Scene (Mind sv) (Msg sv)) → Goes (code sv) all n es s → (t : sv.clerk.State) × (os : List (Open sv.O)) × (rs : List (Ready sv.R)) × Room sv.clerk es t os rs
in_the_room sv law all n few es s g =
    let (h, r, tr, t) = linear law all few g in let x = room_of sv.clerk sv.is_read law.reads t.trace (λ _. 0) in (state_of sv.clerk tr, x.os, x.rs, rw t.seen at x.room)

pub like_aRoom : (sv : Service) → Lawful sv → LikeARoom sv.clerk (code sv)
like_aRoom sv law all n one few most es s g = in_the_room sv law all n few es s g
