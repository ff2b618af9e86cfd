-- In a run of n steps no number is above n: views promised, held or said, calls answered and waiting at a replica, incarnations drawn; and each state is one that n calls or fewer may have led to (what that is, is given: Follow). And whatever waits, waits at a replica that is up and has it.
use Rattle.std.proofs.Common.{◌≡◌, ℕ, suc, ◌+◌, ◌<◌, ◌≤◌, Bool, eqb, ◌⊎◌, List, [], ◌∷◌, ◌++◌, length, sym, ap, ◌∙◌, subst, inl, inr, ⊎_elim, arith}
use mathlib.Core.List.{Memᴰ}
use Rattle.std.proofs.lemmas.Bool.{cond_both, eqb-false, cases_eq}
use Rattle.runs.specs.Replicas.{Said, Call', Beat, Letter, Does, Says, Gives, Whole', there, gone, Scene, Seen, Waits, at, posted, without, answered_off, left_by, Goes, first, hears, is_asked, beats, falls, wakes, woken, fallen}
use Rattle.agreement.specs.Content.{Service}
use Rattle.agreement.specs.Machine.{Msg, Waiting, Mind, Turn, turn, woke, code}
use Rattle.agreement.proofs.Scenes.{at_same, at_other, un_there}
use Rattle.agreement.proofs.Waits.{Wait, off_in, gone_from}
use Rattle.agreement.proofs.CameIn.{Kept, fewer_wait, hears_counts, on_beat_counts}
use Rattle.agreement.proofs.Slowly.{Follow, LowWord, AllLow, Tops, tops_more, word_more, StillOrGiven, Slow, Came, low_in, hears_slow, on_beat_slow, on_call_came}

-- what a replica posts, it says
posted_says : {sv : Service} (i : ℕ) (ds : List (Does (Msg sv) sv.R)) (l : Letter (Msg sv)) → Memᴰ l (posted i ds) → Memᴰ (Says l.to l.word) ds
unfolding posted
posted_says i [] l d = absurd (mathlib.Core.List.Memᴰ.not-nil d)
posted_says i (Says j w ∷ ds) l d = ⊎_elim (λ e. mathlib.Core.List.Memᴰ.head (ap (λ (k : Letter _). Says k.to k.word) e)) (λ z. mathlib.Core.List.Memᴰ.tail (posted_says i ds l z)) (mathlib.Core.List.Memᴰ.cases_cons d)
posted_says i (Gives n r ∷ ds) l d = mathlib.Core.List.Memᴰ.tail (posted_says i ds l d)
posted_says i (Whole' ∷ ds) l d = mathlib.Core.List.Memᴰ.tail (posted_says i ds l d)

-- what is answered waits no more
off_gone : {sv : Service} (i n : ℕ) (r : sv.R) (ds : List (Does (Msg sv) sv.R)) (ws : List Waits) → Memᴰ (Gives n r) ds → Memᴰ (Wait i n) (answered_off i ds ws) → ⊥
unfolding answered_off
off_gone i n r [] ws d a = mathlib.Core.List.Memᴰ.not-nil d
off_gone i n r (Says j w ∷ ds) ws d a = ⊎_elim (λ e. absurd (let z : ◌≡◌ {A = ℕ} 0 1 = cc in omega arith)) (λ z. off_gone i n r ds ws z a) (mathlib.Core.List.Memᴰ.cases_cons d)
off_gone {sv} i n r (Gives k q ∷ ds) ws d a = ⊎_elim (λ e. let z : n ≡ k = cc in gone_from i k n z ws (off_in {sv = sv} i ds (Wait i n) (without i k ws) a)) (λ z. off_gone i n r ds (without i k ws) z a) (mathlib.Core.List.Memᴰ.cases_cons d)
off_gone i n r (Whole' ∷ ds) ws d a = ⊎_elim (λ e. absurd (let z : ◌≡◌ {A = ℕ} 0 1 = cc in omega arith)) (λ z. off_gone i n r ds ws z a) (mathlib.Core.List.Memᴰ.cases_cons d)

left_is : (i : ℕ) (a : Waits) (ws : List Waits) → Memᴰ a (left_by i ws) → Memᴰ a ws × (a.house ≡ i → ⊥)
unfolding left_by
left_is i a [] d = absurd (mathlib.Core.List.Memᴰ.not-nil d)
left_is i a (b ∷ ws) d =
    cond_both (eqb i b.house) (left_by i ws) (b ∷ left_by i ws) (λ l. Memᴰ a l → Memᴰ a (b ∷ ws) × (a.house ≡ i → ⊥)) (λ _ z. let k = left_is i a ws z in (mathlib.Core.List.Memᴰ.tail k.0, k.1))
    (λ f z. ⊎_elim (λ e. (mathlib.Core.List.Memᴰ.head e, λ q. eqb-false i b.house f (sym q ∙ ap (λ (w : Waits). w.house) e))) (λ y. let k = left_is i a ws y in (mathlib.Core.List.Memᴰ.tail k.0, k.1)) (mathlib.Core.List.Memᴰ.cases_cons z)) d

-- what waits has its call at the replica
pub record At {sv : Service} (all : ℕ) (s : Scene (Mind sv) (Msg sv)) (a : Waits) : Type 0 where
  pub there' : a.house < all
  pub mind : Mind sv
  pub up : s.house a.house ≡ there mind
  pub call : Waiting sv
  pub waits : Memᴰ call mind.waiting
  pub number : call.number ≡ a.number

pub record Bounded {sv : Service} (fo : Follow sv) (all n : ℕ) (s : Scene (Mind sv) (Msg sv)) : Type 0 where
  pub minds : (i : ℕ) (m : Mind sv) → s.house i ≡ there m → Tops fo n m
  pub calls : (i : ℕ) (m : Mind sv) → s.house i ≡ there m → m.agreement.no + length m.waiting ≤ n
  pub eight : (i : ℕ) (m : Mind sv) → s.house i ≡ there m → length m.waiting ≤ 8
  pub letters : (l : Letter (Msg sv)) → Memᴰ l s.letters → LowWord fo n l.word
  pub back : (a : Waits) → Memᴰ a s.waits → At all s a
  pub drawn : length s.drawn ≤ suc n

module _ {sv : Service} (fo : Follow sv) (all : ℕ) where
  gone_there : {m : Mind sv} → gone ≡ there m → ⊥
  gone_there e = let z : ◌≡◌ {A = ℕ} 0 1 = cc in omega arith

  -- the scene s after a turn of i, where ws waited; who is frail does not matter here
  abbrev after : Scene (Mind sv) (Msg sv) → ℕ → Turn sv → List Waits → (ℕ → Bool) → Scene (Mind sv) (Msg sv)
  after s i x ws f = record { house = at i (there x.mind) s.house; frail = f; letters = posted i x.does ++ s.letters; waits = answered_off i x.does ws; drawn = s.drawn }

  -- mine: each call that waited at i does so still, or is answered in the turn; theirs: nothing else came to wait
  turned_bounds : (n : ℕ) (s : Scene (Mind sv) (Msg sv)) (f : ℕ → Bool) (i : ℕ) (m : Mind sv) (x : Turn sv) → i < all → s.house i ≡ there m → (ws : List Waits) → Bounded fo all n s →
      Tops fo (suc n) x.mind → AllLow fo (suc n) x.does → x.mind.agreement.no + length x.mind.waiting ≤ suc n → length x.mind.waiting ≤ 8 →
      ((a : Waits) → Memᴰ a ws → (a.house ≡ i) → (t : Waiting sv) × StillOrGiven fo x t × (t.number ≡ a.number)) → ((a : Waits) → Memᴰ a ws → (a.house ≡ i → ⊥) → Memᴰ a s.waits) →
      Bounded fo all (suc n) (after s i x ws f)
  turned_bounds n s f i m x lt here ws b tops words few most mine theirs =
      record {
        minds = λ j k e. minds' j k e (cases_eq j i);
        calls = λ j k e. calls' j k e (cases_eq j i);
        eight = λ j k e. eight' j k e (cases_eq j i);
        letters = λ l d. ⊎_elim (λ z. low_in fo (suc n) x.does words l.to l.word (posted_says i x.does l z)) (λ z. word_more fo n (suc n) (omega arith) l.word (b.letters l z)) (mathlib.Core.List.Memᴰ.append_cases (posted i x.does) d);
        back = λ a d. back' a d (off_in {sv = sv} i x.does a ws d) (cases_eq a.house i);
        drawn = omega (arith, b.drawn);
      }
    where
      minds' : (j : ℕ) (k : Mind sv) → at i (there x.mind) s.house j ≡ there k → (j ≡ i) ⊎ (j ≡ i → ⊥) → Tops fo (suc n) k
      minds' j k e (inl q) = subst (Tops fo (suc n)) (un_there x.mind k (sym (at_same i (there x.mind) s.house j q) ∙ e)) tops
      minds' j k e (inr ne) = tops_more fo n (suc n) (omega arith) k (b.minds j k (sym (at_other i (there x.mind) s.house j ne) ∙ e))

      calls' : (j : ℕ) (k : Mind sv) → at i (there x.mind) s.house j ≡ there k → (j ≡ i) ⊎ (j ≡ i → ⊥) → k.agreement.no + length k.waiting ≤ suc n
      calls' j k e (inl q) = subst (λ (z : Mind sv). z.agreement.no + length z.waiting ≤ suc n) (un_there x.mind k (sym (at_same i (there x.mind) s.house j q) ∙ e)) few
      calls' j k e (inr ne) = omega (arith, b.calls j k (sym (at_other i (there x.mind) s.house j ne) ∙ e))

      eight' : (j : ℕ) (k : Mind sv) → at i (there x.mind) s.house j ≡ there k → (j ≡ i) ⊎ (j ≡ i → ⊥) → length k.waiting ≤ 8
      eight' j k e (inl q) = subst (λ (z : Mind sv). length z.waiting ≤ 8) (un_there x.mind k (sym (at_same i (there x.mind) s.house j q) ∙ e)) most
      eight' j k e (inr ne) = b.eight j k (sym (at_other i (there x.mind) s.house j ne) ∙ e)

      stays : (a : Waits) → Memᴰ a (answered_off i x.does ws) → a.house ≡ i → (t : Waiting sv) → t.number ≡ a.number → StillOrGiven fo x t → Memᴰ t x.mind.waiting
      stays a d q t e (inl z) = z
      stays a d q t e (inr (r, z)) = absurd (off_gone i t.number r x.does ws z (subst (λ (w : Waits). Memᴰ w (answered_off i x.does ws)) (same a q t e) d))
        where
          same : (a : Waits) → a.house ≡ i → (t : Waiting sv) → t.number ≡ a.number → a ≡ Wait i t.number
          same a q t e = λ j. record { house = q j; number = sym e j }

      back' : (a : Waits) → Memᴰ a (answered_off i x.does ws) → Memᴰ a ws → (a.house ≡ i) ⊎ (a.house ≡ i → ⊥) → At all (after s i x ws f) a
      back' a d w (inl q) = let (t, k, e) = mine a w q in record { there' = omega (arith, lt, q); mind = x.mind; up = at_same i (there x.mind) s.house a.house q; call = t; waits = stays a d q t e k; number = e }
      back' a d w (inr ne) =
          let k = b.back a (theirs a w ne) in record { there' = k.there'; mind = k.mind; up = at_other i (there x.mind) s.house a.house ne ∙ k.up; call = k.call; waits = k.waits; number = k.number }

  -- a turn that no call begins
  slow_bounds : (n : ℕ) (s : Scene (Mind sv) (Msg sv)) (f : ℕ → Bool) (i : ℕ) (m : Mind sv) (x : Turn sv) → i < all → s.house i ≡ there m → Bounded fo all n s → Kept m x.mind → Slow fo (suc n) m x → Bounded fo all (suc n) (after s i x s.waits f)
  slow_bounds n s f i m x lt e b h k =
      turned_bounds n s f i m x lt e s.waits b k.tops k.words (omega (arith, h.2, b.calls i m e)) (omega (arith, fewer_wait m x.mind h, b.eight i m e)) (λ a d q. mine a (b.back a d) q) (λ a d ne. d)
    where
      mine : (a : Waits) → At all s a → a.house ≡ i → (t : Waiting sv) × StillOrGiven fo x t × (t.number ≡ a.number)
      mine a w q = let u : w.mind ≡ m = un_there w.mind m (sym w.up ∙ (ap s.house q ∙ e)) in (w.call, k.kept w.call (subst (λ (z : Mind sv). Memᴰ w.call z.waiting) u w.waits), w.number)

  -- a turn that a call begins
  came_bounds : (n : ℕ) (s : Scene (Mind sv) (Msg sv)) (f : ℕ → Bool) (i q : ℕ) (o : sv.O) (m : Mind sv) (x : Turn sv) → i < all → s.house i ≡ there m → Bounded fo all n s → Came fo (suc n) (record { number = q; call = o }) m x →
      Bounded fo all (suc n) (after s i x (Wait i q ∷ s.waits) f)
  came_bounds n s f i q o m x lt e b k =
      turned_bounds n s f i m x lt e (Wait i q ∷ s.waits) b k.tops k.words (omega (arith, k.sum, b.calls i m e)) (k.eight (b.eight i m e)) (λ a d y. mine a (mathlib.Core.List.Memᴰ.cases_cons d) y)
      (λ a d ne. ⊎_elim (λ z. absurd (ne (ap (λ (w : Waits). w.house) z))) (λ z. z) (mathlib.Core.List.Memᴰ.cases_cons d))
    where
      old : (a : Waits) → At all s a → a.house ≡ i → (t : Waiting sv) × StillOrGiven fo x t × (t.number ≡ a.number)
      old a w y = let u : w.mind ≡ m = un_there w.mind m (sym w.up ∙ (ap s.house y ∙ e)) in (w.call, k.kept w.call (subst (λ (z : Mind sv). Memᴰ w.call z.waiting) u w.waits), w.number)

      mine : (a : Waits) → (a ≡ Wait i q) ⊎ Memᴰ a s.waits → a.house ≡ i → (t : Waiting sv) × StillOrGiven fo x t × (t.number ≡ a.number)
      mine a (inl z) y = (record { number = q; call = o }, k.came, ap (λ (w : Waits). w.number) (sym z))
      mine a (inr d) y = old a (b.back a d) y

  fallen_bounds : (n : ℕ) (s : Scene (Mind sv) (Msg sv)) (i : ℕ) → Bounded fo all n s → Bounded fo all (suc n) (fallen i s)
  fallen_bounds n s i b =
      record {
        minds = λ j k e. tops_more fo n (suc n) (omega arith) k (b.minds j k (up j k e (cases_eq j i)));
        calls = λ j k e. omega (arith, b.calls j k (up j k e (cases_eq j i)));
        eight = λ j k e. b.eight j k (up j k e (cases_eq j i));
        letters = λ l d. word_more fo n (suc n) (omega arith) l.word (b.letters l d);
        back = λ a d. let w = left_is i a s.waits d in let k = b.back a w.0 in record { there' = k.there'; mind = k.mind; up = at_other i gone s.house a.house w.1 ∙ k.up; call = k.call; waits = k.waits; number = k.number };
        drawn = omega (arith, b.drawn);
      }
    where
      up : (j : ℕ) (k : Mind sv) → at i gone s.house j ≡ there k → (j ≡ i) ⊎ (j ≡ i → ⊥) → s.house j ≡ there k
      up j k e (inl q) = absurd (gone_there (sym (at_same i gone s.house j q) ∙ e))
      up j k e (inr ne) = sym (at_other i gone s.house j ne) ∙ e

  -- one that wakes has small numbers, and nothing waits at it
  woke_tops : (i x n : ℕ) → Tops fo n (woke sv i all x)
  woke_tops i x n = record { view = omega arith; held = record { view = omega arith; state = fo.more 0 n sv.clerk.start (omega arith) fo.start } }

  pub woken_bounds : (n : ℕ) (s : Scene (Mind sv) (Msg sv)) (i x : ℕ) → s.house i ≡ gone → Bounded fo all n s → Bounded fo all (suc n) (woken (code sv) all i x s)
  woken_bounds n s i x g b =
      record {
        minds = λ j k e. minds' j k e (cases_eq j i);
        calls = λ j k e. calls' j k e (cases_eq j i);
        eight = λ j k e. eight' j k e (cases_eq j i);
        letters = λ l d. word_more fo n (suc n) (omega arith) l.word (b.letters l d);
        back = λ a d. back' a (b.back a d) (cases_eq a.house i);
        drawn = omega (arith, b.drawn);
      }
    where
      minds' : (j : ℕ) (k : Mind sv) → at i (there (woke sv i all x)) s.house j ≡ there k → (j ≡ i) ⊎ (j ≡ i → ⊥) → Tops fo (suc n) k
      minds' j k e (inl q) = subst (Tops fo (suc n)) (un_there (woke sv i all x) k (sym (at_same i (there (woke sv i all x)) s.house j q) ∙ e)) (woke_tops i x (suc n))
      minds' j k e (inr ne) = tops_more fo n (suc n) (omega arith) k (b.minds j k (sym (at_other i (there (woke sv i all x)) s.house j ne) ∙ e))

      calls' : (j : ℕ) (k : Mind sv) → at i (there (woke sv i all x)) s.house j ≡ there k → (j ≡ i) ⊎ (j ≡ i → ⊥) → k.agreement.no + length k.waiting ≤ suc n
      calls' j k e (inl q) = subst (λ (z : Mind sv). z.agreement.no + length z.waiting ≤ suc n) (un_there (woke sv i all x) k (sym (at_same i (there (woke sv i all x)) s.house j q) ∙ e)) (omega arith)
      calls' j k e (inr ne) = omega (arith, b.calls j k (sym (at_other i (there (woke sv i all x)) s.house j ne) ∙ e))

      eight' : (j : ℕ) (k : Mind sv) → at i (there (woke sv i all x)) s.house j ≡ there k → (j ≡ i) ⊎ (j ≡ i → ⊥) → length k.waiting ≤ 8
      eight' j k e (inl q) = subst (λ (z : Mind sv). length z.waiting ≤ 8) (un_there (woke sv i all x) k (sym (at_same i (there (woke sv i all x)) s.house j q) ∙ e)) (omega arith)
      eight' j k e (inr ne) = b.eight j k (sym (at_other i (there (woke sv i all x)) s.house j ne) ∙ e)

      back' : (a : Waits) → At all s a → (a.house ≡ i) ⊎ (a.house ≡ i → ⊥) → At all (woken (code sv) all i x s) a
      back' a k (inl q) = absurd (gone_there (sym g ∙ (ap s.house (sym q) ∙ k.up)))
      back' a k (inr ne) = record { there' = k.there'; mind = k.mind; up = at_other i (there (woke sv i all x)) s.house a.house ne ∙ k.up; call = k.call; waits = k.waits; number = k.number }

  -- every run
  pub bounded : {n : ℕ} {es : List (Seen sv.O sv.R)} {s : Scene (Mind sv) (Msg sv)} → Goes (code sv) all n es s → Bounded fo all n s
  unfolding turn
  bounded first =
      record {
        minds = λ i m e. subst (Tops fo 0) (un_there (woke sv i all 0) m e) (woke_tops i 0 0);
        calls = λ i m e. subst (λ (z : Mind sv). z.agreement.no + length z.waiting ≤ 0) (un_there (woke sv i all 0) m e) (omega arith);
        eight = λ i m e. subst (λ (z : Mind sv). length z.waiting ≤ 8) (un_there (woke sv i all 0) m e) (omega arith);
        letters = λ l d. absurd (mathlib.Core.List.Memᴰ.not-nil d);
        back = λ a d. absurd (mathlib.Core.List.Memᴰ.not-nil d);
        drawn = omega arith;
      }
  bounded (hears {n = n} {s = s} i m l lt g e d to) = let b = bounded g in slow_bounds n s _ i m (turn (Said l.by l.word) m) lt e b (hears_counts l.by l.word m) (hears_slow fo l.by l.word n m (b.letters l d) (b.minds i m e))
  bounded (is_asked {n = n} {s = s} i k o m lt fits g e new) = let b = bounded g in came_bounds n s _ i k o m (turn (Call' k o) m) lt e b (on_call_came fo k o n m (b.minds i m e))
  bounded (beats {n = n} {s = s} i m lt g e) = let b = bounded g in slow_bounds n s _ i m (turn Beat m) lt e b (on_beat_counts m) (on_beat_slow fo n m (b.minds i m e))
  bounded (falls {n = n} {s = s} i m lt g e few) = fallen_bounds n s i (bounded g)
  bounded (wakes {n = n} {s = s} i x lt new g e) = woken_bounds n s i x e (bounded g)
