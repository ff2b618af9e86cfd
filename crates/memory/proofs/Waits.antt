-- Calls in slots: those that wait, in a ring of eight, and those that were forwarded. One slot is filled, and the others stay as they are. Assumes nothing.
use Rattle.std.proofs.Common.{◌≡◌, ℕ, zero, suc, ◌+◌, ◌-◌, ◌*◌, ◌%◌, ◌<◌, ◌≤◌, List, [], ◌∷◌, ◌++◌, length, get_or, take, drop, set, Some, None, Option, sym, refl, ap, ◌∙◌, ⊎_elim, mul-le-mul_left, mul-suc, arith, length-set, get_or-set_other, get_or-set_same}
use borrow.Rule.Slice.PartMut.{put_mid}
use Rattle.std.specs.Option.{option_map}
use Rattle.std.proofs.lemmas.Slice.{take-put_mid_below, drop-put_mid, between-put_mid}
use Rattle.std.proofs.lemmas.List.{drop-take}
use Rattle.std.proofs.lemmas.Bool.{cases_lt, cases_eq}
use Rattle.agreement.specs.Content.{seven}
use Rattle.memory.specs.declared.lent.Queued.{Queued}
use Rattle.memory.specs.Keeps.{ring, queue, slot_in, waiting_at, forwarded, Slots, PutAt}

-- THE RING
pub ring_head : {X : Type 0} (n : ℕ) (f : ℕ → X) (i : ℕ) → 0 < n → ring n f i ≡ f i ∷ ring (n - 1) f ((i + 1) % 8)
unfolding ring
ring_head zero f i h = absurd (omega arith)
ring_head (suc n) f i h = let e : suc n - 1 ≡ n = omega arith in ap (λ (k : ℕ). f i ∷ ring k f ((i + 1) % 8)) (sym e)

pub ring_same : {X : Type 0} (n : ℕ) (f g : ℕ → X) (i : ℕ) → i < 8 → ((k : ℕ) → k < 8 → g k ≡ f k) → ring n g i ≡ ring n f i
unfolding ring
ring_same zero f g i l h = refl
ring_same (suc n) f g i l h = let r = ring_same n f g ((i + 1) % 8) (omega arith) h in let y = h i l in λ t. y t ∷ r t

pub ring_length : {X : Type 0} (n : ℕ) (f : ℕ → X) (i : ℕ) → length (ring n f i) ≡ n
unfolding ring
ring_length zero f i = refl
ring_length (suc n) f i = ap suc (ring_length n f ((i + 1) % 8))

pub ring_none : {X : Type 0} (f : ℕ → X) (i : ℕ) → ring 0 f i ≡ []
unfolding ring
ring_none f i = refl

-- one more at the end: elsewhere nothing has changed
pub ring_more : {X : Type 0} (n : ℕ) (f g : ℕ → X) (i j : ℕ) (x : X) → n < 8 → i < 8 → j ≡ (i + n) % 8 → g j ≡ x → ((k : ℕ) → k < 8 → (k ≡ j → ⊥) → g k ≡ f k) → ring (n + 1) g i ≡ ring n f i ++ (x ∷ [])
unfolding ring
ring_more {X} zero f g i j x ln li e h o = let s : j ≡ i = omega arith in ap (λ (y : X). y ∷ []) (ap g (sym s) ∙ h)
ring_more {X} (suc n) f g i j x ln li e h o =
    let s : suc n + 1 ≡ suc (n + 1) = omega arith in
    let r = ring_more n f g ((i + 1) % 8) j x (omega arith) (omega arith) (omega arith) h o in
    let y : g i ≡ f i = o i li (λ z. omega arith) in
    ap (λ (k : ℕ). ring k g i) s ∙ (λ t. y t ∷ r t)

-- THE QUEUE
pub queue_same : (room : ℕ) (f g : ℕ → List ℕ) (i : ℕ) (qs : List (Option Queued)) → ((k : ℕ) → i ≤ k → k < i + length qs → g (8 + k) ≡ f (8 + k)) → queue room g i qs ≡ queue room f i qs
unfolding queue
queue_same room f g i [] h = refl
queue_same room f g i (q ∷ qs) h =
    let r = queue_same room f g (i + 1) qs (λ k a l. h k (omega arith) (omega arith)) in let y = h i (omega arith) (omega arith) in λ t. option_map (forwarded room (y t)) q ∷ r t

pub queue_set : (room : ℕ) (f g : ℕ → List ℕ) (i j : ℕ) (qs : List (Option Queued)) (q : Option Queued) (call : List ℕ) → j < length qs → g (8 + (i + j)) ≡ call → ((k : ℕ) → k < i + length qs → (k ≡ i + j → ⊥) → g (8 + k) ≡ f (8 + k)) →
    queue room g i (set qs j q) ≡ set (queue room f i qs) j (option_map (forwarded room call) q)
unfolding queue
queue_set room f g i j [] q call l h o = absurd (omega arith)
queue_set room f g i zero (p ∷ qs) q call l h o =
    let e : i + 0 ≡ i = omega arith in
    let y : g (8 + i) ≡ call = ap (λ (k : ℕ). g (8 + k)) (sym e) ∙ h in
    let r = queue_same room f g (i + 1) qs (λ k a lk. o k (omega arith) (λ z. omega arith)) in
    λ t. option_map (forwarded room (y t)) q ∷ r t
queue_set room f g i (suc j) (p ∷ qs) q call l h o =
    let e : (i + 1) + j ≡ i + suc j = omega arith in
    let y : g (8 + i) ≡ f (8 + i) = o i (omega arith) (λ z. omega arith) in
    let r = queue_set room f g (i + 1) j qs q call (omega arith) (ap (λ (k : ℕ). g (8 + k)) e ∙ h) (λ k lk no'. o k (omega arith) (λ z. no' (omega arith))) in
    λ t. option_map (forwarded room (y t)) p ∷ r t

-- what is queued for a replica
pub queue_at : (room : ℕ) (f : ℕ → List ℕ) (i j : ℕ) (qs : List (Option Queued)) → get_or (queue room f i qs) j None ≡ option_map (forwarded room (f (8 + (i + j)))) (get_or qs j None)
unfolding queue
queue_at room f i j [] = refl
queue_at room f i zero (q ∷ qs) = let e : i ≡ i + 0 = omega arith in ap (λ (k : ℕ). option_map (forwarded room (f (8 + k))) q) e
queue_at room f i (suc j) (q ∷ qs) =
    let e : (i + 1) + j ≡ i + suc j = omega arith in queue_at room f (i + 1) j qs ∙ ap (λ (k : ℕ). option_map (forwarded room (f (8 + k))) (get_or qs j None)) e

pub queue_length : (room : ℕ) (f : ℕ → List ℕ) (i : ℕ) (qs : List (Option Queued)) → length (queue room f i qs) ≡ length qs
unfolding queue
queue_length room f i [] = refl
queue_length room f i (q ∷ qs) = ap suc (queue_length room f (i + 1) qs)

pub queue_forget : (room : ℕ) (f : ℕ → List ℕ) (j : ℕ) (qs : List (Option Queued)) → j < length qs → queue room f 0 (set qs j None) ≡ set (queue room f 0 qs) j None
queue_forget room f j qs l = queue_set room f f 0 j qs None (f (8 + (0 + j))) l refl (λ k lk d. refl)

pub queue_none : (room : ℕ) (f : ℕ → List ℕ) → queue room f 0 (seven None) ≡ seven None
unfolding queue
queue_none room f = refl

-- SLOTS
pub slot_below : (s k i : ℕ) → k < i → s * k + s ≤ s * i
slot_below s k i h = let a = mul-suc s k in let b : s * suc k ≤ s * i = mul-le-mul_left s h in omega arith

pub put_at : (a k : ℕ) (xs ys zs : List ℕ) → ys ≡ zs → k ≡ length zs → a + k ≤ length xs → length (put_mid a k xs ys) ≡ length xs → PutAt a zs xs (put_mid a k xs ys)
put_at a k xs ys zs e h l long =
    let ly : length ys ≡ length zs = ap length e in
    record {
      here = let d : (a + length zs) - a ≡ length zs = omega arith in ap (λ (n : ℕ). take n (drop a (put_mid a k xs ys))) (sym d) ∙ (between-put_mid a k xs ys (a + length zs) (omega arith) (omega arith) ∙ e);
      below = λ i n q. sym (drop-take i n (put_mid a k xs ys)) ∙ (ap (drop i) (take-put_mid_below a k xs ys (i + n) q (omega arith)) ∙ drop-take i n xs);
      behind = λ i n q. ap (take n) (drop-put_mid a k xs ys i (omega arith) (omega arith) (omega arith));
      long = long;
    }

-- a call lies in a slot from now on; the others are as they were
pub record Filled (size : ℕ) (ends calls : List ℕ) (i : ℕ) (call : List ℕ) (ends' calls' : List ℕ) : Type 0 where
  pub slots : Slots size ends' calls'
  pub here : slot_in size ends' calls' i ≡ call
  pub others : (k : ℕ) → k < 15 → (k ≡ i → ⊥) → slot_in size ends' calls' k ≡ slot_in size ends calls k

module _ (size : ℕ) (ends calls : List ℕ) (i : ℕ) (call is : List ℕ) (s : Slots size ends calls) (li : i < 15) (lc : length call ≤ size) (w : PutAt (size * i) call calls is) where
  short_more : (k : ℕ) → k < 15 → get_or (set ends i (length call)) k 0 ≤ size
  short_more k lk =
      ⊎_elim
      (λ e. let q : get_or (set ends i (length call)) k 0 ≡ length call = ap (λ (n : ℕ). get_or (set ends i (length call)) n 0) e ∙ get_or-set_same ends i (length call) 0 (omega (arith, s.fifteen)) in omega arith)
      (λ d. let q = get_or-set_other ends i k (length call) 0 d in let u = s.short k lk in omega arith)
      (cases_eq k i)

  above : (k : ℕ) → (k ≡ i → ⊥) → i ≤ k → i < k
  above k d ge = ⊎_elim (λ l. l) (λ g. absurd (d (omega arith))) (cases_lt i k)

  others_stay : (k : ℕ) → k < 15 → (k ≡ i → ⊥) → slot_in size (set ends i (length call)) is k ≡ slot_in size ends calls k
  others_stay k lk d =
      ap (λ (n : ℕ). take n (drop (size * k) is)) (get_or-set_other ends i k (length call) 0 d)
      ∙ ⊎_elim (λ lt. w.below (size * k) (get_or ends k 0) (let q = slot_below size k i lt in let u = s.short k lk in omega arith))
      (λ ge. w.behind (size * k) (get_or ends k 0) (let q = slot_below size i k (above k d ge) in omega arith))
      (cases_lt k i)

  pub filled : Filled size ends calls i call (set ends i (length call)) is
  filled =
      record {
        slots = record { fifteen = let e = length-set ends i (length call) in omega (arith, s.fifteen); inside = omega (arith, s.inside, w.long); long = s.long; small = omega (arith, s.small, w.long); short = short_more };
        here = ap (λ (n : ℕ). take n (drop (size * i) is)) (get_or-set_same ends i (length call) 0 (omega (arith, s.fifteen))) ∙ w.here;
        others = others_stay;
      }

-- WHAT WAITS, with one slot filled
module _ (room size : ℕ) (ends calls : List ℕ) (call ends' calls' : List ℕ) where
  pub waits_more : (i n number : ℕ) (ns : List ℕ) → n < 8 → i < 8 → 8 ≤ length ns → Filled size ends calls ((i + n) % 8) call ends' calls' →
      ring (n + 1) (waiting_at room (set ns ((i + n) % 8) number) (slot_in size ends' calls')) i ≡ ring n (waiting_at room ns (slot_in size ends calls)) i ++ (record { number = number; call = call } ∷ [])
  waits_more i n number ns ln li lns w =
      let j : ℕ = (i + n) % 8 in
      let named : get_or (set ns j number) j 0 ≡ number = get_or-set_same ns j number 0 (omega arith) in
      ring_more n (waiting_at room ns (slot_in size ends calls)) (waiting_at room (set ns j number) (slot_in size ends' calls')) i j (record { number = number; call = call }) ln li refl
      (λ t. record { number = named t; call = w.here t })
      (λ k lk d. let u = get_or-set_other ns j k number 0 d in let v = w.others k (omega arith) d in λ t. record { number = u t; call = v t })

  pub waits_still : (i n j : ℕ) (ns : List ℕ) → i < 8 → 8 ≤ j → Filled size ends calls j call ends' calls' →
      ring n (waiting_at room ns (slot_in size ends' calls')) i ≡ ring n (waiting_at room ns (slot_in size ends calls)) i
  waits_still i n j ns li lj w =
      ring_same n (waiting_at room ns (slot_in size ends calls)) (waiting_at room ns (slot_in size ends' calls')) i li
      (λ k lk. let v = w.others k (omega arith) (λ z. omega arith) in λ t. record { number = get_or ns k 0; call = v t })

  pub queue_still : (j : ℕ) (qs : List (Option Queued)) → length qs ≡ 7 → j < 8 → Filled size ends calls j call ends' calls' → queue room (slot_in size ends' calls') 0 qs ≡ queue room (slot_in size ends calls) 0 qs
  queue_still j qs l lj w = queue_same room (slot_in size ends calls) (slot_in size ends' calls') 0 qs (λ k a lk. w.others (8 + k) (omega arith) (λ z. omega arith))

  pub queue_more : (j : ℕ) (qs : List (Option Queued)) (q : Queued) → length qs ≡ 7 → j < 7 → Filled size ends calls (8 + j) call ends' calls' →
      queue room (slot_in size ends' calls') 0 (set qs j (Some q)) ≡ set (queue room (slot_in size ends calls) 0 qs) j (Some (forwarded room call q))
  queue_more j qs q l lj w =
      let e : 8 + (0 + j) ≡ 8 + j = omega arith in
      queue_set room (slot_in size ends calls) (slot_in size ends' calls') 0 j qs (Some q) call (omega arith)
      (ap (slot_in size ends' calls') e ∙ w.here)
      (λ k lk d. w.others (8 + k) (omega arith) (λ z. d (omega arith)))
