-- Whatever the room shows has an order: the one in which its clerk did the calls. Assumes nothing.
use Rattle.std.proofs.Common.{◌≡◌, ℕ, ◌+◌, ◌≤◌, Bool, true, false, cond, not, T, eqb, List, [], ◌∷◌, ◌++◌, sym, refl, ap, ◌∙◌, subst, inl, inr, ⊎_elim, arith}
use mathlib.Core.List.Memᴰ
use mathlib.Core.List.{Memᴰ}
use Rattle.std.proofs.lemmas.Bool.{cond_both, cond-true, cond-false, or_parts, eqb-true, eq-eqb, false≢true}
use Rattle.std.proofs.lemmas.Bool.Decides.{nat_tests}
use Rattle.runs.specs.Replicas.{Seen, asked, gave, Said, Call', Beat, Does, Says, Gives, Whole', Code, Scene, given, was_asked, Goes, first, hears, is_asked, beats, falls, wakes}
use Rattle.runs.specs.Room.{Clerk, Open, Ready, Room, opens, comes_in, is_done, goes_out, handed_back}
use Rattle.runs.specs.Order.{Deed, Line, none, more, done_often, asked_often, times_in, GivenBy, Settled, Then, Ordered}

unfoldable pub open_often : {O : Type 0} → ℕ → List (Open O) → ℕ
open_often k [] = 0
open_often k (a ∷ os) = cond (eqb k a.number) (1 + open_often k os) (open_often k os)

-- one that stands anywhere counts as if it stood in front
open_middle : {O : Type 0} (q : ℕ) (xs ys : List (Open O)) (a : Open O) → open_often q (xs ++ a ∷ ys) ≡ open_often q (a ∷ xs ++ ys)
unfolding open_often
open_middle q [] ys a = refl
open_middle q (x ∷ xs) ys a = let h = open_middle q xs ys a in grind (arith, nat_tests)

pub record Kept {O R : Type 0} (c : Clerk O R) (es : List (Seen O R)) (t : c.State) (os : List (Open O)) (rs : List (Ready R)) : Type 0 where
  pub deeds : List (Deed O R)
  pub line : Line c deeds t
  pub handed : List ℕ
  pub counts : (k : ℕ) → done_often k deeds + times_in k handed + open_often k os ≤ asked_often k es
  pub real_time : (xs ys : List (Seen O R)) → es ≡ xs ++ ys → Then c ys deeds
  pub settled : (i k : ℕ) (r : R) → Memᴰ (gave i k r) es → Settled c deeds handed i k r
  pub came : (d : Deed O R) → Memᴰ d deeds → Memᴰ (asked d.house d.number d.call) es
  pub opened : (a : Open O) → Memᴰ a os → Memᴰ (asked a.house a.number a.call) es
  pub ready : (a : Ready R) → Memᴰ a rs → (d : Deed O R) × Memᴰ d deeds × (d.house ≡ a.house) × (d.number ≡ a.number) × (d.reply ≡ a.reply)

given_by : {O R : Type 0} (c : Clerk O R) (ds : List (Deed O R)) (hs : List ℕ) (i k : ℕ) (r : R) → Settled c ds hs i k r → GivenBy c ds i k r
given_by c ds hs i k r = ⊎_elim inl (λ x. inr x.0)

middle : {A : Type 0} (xs ys : List A) (a x : A) → Memᴰ x (xs ++ ys) → Memᴰ x (xs ++ a ∷ ys)
middle xs ys a x m = ⊎_elim (λ h. Memᴰ.append_left (a ∷ ys) h) (λ h. Memᴰ.append_right xs (Memᴰ.tail h)) (Memᴰ.append_cases xs m)

-- a split of what was seen with one more in front
split_more : {O R : Type 0} (c : Clerk O R) (e : Seen O R) (es : List (Seen O R)) (ds : List (Deed O R)) →
    ((i k : ℕ) (r : R) → Memᴰ (gave i k r) (e ∷ es) → GivenBy c ds i k r) → ((d : Deed O R) → Memᴰ d ds → Memᴰ (asked d.house d.number d.call) (e ∷ es)) →
    ((xs ys : List (Seen O R)) → es ≡ xs ++ ys → Then c ys ds) → (xs ys : List (Seen O R)) → e ∷ es ≡ xs ++ ys → Then c ys ds
split_more c e es ds g a h [] ys q = subst (λ l. Then c l ds) q (record { newer = []; older = ds; split = refl; given = g; asked' = a })
split_more c e es ds g a h (x ∷ xs) ys q = h xs ys (cc)

module _ {O R : Type 0} (c : Clerk O R) where
  pub kept : (es : List (Seen O R)) (t : c.State) (os : List (Open O)) (rs : List (Ready R)) → Room c es t os rs → Kept c es t os rs
  unfolding done_often asked_often open_often times_in
  kept _ _ _ _ opens = record {
    deeds = [];
    line = none;
    handed = [];
    counts = λ k. omega arith;
    real_time = λ xs ys q. record { newer = []; older = []; split = refl; given = λ i k r m. absurd (Memᴰ.not-nil (subst (λ (l : List (Seen O R)). Memᴰ (gave i k r) l) (sym q) (Memᴰ.append_right xs m))); asked' = λ d m. absurd (Memᴰ.not-nil m) };
    settled = λ i k r m. absurd (Memᴰ.not-nil m);
    came = λ d m. absurd (Memᴰ.not-nil m);
    opened = λ a m. absurd (Memᴰ.not-nil m);
    ready = λ a m. absurd (Memᴰ.not-nil m);
  }
  kept _ _ _ _ (comes_in {es = es} {s = t} {os = os} {rs = rs} i k o g) =
      let w = kept es t os rs g in
      let settled' : (j q : ℕ) (r : R) → Memᴰ (gave j q r) (asked i k o ∷ es) → Settled c w.deeds w.handed j q r =
      λ j q r m. ⊎_elim (λ e. absurd (let z : ◌≡◌ {A = ℕ} 0 1 = cc in omega arith)) (w.settled j q r) (Memᴰ.cases_cons m) in
      let came' : (d : Deed O R) → Memᴰ d w.deeds → Memᴰ (asked d.house d.number d.call) (asked i k o ∷ es) = λ d m. Memᴰ.tail (w.came d m) in
      record {
        deeds = w.deeds;
        line = w.line;
        counts = λ q. let h = w.counts q in grind (arith, nat_tests);
        real_time = split_more c (asked i k o) es w.deeds (λ j q p m. given_by c w.deeds w.handed j q p (settled' j q p m)) came' w.real_time;
        handed = w.handed;
        settled = settled';
        came = came';
        opened = λ a m. ⊎_elim (λ e. Memᴰ.head (λ j. asked (e j).house (e j).number (e j).call)) (λ h. Memᴰ.tail (w.opened a h)) (Memᴰ.cases_cons m);
        ready = w.ready;
      }
  kept _ _ _ _ (is_done {es = es} {s = t} {rs = rs} xs ys i k o g) =
      let w = kept es t (xs ++ record { house = i; number = k; call = o } ∷ ys) rs g in
      let d : Deed O R = record { house = i; number = k; call = o; reply = c.reply o t } in
      record {
        deeds = d ∷ w.deeds;
        line = more i k o w.line;
        counts = λ q. let h = w.counts q in let e = open_middle q xs ys (record { house = i; number = k; call = o }) in grind (arith, nat_tests);
        real_time = λ us vs q. let r = w.real_time us vs q in record { newer = d ∷ r.newer; older = r.older; split = ap (λ (l : List (Deed O R)). d ∷ l) r.split; given = r.given; asked' = r.asked' };
        handed = w.handed;
        settled = λ j q r m. ⊎_elim (λ x. inl (x.0, Memᴰ.tail x.1, x.2, x.3, x.4)) inr (w.settled j q r m);
        came = λ x m. ⊎_elim (λ e. subst (λ (y : Deed O R). Memᴰ (asked y.house y.number y.call) es) (sym e) (w.opened (record { house = i; number = k; call = o }) (Memᴰ.append_right xs (Memᴰ.head refl)))) (w.came x) (Memᴰ.cases_cons m);
        opened = λ a m. w.opened a (middle xs ys (record { house = i; number = k; call = o }) a m);
        ready = λ a m. ⊎_elim (λ e. (d, Memᴰ.head refl, ap (λ (y : Ready R). y.house) (sym e), ap (λ (y : Ready R). y.number) (sym e), ap (λ (y : Ready R). y.reply) (sym e))) (λ h. let x = w.ready a h in (x.0, Memᴰ.tail x.1, x.2, x.3, x.4)) (Memᴰ.cases_cons m);
      }
  kept _ _ _ _ (goes_out {es = es} {s = t} {os = os} xs ys i k r g) =
      let w = kept es t os (xs ++ record { house = i; number = k; reply = r } ∷ ys) g in
      let x = w.ready (record { house = i; number = k; reply = r }) (Memᴰ.append_right xs (Memᴰ.head refl)) in
      let settled' : (j q : ℕ) (p : R) → Memᴰ (gave j q p) (gave i k r ∷ es) → Settled c w.deeds w.handed j q p =
      λ j q p m. ⊎_elim (λ e. let a : j ≡ i = cc in let b : q ≡ k = cc in let f : p ≡ r = cc in inl (x.0, x.1, x.2 ∙ sym a, x.3 ∙ sym b, x.4 ∙ sym f)) (w.settled j q p) (Memᴰ.cases_cons m) in
      let came' : (d : Deed O R) → Memᴰ d w.deeds → Memᴰ (asked d.house d.number d.call) (gave i k r ∷ es) = λ d m. Memᴰ.tail (w.came d m) in
      record {
        deeds = w.deeds;
        line = w.line;
        counts = w.counts;
        real_time = split_more c (gave i k r) es w.deeds (λ j q p m. given_by c w.deeds w.handed j q p (settled' j q p m)) came' w.real_time;
        handed = w.handed;
        settled = settled';
        came = came';
        opened = λ a m. Memᴰ.tail (w.opened a m);
        ready = λ a m. w.ready a (middle xs ys (record { house = i; number = k; reply = r }) a m);
      }
  kept _ _ _ _ (handed_back {es = es} {s = t} {rs = rs} xs ys i k o g) =
      let w = kept es t (xs ++ record { house = i; number = k; call = o } ∷ ys) rs g in
      let settled' : (j q : ℕ) (p : R) → Memᴰ (gave j q p) (gave i k c.busy ∷ es) → Settled c w.deeds (k ∷ w.handed) j q p =
      λ j q p m. ⊎_elim (λ e. let f : p ≡ c.busy = cc in let b : q ≡ k = cc in inr (f, Memᴰ.head b)) (λ h. ⊎_elim inl (λ x. inr (x.0, Memᴰ.tail x.1)) (w.settled j q p h)) (Memᴰ.cases_cons m) in
      let came' : (d : Deed O R) → Memᴰ d w.deeds → Memᴰ (asked d.house d.number d.call) (gave i k c.busy ∷ es) = λ d m. Memᴰ.tail (w.came d m) in
      record {
        deeds = w.deeds;
        line = w.line;
        counts = λ q. let h = w.counts q in let e = open_middle q xs ys (record { house = i; number = k; call = o }) in grind (arith, nat_tests);
        real_time = split_more c (gave i k c.busy) es w.deeds (λ j q p m. given_by c w.deeds (k ∷ w.handed) j q p (settled' j q p m)) came' w.real_time;
        handed = k ∷ w.handed;
        settled = settled';
        came = came';
        opened = λ a m. Memᴰ.tail (w.opened a (middle xs ys (record { house = i; number = k; call = o }) a m));
        ready = w.ready;
      }

  pub ordered : (es : List (Seen O R)) (t : c.State) (os : List (Open O)) (rs : List (Ready R)) → Room c es t os rs → Ordered c es t
  ordered es t os rs g = let w = kept es t os rs g in record { deeds = w.deeds; line = w.line; handed = w.handed; once = λ k. omega (arith, w.counts k); settled = w.settled; came = w.came; real_time = w.real_time }

-- A NUMBER IS ASKED ONCE in a run
given_none : {M O R : Type 0} (k i : ℕ) (ds : List (Does M R)) (es : List (Seen O R)) → asked_often k (given i ds ++ es) ≡ asked_often k es
unfolding asked_often given
given_none k i [] es = refl
given_none k i (Says j m ∷ ds) es = given_none k i ds es
given_none k i (Gives q r ∷ ds) es = given_none k i ds es
given_none k i (Whole' ∷ ds) es = given_none k i ds es

never_asked : {O R : Type 0} (k : ℕ) (es : List (Seen O R)) → was_asked k es ≡ false → asked_often k es ≡ 0
unfolding asked_often was_asked
never_asked k [] h = refl
never_asked k (asked i n o ∷ es) h = let p = or_parts (eqb k n) (was_asked k es) h in cond-false (eqb k n) (1 + asked_often k es) (asked_often k es) p.0 ∙ never_asked k es p.1
never_asked k (gave i n r ∷ es) h = never_asked k es h

T_not : (b : Bool) → T (not b) → b ≡ false
T_not true h = absurd h
T_not false h = refl

pub asked_once : {M O R : Type 0} (c : Code M O R) (all n : ℕ) (es : List (Seen O R)) (s : Scene c.Mind M) → Goes c all n es s → (q : ℕ) → asked_often q es ≤ 1
unfolding asked_often
asked_once c all _ _ _ first q = omega arith
asked_once c all _ _ _ (hears {n = n} {es = es} {s = s} i m l lt g h mem to) q = omega (arith, given_none q i (c.turns (Said l.by l.word) m).does es, asked_once c all n es s g q)
asked_once {M} {O} {R} c all _ _ _ (is_asked {n = n} {es = es} {s = s} i k o m lt fit g h new) q =
    let e = given_none q i (c.turns (Call' k o) m).does (asked i k o ∷ es) in
    let bound : cond (eqb q k) (1 + asked_often q es) (asked_often q es) ≤ 1 =
    cond_both (eqb q k) (1 + asked_often q es) (asked_often q es) (λ (x : ℕ). x ≤ 1) (λ b. omega (arith, ap (λ (j : ℕ). asked_often j es) (eqb-true q k b), never_asked k es (T_not (was_asked k es) new))) (λ b. asked_once c all n es s g q) in
    omega (arith, e)
asked_once c all _ _ _ (beats {n = n} {es = es} {s = s} i m lt g h) q = omega (arith, given_none q i (c.turns Beat m).does es, asked_once c all n es s g q)
asked_once c all _ _ _ (falls {n = n} {es = es} {s = s} i m lt g h few) q = asked_once c all n es s g q
asked_once c all _ _ _ (wakes {n = n} {es = es} {s = s} i x lt new g h) q = asked_once c all n es s g q

asked_some : {O R : Type 0} (ys : List (Seen O R)) (i k : ℕ) (o : O) → Memᴰ (asked i k o) ys → asked_often k ys ≡ 0 → ⊥
unfolding asked_often
asked_some [] i k o m z = Memᴰ.not-nil m
asked_some (asked j n p ∷ ys) i k o m z =
    cond_both (eqb k n) (1 + asked_often k ys) (asked_often k ys) (λ (x : ℕ). x ≡ 0 → ⊥) (λ b h. omega arith)
    (λ b h. ⊎_elim (λ e. let a : k ≡ n = cc in false≢true (sym b ∙ eq-eqb k n a)) (λ r. asked_some ys i k o r h) (Memᴰ.cases_cons m)) z
asked_some (gave j n r ∷ ys) i k o m z = ⊎_elim (λ e. let a : ◌≡◌ {A = ℕ} 0 1 = cc in omega arith) (λ q. asked_some ys i k o q z) (Memᴰ.cases_cons m)

-- A LINE CUT IN TWO: what was done first is a line of its own
pub line_older : {O R : Type 0} (c : Clerk O R) (ds newer older : List (Deed O R)) (t : c.State) → Line c ds t → ds ≡ newer ++ older → (u : c.State) × Line c older u
line_older c ds [] older t l e = (t, subst (λ x. Line c x t) e l)
line_older c _ (n ∷ newer) older _ none e = absurd (let z : ◌≡◌ {A = ℕ} 0 1 = cc in omega arith)
line_older c _ (n ∷ newer) older _ (more {ds = ds} {s = s} i k o l) e = line_older c ds newer older s l (cc)

-- what was done was asked: so what was not asked was not done
pub not_done : {O R : Type 0} (ys : List (Seen O R)) (ds : List (Deed O R)) (k : ℕ) → ((d : Deed O R) → Memᴰ d ds → Memᴰ (asked d.house d.number d.call) ys) → asked_often k ys ≡ 0 → done_often k ds ≡ 0
unfolding done_often
not_done ys [] k h z = refl
not_done ys (d ∷ ds) k h z =
    cond_both (eqb k d.number) (1 + done_often k ds) (done_often k ds) (λ (x : ℕ). x ≡ 0)
    (λ b. absurd (asked_some ys d.house d.number d.call (h d (Memᴰ.head refl)) (ap (λ (j : ℕ). asked_often j ys) (sym (eqb-true k d.number b)) ∙ z)))
    (λ b. not_done ys ds k (λ x m. h x (Memᴰ.tail m)) z)

-- one number, one call
pub asked_same : {O R : Type 0} (es : List (Seen O R)) (i j k : ℕ) (o u : O) → asked_often k es ≤ 1 → Memᴰ (asked i k o) es → Memᴰ (asked j k u) es → o ≡ u
unfolding asked_often
asked_same [] i j k o u few m n = absurd (Memᴰ.not-nil m)
asked_same {O} {R} (asked a q b ∷ es) i j k o u few m n =
    ⊎_elim
    (λ e. ⊎_elim (λ f. cc) (λ f. absurd (twice (let z : k ≡ q = cc in z) j u f)) (Memᴰ.cases_cons n))
    (λ e. ⊎_elim (λ f. absurd (twice (let z : k ≡ q = cc in z) i o e)) (λ f. asked_same es i j k o u (fewer few) e f) (Memᴰ.cases_cons n))
    (Memᴰ.cases_cons m)
  where
    fewer : cond (eqb k q) (1 + asked_often k es) (asked_often k es) ≤ 1 → asked_often k es ≤ 1
    fewer h = grind (arith, nat_tests)

    twice : k ≡ q → (x : ℕ) (y : O) → Memᴰ (asked x k y) es → ⊥
    twice e x y f =
        let one = cond-true (eqb k q) (1 + asked_often k es) (asked_often k es) (eq-eqb k q e) in
        asked_some es x k y f (omega (arith, few, one))
asked_same (gave a q b ∷ es) i j k o u few m n =
    ⊎_elim (λ e. absurd (let z : ◌≡◌ {A = ℕ} 0 1 = cc in omega arith)) (λ e. ⊎_elim (λ f. absurd (let z : ◌≡◌ {A = ℕ} 0 1 = cc in omega arith)) (λ f. asked_same es i j k o u few e f) (Memᴰ.cases_cons n)) (Memᴰ.cases_cons m)

-- the newest of a line: done on what those before it left
pub line_last : {O R : Type 0} (c : Clerk O R) (d : Deed O R) (ds : List (Deed O R)) (t : c.State) → Line c (d ∷ ds) t → (s : c.State) × Line c ds s × (d.reply ≡ c.reply d.call s) × (t ≡ c.next d.call s)
line_last c _ _ _ (more {s = s} i k o l) = (s, l, refl, refl)

-- whatever was done was answered by the clerk
pub line_reply : {O R : Type 0} (c : Clerk O R) (ds : List (Deed O R)) (t : c.State) → Line c ds t → (d : Deed O R) → Memᴰ d ds → (s : c.State) × (d.reply ≡ c.reply d.call s)
line_reply c _ _ none d m = absurd (Memᴰ.not-nil m)
line_reply {O} {R} c _ _ (more {ds = ds} {s = s} i k o l) d m = ⊎_elim (λ e. (s, subst (λ (x : Deed O R). x.reply ≡ c.reply x.call s) (sym e) refl)) (line_reply c ds s l d) (Memᴰ.cases_cons m)

pub times_in_some : (k : ℕ) (ns : List ℕ) → Memᴰ k ns → 1 ≤ times_in k ns
unfolding times_in
times_in_some k [] m = absurd (Memᴰ.not-nil m)
times_in_some k (n ∷ ns) m = cond_both (eqb k n) (1 + times_in k ns) (times_in k ns) (λ (x : ℕ). 1 ≤ x) (λ b. omega arith) (λ b. ⊎_elim (λ e. absurd (false≢true (sym b ∙ eq-eqb k n e))) (times_in_some k ns) (Memᴰ.cases_cons m))
