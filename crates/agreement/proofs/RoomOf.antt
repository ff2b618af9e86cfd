-- A trace is a room's: for every choice of when the reads that are not answered yet are done. Which answer of a read that is under way will be taken is not known before it is given; so it is proved for every choice.
use Rattle.std.proofs.Common.{◌≡◌, ℕ, suc, ◌<◌, ◌≤◌, Bool, true, false, eqb, ◌⊎◌, List, [], ◌∷◌, ◌++◌, length, sym, refl, ap, ◌∙◌, inl, inr, ⊎_elim, arith}
use mathlib.Core.List.Memᴰ
use mathlib.Core.List.{Memᴰ}
use Rattle.std.proofs.lemmas.Bool.{cases_eq, cases_Bool, cases_lt, true≢false, or_parts, eqb-false}
use Rattle.runs.specs.Replicas.{at, asked, gave}
use Rattle.runs.specs.Room.{Clerk, Open, Ready, Room, opens, comes_in, is_done, goes_out, handed_back}
use Rattle.agreement.proofs.Trace.{Tick, Asked, Moved, Gave, AtOnce, state_of, seen_of, was_moved, was_given, Tail, whole, later, Way, wrote, read_at, Quickly, Trace, none, asks, moves, gives, once}
use Rattle.agreement.proofs.Scenes.{at_same, at_other}

-- a place in a list; what else is in it stays when that is taken out
pub record Split {A : Type 0} (x : A) (l : List A) : Type 0 where
  pub front : List A
  pub back : List A
  pub is : l ≡ front ++ x ∷ back
  pub rest : (y : A) → Memᴰ y l → (y ≡ x → ⊥) → Memᴰ y (front ++ back)

split : {A : Type 0} (x : A) (l : List A) → Memᴰ x l → Split x l
split x [] d = absurd (Memᴰ.not-nil d)
split {A} x (z ∷ l) d = go (Memᴰ.cases_cons d) (split x l)
  where
    go : (x ≡ z) ⊎ Memᴰ x l → (Memᴰ x l → Split x l) → Split x (z ∷ l)
    go (inl e) ih = record { front = []; back = l; is = ap (λ (y : A). y ∷ l) (sym e); rest = λ y m ne. ⊎_elim (λ q. absurd (ne (q ∙ sym e))) (λ n. n) (Memᴰ.cases_cons m) }
    go (inr n) ih =
        let s = ih n in
        record { front = z ∷ s.front; back = s.back; is = ap (λ (k : List A). z ∷ k) s.is; rest = λ y m ne. ⊎_elim (λ q. Memᴰ.head q) (λ n. Memᴰ.tail (s.rest y n ne)) (Memᴰ.cases_cons m) }

tail_cases : {A : Type 0} {a b : List A} {x : A} → Tail a (x ∷ b) → (a ≡ x ∷ b) ⊎ Tail a b
tail_cases whole = inl refl
tail_cases (later t) = inr t

tail_length : {A : Type 0} {a b : List A} → Tail a b → length a ≤ length b
tail_length whole = omega arith
tail_length (later t) = omega (arith, tail_length t)

tail_whole : {A : Type 0} {a b : List A} → Tail a b → length b ≤ length a → a ≡ b
tail_whole whole le = refl
tail_whole (later t) le = absurd (omega (arith, tail_length t))

no_tail : {A : Type 0} {x : A} {a : List A} → Tail (x ∷ a) [] → ⊥
no_tail t = elim t [ ]

-- what was asked was asked before
past_moved : {O R : Type 0} {i k a b : ℕ} {o q : O} {tr : List (Tick O R)} → Memᴰ (Asked i k o) (Moved a b q ∷ tr) → Memᴰ (Asked i k o) tr
past_moved d = ⊎_elim (λ e. absurd (let z : ◌≡◌ {A = ℕ} 0 1 = cc in omega arith)) (λ m. m) (Memᴰ.cases_cons d)

past_gave : {O R : Type 0} {i k a b : ℕ} {o : O} {q : R} {tr : List (Tick O R)} → Memᴰ (Asked i k o) (Gave a b q ∷ tr) → Memᴰ (Asked i k o) tr
past_gave d = ⊎_elim (λ e. absurd (let z : ◌≡◌ {A = ℕ} 0 1 = cc in omega arith)) (λ m. m) (Memᴰ.cases_cons d)

past_once : {O R : Type 0} {i k a b : ℕ} {o p : O} {q : R} {tr : List (Tick O R)} → Memᴰ (Asked i k o) (AtOnce a b p q ∷ tr) → Memᴰ (Asked i k o) tr
past_once d = ⊎_elim (λ e. absurd (let z : ◌≡◌ {A = ℕ} 0 1 = cc in omega arith)) (λ m. m) (Memᴰ.cases_cons d)

module _ {O R : Type 0} (c : Clerk O R) (reads : O → Bool) (still : (o : O) (t : c.State) → reads o ≡ true → c.next o t ≡ t) where
  -- a number is asked asked_once
  asked_once : {tr : List (Tick O R)} → Trace c reads tr → (i j k : ℕ) (o p : O) → Memᴰ (Asked i k o) tr → Memᴰ (Asked j k p) tr → ◌≡◌ {A = Tick O R} (Asked i k o) (Asked j k p)
  asked_once none i j k o p d e = absurd (Memᴰ.not-nil d)
  asked_once (asks {tr = tr} a b q t new) i j k o p d e = go (Memᴰ.cases_cons d) (Memᴰ.cases_cons e) (asked_once t i j k o p)
    where
      go : (◌≡◌ {A = Tick O R} (Asked i k o) (Asked a b q)) ⊎ Memᴰ (Asked i k o) tr → (◌≡◌ {A = Tick O R} (Asked j k p) (Asked a b q)) ⊎ Memᴰ (Asked j k p) tr → (Memᴰ (Asked i k o) tr → Memᴰ (Asked j k p) tr → ◌≡◌ {A = Tick O R} (Asked i k o) (Asked j k p)) → ◌≡◌ {A = Tick O R} (Asked i k o) (Asked j k p)
      go (inl x) (inl y) ih = x ∙ sym y
      go (inl x) (inr y) ih = let z : k ≡ b = cc in absurd (new j p (rw z at y))
      go (inr x) (inl y) ih = let z : k ≡ b = cc in absurd (new i o (rw z at x))
      go (inr x) (inr y) ih = ih x y
  asked_once (moves a b q t d' r m) i j k o p d e = asked_once t i j k o p (past_moved d) (past_moved e)
  asked_once (gives a b q t g w) i j k o p d e = asked_once t i j k o p (past_gave d) (past_gave e)
  asked_once (once a b q y t g) i j k o p d e = asked_once t i j k o p (past_once d) (past_once e)

  abbrev pub open' : (i k : ℕ) → O → Open O
  open' i k o = record { house = i; number = k; call = o }

  abbrev pub ready' : (i k : ℕ) → R → Ready R
  ready' i k r = record { house = i; number = k; reply = r }

  -- what a room has open and ready: n is the time up to which the reads of the choice ch are done
  pub record Has (ch : ℕ → ℕ) (n : ℕ) (tr : List (Tick O R)) (os : List (Open O)) (rs : List (Ready R)) : Type 0 where
    pub open_w : (i k : ℕ) (o : O) → Memᴰ (Asked i k o) tr → reads o ≡ false → was_moved k tr ≡ false → Memᴰ (open' i k o) os
    pub open_r : (i k : ℕ) (o : O) → Memᴰ (Asked i k o) tr → reads o ≡ true → was_given k tr ≡ false → n < ch k → Memᴰ (open' i k o) os
    pub ready_w : (i k : ℕ) (o : O) (a : List (Tick O R)) → Tail (Moved i k o ∷ a) tr → reads o ≡ false → was_given k tr ≡ false → Memᴰ (ready' i k (c.reply o (state_of c a))) rs
    pub ready_r : (i k : ℕ) (o : O) (a : List (Tick O R)) → Tail a tr → Memᴰ (Asked i k o) a → reads o ≡ true → length a ≡ ch k → length a ≤ n → was_given k tr ≡ false → Memᴰ (ready' i k (c.reply o (state_of c a))) rs

  pub record Is (ch : ℕ → ℕ) (n : ℕ) (tr : List (Tick O R)) : Type 0 where
    pub os : List (Open O)
    pub rs : List (Ready R)
    pub room : Room c (seen_of tr) (state_of c tr) os rs
    pub has : Has ch n tr os rs

  -- the tick itself, with no read done at the new time
  ticked : {tr : List (Tick O R)} {x : Tick O R} → Trace c reads (x ∷ tr) → ((ch : ℕ → ℕ) → Is ch (length tr) tr) → (ch : ℕ → ℕ) → Is ch (length tr) (x ∷ tr)
  ticked (asks {tr = tr} i k o t new) ih ch = record { os = open' i k o ∷ r.os; rs = r.rs; room = comes_in i k o r.room; has = record { open_w = open_w'; open_r = open_r'; ready_w = ready_w'; ready_r = ready_r' } }
    where
      r : Is ch (length tr) tr
      r = ih ch

      or : (j m : ℕ) (p : O) → (Memᴰ (Asked j m p) tr → Memᴰ (open' j m p) r.os) → Memᴰ (Asked j m p) (Asked i k o ∷ tr) → Memᴰ (open' j m p) (open' i k o ∷ r.os)
      or j m p f d = ⊎_elim (λ e. Memᴰ.head (let a : j ≡ i = cc in let b : m ≡ k = cc in let q : p ≡ o = cc in cc)) (λ n. Memᴰ.tail (f n)) (Memᴰ.cases_cons d)

      open_w' : (j m : ℕ) (p : O) → Memᴰ (Asked j m p) (Asked i k o ∷ tr) → reads p ≡ false → was_moved m tr ≡ false → Memᴰ (open' j m p) (open' i k o ∷ r.os)
      open_w' j m p d w u = or j m p (λ n. r.has.open_w j m p n w u) d

      open_r' : (j m : ℕ) (p : O) → Memᴰ (Asked j m p) (Asked i k o ∷ tr) → reads p ≡ true → was_given m tr ≡ false → length tr < ch m → Memᴰ (open' j m p) (open' i k o ∷ r.os)
      open_r' j m p d w u lt = or j m p (λ n. r.has.open_r j m p n w u lt) d

      ready_w' : (j m : ℕ) (p : O) (a : List (Tick O R)) → Tail (Moved j m p ∷ a) (Asked i k o ∷ tr) → reads p ≡ false → was_given m tr ≡ false → Memᴰ (ready' j m (c.reply p (state_of c a))) r.rs
      ready_w' j m p a l w u = ⊎_elim (λ e. absurd (let z : ◌≡◌ {A = ℕ} 0 1 = cc in omega arith)) (λ n. r.has.ready_w j m p a n w u) (tail_cases l)

      ready_r' : (j m : ℕ) (p : O) (a : List (Tick O R)) → Tail a (Asked i k o ∷ tr) → Memᴰ (Asked j m p) a → reads p ≡ true → length a ≡ ch m → length a ≤ length tr → was_given m tr ≡ false → Memᴰ (ready' j m (c.reply p (state_of c a))) r.rs
      ready_r' j m p a l d w q le u = ⊎_elim (λ e. absurd (omega (arith, ap length e))) (λ n. r.has.ready_r j m p a n d w q le u) (tail_cases l)
  ticked (moves {tr = tr} i k o t d e m) ih ch =
      record {
        os = s.front ++ s.back;
        rs = ready' i k (c.reply o (state_of c tr)) ∷ r.rs;
        room = is_done s.front s.back i k o (rw s.is at r.room);
        has = record { open_w = open_w'; open_r = open_r'; ready_w = ready_w'; ready_r = ready_r' };
      }
    where
      r : Is ch (length tr) tr
      r = ih ch

      s : Split (open' i k o) r.os
      s = split (open' i k o) r.os (r.has.open_w i k o d e m)

      open_w' : (j n : ℕ) (p : O) → Memᴰ (Asked j n p) (Moved i k o ∷ tr) → reads p ≡ false → was_moved n (Moved i k o ∷ tr) ≡ false → Memᴰ (open' j n p) (s.front ++ s.back)
      open_w' j n p d w u = let v = or_parts (eqb n k) (was_moved n tr) u in s.rest (open' j n p) (r.has.open_w j n p (past_moved d) w v.1) (λ q. eqb-false n k v.0 (ap (λ (x : Open O). x.number) q))

      open_r' : (j n : ℕ) (p : O) → Memᴰ (Asked j n p) (Moved i k o ∷ tr) → reads p ≡ true → was_given n tr ≡ false → length tr < ch n → Memᴰ (open' j n p) (s.front ++ s.back)
      open_r' j n p d w u lt =
          s.rest (open' j n p) (r.has.open_r j n p (past_moved d) w u lt) (λ q. let z : p ≡ o = ap (λ (x : Open O). x.call) q in true≢false (sym w ∙ ap reads z ∙ e))

      ready_w' : (j n : ℕ) (p : O) (a : List (Tick O R)) → Tail (Moved j n p ∷ a) (Moved i k o ∷ tr) → reads p ≡ false → was_given n tr ≡ false → Memᴰ (ready' j n (c.reply p (state_of c a))) (ready' i k (c.reply o (state_of c tr)) ∷ r.rs)
      ready_w' j n p a l w u =
          ⊎_elim (λ q. Memᴰ.head (let x : j ≡ i = cc in let y : n ≡ k = cc in let z : p ≡ o = cc in let v : a ≡ tr = cc in cc)) (λ q. Memᴰ.tail (r.has.ready_w j n p a q w u)) (tail_cases l)

      ready_r' : (j n : ℕ) (p : O) (a : List (Tick O R)) → Tail a (Moved i k o ∷ tr) → Memᴰ (Asked j n p) a → reads p ≡ true → length a ≡ ch n → length a ≤ length tr → was_given n tr ≡ false → Memᴰ (ready' j n (c.reply p (state_of c a))) (ready' i k (c.reply o (state_of c tr)) ∷ r.rs)
      ready_r' j n p a l d w q le u = ⊎_elim (λ e. absurd (omega (arith, ap length e))) (λ z. Memᴰ.tail (r.has.ready_r j n p a z d w q le u)) (tail_cases l)
  ticked (once {tr = tr} i k o r t q) ih ch =
      record {
        os = x.os;
        rs = x.rs;
        room = at_once_lem q;
        has = record {
          open_w = λ j n p d. x.has.open_w j n p (past_once d);
          open_r = λ j n p d. x.has.open_r j n p (past_once d);
          ready_w = λ j n p a l w u. ⊎_elim (λ e. absurd (let z : ◌≡◌ {A = ℕ} 0 1 = cc in omega arith)) (λ z. x.has.ready_w j n p a z w u) (tail_cases l);
          ready_r = λ j n p a l d w e le u. ⊎_elim (λ z. absurd (omega (arith, ap length z))) (λ z. x.has.ready_r j n p a z d w e le u) (tail_cases l);
        };
      }
    where
      x : Is ch (length tr) tr
      x = ih ch

      -- it comes in and is handed back; or it comes in, is done, and its answer is handed out
      at_once_lem : Quickly c o r → Room c (gave i k r ∷ asked i k o ∷ seen_of tr) (state_of c tr) x.os x.rs
      at_once_lem (inl b) = rw b (handed_back [] x.os i k o (comes_in i k o x.room))
      at_once_lem (inr (a, b)) = rw (a (state_of c tr), b (state_of c tr)) at (goes_out [] x.rs i k (c.reply o (state_of c tr)) (is_done [] x.os i k o (comes_in i k o x.room)))
  ticked (gives {tr = tr} i k r t g w) ih ch = out w
    where
      -- with the choice ch', which is ch but at k
      given : (ch' : ℕ → ℕ) → ((n : ℕ) → (n ≡ k → ⊥) → ch' n ≡ ch n) → Memᴰ (ready' i k r) (ih ch').rs → Is ch (length tr) (Gave i k r ∷ tr)
      given ch' same d = record { os = x.os; rs = s.front ++ s.back; room = goes_out s.front s.back i k r (rw s.is at x.room); has = record { open_w = λ j n p d. x.has.open_w j n p (past_gave d); open_r = open_r'; ready_w = ready_w'; ready_r = ready_r' } }
        where
          x : Is ch' (length tr) tr
          x = ih ch'

          s : Split (ready' i k r) x.rs
          s = split (ready' i k r) x.rs d

          open_r' : (j n : ℕ) (p : O) → Memᴰ (Asked j n p) (Gave i k r ∷ tr) → reads p ≡ true → was_given n (Gave i k r ∷ tr) ≡ false → length tr < ch n → Memᴰ (open' j n p) x.os
          open_r' j n p d w u lt = let v = or_parts (eqb n k) (was_given n tr) u in x.has.open_r j n p (past_gave d) w v.1 (omega (arith, same n (eqb-false n k v.0)))

          ready_w' : (j n : ℕ) (p : O) (a : List (Tick O R)) → Tail (Moved j n p ∷ a) (Gave i k r ∷ tr) → reads p ≡ false → was_given n (Gave i k r ∷ tr) ≡ false → Memᴰ (ready' j n (c.reply p (state_of c a))) (s.front ++ s.back)
          ready_w' j n p a l w u =
              let v = or_parts (eqb n k) (was_given n tr) u in
              ⊎_elim (λ e. absurd (let z : ◌≡◌ {A = ℕ} 0 1 = cc in omega arith)) (λ z. s.rest _ (x.has.ready_w j n p a z w v.1) (λ q. eqb-false n k v.0 (ap (λ (y : Ready R). y.number) q))) (tail_cases l)

          ready_r' : (j n : ℕ) (p : O) (a : List (Tick O R)) → Tail a (Gave i k r ∷ tr) → Memᴰ (Asked j n p) a → reads p ≡ true → length a ≡ ch n → length a ≤ length tr → was_given n (Gave i k r ∷ tr) ≡ false → Memᴰ (ready' j n (c.reply p (state_of c a))) (s.front ++ s.back)
          ready_r' j n p a l d w q le u =
              let v = or_parts (eqb n k) (was_given n tr) u in let nk = eqb-false n k v.0 in
              ⊎_elim (λ e. absurd (omega (arith, ap length e))) (λ z. s.rest _ (x.has.ready_r j n p a z d w (q ∙ sym (same n nk)) le v.1) (λ q. nk (ap (λ (y : Ready R). y.number) q))) (tail_cases l)

      out : Way c reads tr i k r → Is ch (length tr) (Gave i k r ∷ tr)
      out (wrote o a e l q) = given ch (λ n _. refl) (rw q ((ih ch).has.ready_w i k o a l e g))
      out (read_at o a e l d q) = given (at k (length a) ch) (λ n nk. at_other k (length a) ch n nk)
          (rw q ((ih (at k (length a) ch)).has.ready_r i k o a l d e (sym (at_same k (length a) ch k refl)) (tail_length l) g))

  -- the reads of the choice ch that are due now, one by one: l is what of the trace was not yet looked at
  record Mid (ch : ℕ → ℕ) (tr l : List (Tick O R)) : Type 0 where
    pub os : List (Open O)
    pub rs : List (Ready R)
    pub room : Room c (seen_of tr) (state_of c tr) os rs
    pub open_w : (i k : ℕ) (o : O) → Memᴰ (Asked i k o) tr → reads o ≡ false → was_moved k tr ≡ false → Memᴰ (open' i k o) os
    pub open_r : (i k : ℕ) (o : O) → Memᴰ (Asked i k o) tr → reads o ≡ true → was_given k tr ≡ false → length tr < ch k → Memᴰ (open' i k o) os
    pub due : (i k : ℕ) (o : O) → Memᴰ (Asked i k o) l → reads o ≡ true → was_given k tr ≡ false → ch k ≡ length tr → Memᴰ (open' i k o) os
    pub ready_w : (i k : ℕ) (o : O) (a : List (Tick O R)) → Tail (Moved i k o ∷ a) tr → reads o ≡ false → was_given k tr ≡ false → Memᴰ (ready' i k (c.reply o (state_of c a))) rs
    pub ready_r : (i k : ℕ) (o : O) (a : List (Tick O R)) → Tail a tr → Memᴰ (Asked i k o) a → reads o ≡ true → length a ≡ ch k → length a < length tr → was_given k tr ≡ false → Memᴰ (ready' i k (c.reply o (state_of c a))) rs
    pub done : (i k : ℕ) (o : O) → Memᴰ (Asked i k o) tr → reads o ≡ true → was_given k tr ≡ false → ch k ≡ length tr → Memᴰ (Asked i k o) l ⊎ Memᴰ (ready' i k (c.reply o (state_of c tr))) rs

  -- nothing is due of x
  over : {ch : ℕ → ℕ} {tr l : List (Tick O R)} {x : Tick O R} → ((i k : ℕ) (o : O) → Asked i k o ≡ x → reads o ≡ true → was_given k tr ≡ false → ch k ≡ length tr → ⊥) → Mid ch tr (x ∷ l) → Mid ch tr l
  over out v =
      record {
        os = v.os;
        rs = v.rs;
        room = v.room;
        open_w = v.open_w;
        open_r = v.open_r;
        due = λ i k o d. v.due i k o (Memᴰ.tail d);
        ready_w = v.ready_w;
        ready_r = v.ready_r;
        done = λ i k o d r g e. ⊎_elim (λ n. ⊎_elim (λ q. absurd (out i k o q r g e)) inl (Memᴰ.cases_cons n)) inr (v.done i k o d r g e);
      }

  module _ (ch : ℕ → ℕ) (tr : List (Tick O R)) (t : Trace c reads tr) where
    -- one read is done
    one : {l : List (Tick O R)} (i k : ℕ) (o : O) → Memᴰ (Asked i k o) tr → ((j : ℕ) (p : O) → Memᴰ (Asked j k p) l → ⊥) → reads o ≡ true → was_given k tr ≡ false → ch k ≡ length tr → Mid ch tr (Asked i k o ∷ l) → Mid ch tr l
    one {l} i k o d new r g e v =
        record {
          os = s.front ++ s.back;
          rs = ready' i k (c.reply o (state_of c tr)) ∷ v.rs;
          room = rw (still o (state_of c tr) r) at (is_done s.front s.back i k o (rw s.is at v.room));
          open_w = λ j n p m w u. s.rest _ (v.open_w j n p m w u) (λ q. true≢false (sym r ∙ ap reads (sym (ap (λ (x : Open O). x.call) q)) ∙ w));
          open_r = λ j n p m w u lt. s.rest _ (v.open_r j n p m w u lt) (λ q. omega (arith, ap ch (ap (λ (x : Open O). x.number) q)));
          due = λ j n p m w u z. s.rest _ (v.due j n p (Memᴰ.tail m) w u z) (λ q. new j p (rw (ap (λ (x : Open O). x.number) q) at m));
          ready_w = λ j n p a m w u. Memᴰ.tail (v.ready_w j n p a m w u);
          ready_r = λ j n p a m b w q lt u. Memᴰ.tail (v.ready_r j n p a m b w q lt u);
          done = λ j n p m w u z. ⊎_elim (λ b. ⊎_elim (λ q. inr (Memᴰ.head (let x : j ≡ i = cc in let y : n ≡ k = cc in let b : p ≡ o = cc in cc))) inl (Memᴰ.cases_cons b)) (λ b. inr (Memᴰ.tail b)) (v.done j n p m w u z);
        }
      where
        s : Split (open' i k o) v.os
        s = split (open' i k o) v.os (v.due i k o (Memᴰ.head refl) r g e)

    doing : {l : List (Tick O R)} → Trace c reads l → ((y : Tick O R) → Memᴰ y l → Memᴰ y tr) → Mid ch tr l → Mid ch tr []
    doing none sub v = v
    doing (asks {tr = l} i k o q new) sub v = doing q (λ y d. sub y (Memᴰ.tail d)) (go (cases_Bool (reads o)) (cases_Bool (was_given k tr)) (cases_eq (ch k) (length tr)))
      where
        unlike : (i' k' : ℕ) (o' : O) → ◌≡◌ {A = Tick O R} (Asked i' k' o') (Asked i k o) → (k' ≡ k) × (o' ≡ o)
        unlike i' k' o' e = (cc, cc)

        go : (reads o ≡ true) ⊎ (reads o ≡ false) → (was_given k tr ≡ true) ⊎ (was_given k tr ≡ false) → (ch k ≡ length tr) ⊎ (ch k ≡ length tr → ⊥) → Mid ch tr l
        go (inr a) b e = over (λ i' k' o' x r g z. true≢false (sym r ∙ ap reads (unlike i' k' o' x).1 ∙ a)) v
        go (inl a) (inl b) e = over (λ i' k' o' x r g z. true≢false (sym b ∙ ap (λ n. was_given n tr) (sym (unlike i' k' o' x).0) ∙ g)) v
        go (inl a) (inr b) (inr e) = over (λ i' k' o' x r g z. e (ap ch (sym (unlike i' k' o' x).0) ∙ z)) v
        go (inl a) (inr b) (inl e) = one i k o (sub (Asked i k o) (Memᴰ.head refl)) new a b e v
    doing (moves {tr = l} i k o q d r m) sub v = doing q (λ y d. sub y (Memᴰ.tail d)) (over (λ i' k' o' x r g z. let b : ◌≡◌ {A = ℕ} 0 1 = cc in omega arith) v)
    doing (once {tr = l} i k o y q g) sub v = doing q (λ y d. sub y (Memᴰ.tail d)) (over (λ i' k' o' x r g z. let b : ◌≡◌ {A = ℕ} 0 1 = cc in omega arith) v)
    doing (gives {tr = l} i k r q g w) sub v = doing q (λ y d. sub y (Memᴰ.tail d)) (over (λ i' k' o' x r g z. let b : ◌≡◌ {A = ℕ} 0 1 = cc in omega arith) v)

    -- all that is due is done
    due' : (n : ℕ) → length tr ≡ suc n → Is ch n tr → Is ch (length tr) tr
    due' n e v = record { os = m.os; rs = m.rs; room = m.room; has = record { open_w = m.open_w; open_r = m.open_r; ready_w = m.ready_w; ready_r = λ i k o a l d r q le g. ready i k o a l d r q le g (cases_lt (length a) (length tr)) } }
      where
        m : Mid ch tr []
        m = doing t (λ y d. d) (record {
          os = v.os;
          rs = v.rs;
          room = v.room;
          open_w = v.has.open_w;
          open_r = λ i k o d r g lt. v.has.open_r i k o d r g (omega arith);
          due = λ i k o d r g q. v.has.open_r i k o d r g (omega arith);
          ready_w = v.has.ready_w;
          ready_r = λ i k o a l d r q lt g. v.has.ready_r i k o a l d r q (omega arith) g;
          done = λ i k o d r g q. inl d;
        })

        ready : (i k : ℕ) (o : O) (a : List (Tick O R)) → Tail a tr → Memᴰ (Asked i k o) a → reads o ≡ true → length a ≡ ch k → length a ≤ length tr → was_given k tr ≡ false → (length a < length tr) ⊎ (length tr ≤ length a) → Memᴰ (ready' i k (c.reply o (state_of c a))) m.rs
        ready i k o a l d r q le g (inl lt) = m.ready_r i k o a l d r q lt g
        ready i k o a l d r q le g (inr ge) = let z = tail_whole l ge in rw z (⊎_elim (λ n. absurd (Memᴰ.not-nil n)) (λ n. n) (m.done i k o (rw z at d) r g (omega arith)))

  pub room_of : {tr : List (Tick O R)} → Trace c reads tr → (ch : ℕ → ℕ) → Is ch (length tr) tr
  room_of none ch =
      record { os = []; rs = []; room = opens; has = record { open_w = λ i k o d. absurd (Memᴰ.not-nil d); open_r = λ i k o d. absurd (Memᴰ.not-nil d); ready_w = λ i k o a l. absurd (no_tail l); ready_r = λ i k o a l d. absurd (Memᴰ.not-nil (rw (tail_whole l (omega arith)) at d)) } }
  room_of (asks {tr = tr} i k o t new) ch = due' ch _ (asks i k o t new) (length tr) refl (ticked (asks i k o t new) (room_of t) ch)
  room_of (moves {tr = tr} i k o t d e m) ch = due' ch _ (moves i k o t d e m) (length tr) refl (ticked (moves i k o t d e m) (room_of t) ch)
  room_of (once {tr = tr} i k o r t q) ch = due' ch _ (once i k o r t q) (length tr) refl (ticked (once i k o r t q) (room_of t) ch)
  room_of (gives {tr = tr} i k r t g w) ch = due' ch _ (gives i k r t g w) (length tr) refl (ticked (gives i k r t g w) (room_of t) ch)
