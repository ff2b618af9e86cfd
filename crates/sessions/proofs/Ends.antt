-- The tree without a session. Assumes nothing.
use Rattle.std.proofs.Common.{◌≡◌, ℕ, ◌+◌, ◌*◌, ◌<◌, ◌≤◌, true, false, not, eqb, ltb, List, [], ◌∷◌, ◌++◌, length, get_or, drop, sym, refl, ap, ◌∙◌, arith, length-append}
use Rattle.std.specs.List.{AllByRecursion}
use Rattle.std.proofs.ByRecursion.{All-weaker}
use Rattle.std.proofs.lemmas.List.{get_or-drop}
use Rattle.std.proofs.lemmas.Bool.{cond-true, cond-false, cond_both, and_parts, ltb-true, leb-true}
use Rattle.model.specs.Tree.{Entry, State, Out, No, Done, End, does, keep, some}
use Rattle.lent_bytes.specs.Numbers.{be32, be64, be4, be8}
use Rattle.lent_bytes.proofs.Rounds.{round4, round8}
use Rattle.cells.specs.Layout.{numbers_at, sessions_in, state_from, begins_at}
use Rattle.cells.specs.Fits.{rising}
use Rattle.cells.proofs.Preludes.{numbers_same}
use Rattle.sessions.specs.Ending.{ended, others, numbers_bytes}
use Rattle.sessions.proofs.Others.{numbers_written, length_bytes}

-- numbers that rise are at most the last
rising_low : (low : ℕ) (xs : List ℕ) (last : ℕ) → rising low xs last ≡ true → (low ≤ last) × AllByRecursion (λ x. x ≤ last) xs
unfolding rising
rising_low low [] last h = (leb-true low last h, tt)
rising_low low (x ∷ xs) last h =
    let both = and_parts (ltb low x) (rising x xs last) h in
    let more = rising_low x xs last both.1 in
    (omega (arith, ltb-true low x both.0, more.0), (more.0, more.1))

all_others : (k : ℕ) (P : ℕ → Type 0) (xs : List ℕ) → AllByRecursion P xs → AllByRecursion P (others k xs)
unfolding keep
all_others k P [] h = tt
all_others k P (x ∷ xs) h = cond_both (not (eqb k x)) (x ∷ others k xs) (others k xs) (AllByRecursion P) (λ _. (h.0, all_others k P xs h.1)) (λ _. all_others k P xs h.1)

pub others_low : (k : ℕ) (xs : List ℕ) (last : ℕ) → rising 0 xs last ≡ true → last < 18446744073709551616 → AllByRecursion (λ x. x < 18446744073709551616) (others k xs)
others_low k xs last h l = all_others k (λ x. x < 18446744073709551616) xs (All-weaker (λ x. x ≤ last) (λ x. x < 18446744073709551616) (λ x m. omega arith) xs (rising_low 0 xs last h).1)

module _ (c t x : ℕ) (ys : List ℕ) (lc : c < 18446744073709551616) (lt : t < 18446744073709551616) (lx : x < 18446744073709551616) (lk : length ys < 4294967296) where
  count_is : be32 (ended c t x ys) 24 ≡ length ys
  unfolding be4 be8 be32
  count_is = round4 (length ys) lk

  rest_is : drop 28 (ended c t x ys) ≡ numbers_bytes ys
  unfolding be4 be8
  rest_is = refl

  pub ended_long : length (ended c t x ys) ≡ 28 + 8 * length ys
  unfolding be4 be8
  ended_long = length-append (((be8 c ++ be8 t) ++ be8 x) ++ be4 (length ys)) (numbers_bytes ys) ∙ omega (arith, length_bytes ys)

  pub ended_begins : length (ended c t x ys) ≡ begins_at (ended c t x ys)
  ended_begins = omega (arith, ended_long, count_is)

  sessions_are : AllByRecursion (λ n. n < 18446744073709551616) ys → sessions_in (ended c t x ys) ≡ ys
  sessions_are all =
      let p = ended c t x ys in
      ap (λ (n : ℕ). numbers_at n p 28) count_is ∙ numbers_same (length ys) p (numbers_bytes ys) 28 0 (λ m. sym (get_or-drop 28 p m 0) ∙ (λ i. get_or (rest_is i) m 0) ∙ ap (λ (n : ℕ). get_or (numbers_bytes ys) n 0) (omega arith)) ∙ numbers_written ys all

  pub ended_state : (es : List Entry) → AllByRecursion (λ n. n < 18446744073709551616) ys → state_from (ended c t x ys) es ≡ record { changes = c; top = t; entries = es; sessions = ys; last_session = x }
  unfolding be4 be8 be64
  ended_state es all =
      let one = round8 c lc in
      let two = round8 t lt in
      let three = round8 x lx in
      let four = sessions_are all in
      λ i. record { changes = one i; top = two i; entries = es; sessions = four i; last_session = three i }

module _ (room k : ℕ) (s : State) where
  pub end_not_open : some (eqb k) s.sessions ≡ false → ◌≡◌ {A = Out} (record { reply = No 0 6; state = s }) (does room (End k) s)
  unfolding does
  end_not_open h = sym (cond-false (some (eqb k) s.sessions) _ _ h)

  pub end_is : some (eqb k) s.sessions ≡ true →
      ◌≡◌ {A = Out} (record { reply = Done []; state = record { changes = s.changes + 1; top = s.top; entries = keep (λ (e : Entry). not (eqb k e.owner)) s.entries; sessions = others k s.sessions; last_session = s.last_session } }) (does room (End k) s)
  unfolding does
  end_is h = sym (cond-true (some (eqb k) s.sessions) _ _ h)
