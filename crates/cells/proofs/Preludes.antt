-- What stands before the entries: with other counts it has the same sessions. Assumes nothing.
use Rattle.std.proofs.Common.{◌≡◌, ℕ, zero, suc, ◌+◌, ◌<◌, ◌≤◌, List, [], ◌∷◌, ◌++◌, length, get_or, drop, sym, refl, ap, ◌∙◌, append_assoc, arith, length-append, length-drop}
use Rattle.std.proofs.lemmas.List.{get_or-append-add, get_or-drop, length-take-le}
use Rattle.model.specs.Tree.{Entry}
use Rattle.lent_bytes.specs.Numbers.{be32, be64, be8}
use Rattle.lent_bytes.proofs.Places.{be32_same, be64_same, be32_take}
use Rattle.lent_bytes.proofs.Rounds.{read_be8, length_be8}
use Rattle.cells.specs.Layout.{numbers_at, sessions_in, prelude_of, prelude_with, begins_at, state_from, Holds}

-- numbers at places at which bytes agree
pub numbers_same : (k : ℕ) (xs ys : List ℕ) (i j : ℕ) → ((m : ℕ) → get_or xs (i + m) 0 ≡ get_or ys (j + m) 0) → numbers_at k xs i ≡ numbers_at k ys j
unfolding numbers_at
numbers_same zero xs ys i j h = refl
numbers_same (suc k) xs ys i j h =
    let one = be64_same xs ys i j (λ m l. h m) in
    let more = numbers_same k xs ys (i + 8) (j + 8) (λ m. ap (λ n. get_or xs n 0) (omega arith) ∙ h (8 + m) ∙ ap (λ n. get_or ys n 0) (omega arith)) in
    λ n. one n ∷ more n

pub length_numbers : (k : ℕ) (bs : List ℕ) (i : ℕ) → length (numbers_at k bs i) ≡ k
unfolding numbers_at
length_numbers zero bs i = refl
length_numbers (suc k) bs i = ap suc (length_numbers k bs (i + 8))

-- one number, and those behind it
pub numbers_step : (n m : ℕ) (bs : List ℕ) (i j : ℕ) → n ≡ suc m → j ≡ i + 8 → numbers_at n bs i ≡ be64 bs i ∷ numbers_at m bs j
unfolding numbers_at
numbers_step n m bs i j e f = ap (λ (k : ℕ). numbers_at k bs i) e ∙ ap (λ (k : ℕ). be64 bs i ∷ numbers_at m bs k) (sym f)

pub numbers_none : (n : ℕ) (bs : List ℕ) (i : ℕ) → n ≡ 0 → numbers_at n bs i ≡ []
unfolding numbers_at
numbers_none n bs i e = ap (λ (k : ℕ). numbers_at k bs i) e

module _ (c t : ℕ) (pre : List ℕ) where
  get_or_with : (k : ℕ) → get_or (prelude_with c t pre) (16 + k) 0 ≡ get_or pre (16 + k) 0
  unfolding be8
  get_or_with k =
      let split : 16 + k ≡ 8 + (8 + k) = omega arith in
      ap (λ n. get_or (prelude_with c t pre) n 0) split ∙ get_or-append-add (be8 c) (be8 t ++ drop 16 pre) (8 + k) 0 ∙ get_or-append-add (be8 t) (drop 16 pre) k 0 ∙ get_or-drop 16 pre k 0

  sessions_count : be32 (prelude_with c t pre) 24 ≡ be32 pre 24
  sessions_count = be32_same (prelude_with c t pre) pre 24 24 (λ k l. ap (λ n. get_or (prelude_with c t pre) n 0) (omega arith) ∙ get_or_with (8 + k) ∙ ap (λ n. get_or pre n 0) (omega arith))

  sessions_with : sessions_in (prelude_with c t pre) ≡ sessions_in pre
  sessions_with =
      ap (λ (k : ℕ). numbers_at k (prelude_with c t pre) 28) sessions_count ∙
      numbers_same (be32 pre 24) (prelude_with c t pre) pre 28 28 (λ m. ap (λ n. get_or (prelude_with c t pre) n 0) (omega arith) ∙ get_or_with (12 + m) ∙ ap (λ n. get_or pre n 0) (omega arith))

  last_with : be64 (prelude_with c t pre) 16 ≡ be64 pre 16
  last_with = be64_same (prelude_with c t pre) pre 16 16 (λ k l. get_or_with k)

  pub length_with : 16 ≤ length pre → length (prelude_with c t pre) ≡ length pre
  length_with h = omega (arith, length-append (be8 c) (be8 t ++ drop 16 pre), length-append (be8 t) (drop 16 pre), length-drop 16 pre, length_be8 c, length_be8 t)

  pub begins_with : length pre ≡ begins_at pre → length (prelude_with c t pre) ≡ begins_at (prelude_with c t pre)
  begins_with e = omega (arith, e, length_with (omega arith), sessions_count)

  -- the state with those counts
  pub state_with : (es : List Entry) → c < 18446744073709551616 → t < 18446744073709551616 →
      state_from (prelude_with c t pre) es ≡ record { changes = c; top = t; entries = es; sessions = sessions_in pre; last_session = be64 pre 16 }
  state_with es lc lt =
      let one = read_be8 c (be8 t ++ drop 16 pre) lc in
      let two : be64 (prelude_with c t pre) 8 ≡ t = be64_same (prelude_with c t pre) (be8 t ++ drop 16 pre) 8 0 (λ k l. ap (λ n. get_or (prelude_with c t pre) n 0) (ap (λ n. n + k) (sym (length_be8 c))) ∙ get_or-append-add (be8 c) (be8 t ++ drop 16 pre) k 0 ∙ ap (λ n. get_or (be8 t ++ drop 16 pre) n 0) (omega arith)) ∙ read_be8 t (drop 16 pre) lt in
      λ i. record { changes = one i; top = two i; entries = es; sessions = sessions_with i; last_session = last_with i }

-- the part before the entries is as long as it says
pub prelude_long : (mem ps : List ℕ) → Holds mem ps → length (prelude_of mem ps) ≡ begins_at (prelude_of mem ps)
prelude_long mem ps h =
    let inside = h.within 0 h.some in
    omega (arith, length-take-le (get_or ps 0 0) mem inside, h.begins, be32_take (get_or ps 0 0) mem 24 (omega (arith, h.begins)))

-- as it is written: a count, another, the rest
pub prelude_written : (c t : ℕ) (pre rest : List ℕ) → rest ≡ drop 16 pre → (be8 c ++ be8 t) ++ rest ≡ prelude_with c t pre
prelude_written c t pre rest e = append_assoc (be8 c) (be8 t) rest ∙ ap (λ (l : List ℕ). be8 c ++ (be8 t ++ l)) e
