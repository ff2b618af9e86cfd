-- The sessions of a tree with one more behind those that were open. Assumes nothing.
use Rattle.std.proofs.Common.{◌≡◌, ℕ, zero, suc, ◌+◌, ◌*◌, ◌<◌, ◌≤◌, leb, List, [], ◌∷◌, ◌++◌, length, get_or, drop, sym, refl, ap, ◌∙◌, append-nil, arith, length-append, length-drop}
use Rattle.std.proofs.lemmas.List.{get_or-append-add, get_or-drop, length-take-le}
use Rattle.std.proofs.lemmas.Bool.{cond-true, cond-false, le-leb, lt-leb}
use Rattle.model.specs.Tree.{Entry, State, Out, No, Session, Open, does}
use Rattle.lent_bytes.specs.Numbers.{be32, be64, be4, be8}
use Rattle.lent_bytes.proofs.Places.{be32_take, be64_same, be64_front}
use Rattle.lent_bytes.proofs.Rounds.{round4, round8, read_be8}
use Rattle.cells.specs.Layout.{numbers_at, sessions_in, state_from, state_of, prelude_of, begins_at, Holds}
use Rattle.cells.proofs.Preludes.{numbers_same, length_numbers}
use Rattle.sessions.specs.Opening.{opened}

-- one number more behind the others
numbers_push : (j : ℕ) (others : List ℕ) (i x : ℕ) → length others ≡ i + 8 * j → x < 18446744073709551616 → numbers_at (suc j) (others ++ be8 x) i ≡ numbers_at j others i ++ (x ∷ [])
unfolding numbers_at
numbers_push zero others i x e l =
    let at : i ≡ length others = omega arith in
    let own = be64_same (others ++ be8 x) (be8 x ++ []) i 0 (λ k m. ap (λ (n : ℕ). get_or (others ++ be8 x) (n + k) 0) at ∙ get_or-append-add others (be8 x) k 0 ∙ ends x k) ∙ read_be8 x [] l in
    ap (λ (n : ℕ). n ∷ []) own
  where
    ends : (x k : ℕ) → get_or (be8 x) k 0 ≡ get_or (be8 x ++ []) (0 + k) 0
    ends x k = let z : 0 + k ≡ k = omega arith in rw z (ap (λ (l : List ℕ). get_or l k 0) (sym (append-nil (be8 x))))
numbers_push (suc j) others i x e l =
    let one = be64_front others (be8 x) i (omega arith) in
    let more = numbers_push j others (i + 8) x (omega arith) l in
    λ n. one n ∷ more n

module _ (c t x k : ℕ) (others : List ℕ) (lc : c < 18446744073709551616) (lt : t < 18446744073709551616) (lx : x < 18446744073709551616) (lk : k < 4294967296) where
  count_is : be32 (opened c t x k others) 24 ≡ k
  unfolding be4 be8 be32
  count_is = round4 k lk

  rest_is : drop 28 (opened c t x k others) ≡ others ++ be8 x
  unfolding be4 be8
  rest_is = refl

  long_is : length (opened c t x k others) ≡ 28 + (length others + 8)
  unfolding be4 be8
  long_is = length-append ((((be8 c ++ be8 t) ++ be8 x) ++ be4 k) ++ others) (be8 x) ∙ omega (arith, length-append (((be8 c ++ be8 t) ++ be8 x) ++ be4 k) others)

  pub opened_begins : length others + 8 ≡ 8 * k → length (opened c t x k others) ≡ begins_at (opened c t x k others)
  opened_begins e = omega (arith, long_is, count_is)

  pub opened_long : length (opened c t x k others) ≡ 28 + (length others + 8)
  opened_long = long_is

  pub opened_sessions : (j : ℕ) → k ≡ suc j → length others ≡ 8 * j → sessions_in (opened c t x k others) ≡ numbers_at j others 0 ++ (x ∷ [])
  opened_sessions j e l =
      let p = opened c t x k others in
      ap (λ (n : ℕ). numbers_at n p 28) (count_is ∙ e) ∙ numbers_same (suc j) p (others ++ be8 x) 28 0 (λ m. sym (get_or-drop 28 p m 0) ∙ (λ i. get_or (rest_is i) m 0) ∙ ap (λ (n : ℕ). get_or (others ++ be8 x) n 0) (omega arith)) ∙
      numbers_push j others 0 x (omega arith) lx

  pub opened_state : (es : List Entry) (ss : List ℕ) → sessions_in (opened c t x k others) ≡ ss → state_from (opened c t x k others) es ≡ record { changes = c; top = t; entries = es; sessions = ss; last_session = x }
  unfolding be4 be8 be64
  opened_state es ss is =
      let one = round8 c lc in
      let two = round8 t lt in
      let three = round8 x lx in
      λ i. record { changes = one i; top = two i; entries = es; sessions = is i; last_session = three i }

module _ (room : ℕ) (s : State) where
  pub open_full : 4096 ≤ length s.sessions → ◌≡◌ {A = Out} (record { reply = No 0 8; state = s }) (does room Open s)
  unfolding does
  open_full h = sym (cond-true (leb 4096 (length s.sessions)) _ _ (le-leb 4096 (length s.sessions) h))

  pub open_is : length s.sessions < 4096 →
      ◌≡◌ {A = Out} (record { reply = Session (s.last_session + 1); state = record { changes = s.changes + 1; top = s.top; entries = s.entries; sessions = s.sessions ++ ((s.last_session + 1) ∷ []); last_session = s.last_session + 1 } }) (does room Open s)
  unfolding does
  open_is h = sym (cond-false (leb 4096 (length s.sessions)) _ _ (lt-leb 4096 (length s.sessions) h))

-- where entries begin, by the number of sessions
pub begins_count : (mem ps : List ℕ) → Holds mem ps → get_or ps 0 0 ≡ 28 + 8 * length (state_of mem ps).sessions
begins_count mem ps h =
    let first = h.begins in
    omega (arith, length_numbers (be32 (prelude_of mem ps) 24) (prelude_of mem ps) 28, be32_take (get_or ps 0 0) mem 24 (omega arith))

pub others_long : (mem ps : List ℕ) → Holds mem ps → length (drop 28 (prelude_of mem ps)) ≡ 8 * length (state_of mem ps).sessions
others_long mem ps h = omega (arith, length-drop 28 (prelude_of mem ps), length-take-le (get_or ps 0 0) mem (h.within 0 h.some), begins_count mem ps h)

-- the sessions that were open, read behind the first 28 bytes
pub others_are : (mem ps : List ℕ) → Holds mem ps → numbers_at (length (state_of mem ps).sessions) (drop 28 (prelude_of mem ps)) 0 ≡ (state_of mem ps).sessions
others_are mem ps h =
    let pre = prelude_of mem ps in
    ap (λ (k : ℕ). numbers_at k (drop 28 pre) 0) (length_numbers (be32 pre 24) pre 28) ∙ numbers_same (be32 pre 24) (drop 28 pre) pre 0 28 (λ m. get_or-drop 28 pre (0 + m) 0 ∙ ap (λ (n : ℕ). get_or pre n 0) (omega arith))
