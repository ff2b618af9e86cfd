-- One byte on, in the writing and the reading of hexadecimal digits.
use Rattle.std.proofs.Common.{◌≡◌, ℕ, zero, suc, ◌+◌, ◌*◌, ◌/◌, ◌%◌, ◌<◌, ◌≤◌, List, [], ◌∷◌, ◌++◌, length, get_or, take, drop, Some, None, Ok, Err, Option, Result, sym, refl, ap, ◌∙◌, append_assoc, arith}
use Rattle.std.specs.Simd.{first_chunks}
use Rattle.std.proofs.lemmas.List.{take_more, length-drop, get_or-take, drop-drop}
use Rattle.text.specs.declared.hex.HexFault.{HexFault}
use Rattle.text.specs.declared.hex.HexFault.TheVariants.{Odd, Digit, Memory}
use Rattle.text.specs.Hex.{hex_digit, hex_of, hex_value, unhex_from, byte_of, byte_before, bytes_before, Unhexed}

pub hex_of_push : (xs : List ℕ) (b : ℕ) → hex_of (xs ++ (b ∷ [])) ≡ hex_of xs ++ (hex_digit (b / 16) ∷ (hex_digit (b % 16) ∷ []))
unfolding hex_of
hex_of_push [] b = refl
hex_of_push (x ∷ xs) b = ap (λ (ys : List ℕ). hex_digit (x / 16) ∷ (hex_digit (x % 16) ∷ ys)) (hex_of_push xs b)

-- the loop's step, behind what was there before it
pub hex_of_more : (front xs : List ℕ) (i : ℕ) → i < length xs →
    (front ++ hex_of (take i xs)) ++ (hex_digit (get_or xs i 0 / 16) ∷ (hex_digit (get_or xs i 0 % 16) ∷ [])) ≡ front ++ hex_of (take (i + 1) xs)
hex_of_more front xs i h =
    append_assoc front (hex_of (take i xs)) _
    ∙ ap (λ (ys : List ℕ). front ++ ys) (sym (hex_of_push (take i xs) (get_or xs i 0)) ∙ ap hex_of (sym (take_more xs i 0 h)))

pair_step : (j : ℕ) (rest : List ℕ) → 2 ≤ length rest →
    unhex_from j rest ≡ byte_before j (hex_value (get_or rest 0 0)) (hex_value (get_or rest 1 0)) (unhex_from (j + 2) (drop 2 rest))
unfolding unhex_from
pair_step j [] h = absurd (omega arith)
pair_step j (a ∷ []) h = absurd (omega arith)
pair_step j (a ∷ b ∷ xs) h = refl

pub unhex_end : (j : ℕ) (rest : List ℕ) → length rest ≡ 0 → unhex_from j rest ≡ Ok []
unfolding unhex_from
unhex_end j [] h = refl
unhex_end j (a ∷ xs) h = absurd (omega arith)

pub unhex_lone : (j : ℕ) (rest : List ℕ) → length rest ≡ 1 → unhex_from j rest ≡ Err (Odd j)
unfolding unhex_from
unhex_lone j [] h = absurd (omega arith)
unhex_lone j (a ∷ []) h = refl
unhex_lone j (a ∷ b ∷ xs) h = absurd (omega arith)

-- a byte that is read stands behind the others; a fault is that of the whole
more_of : (front : List ℕ) (j b : ℕ) (high low : Option ℕ) (behind : Result (List ℕ) HexFault) → Ok b ≡ byte_of j high low →
    bytes_before front (byte_before j high low behind) ≡ bytes_before (front ++ (b ∷ [])) behind
more_of front j b None low behind e = cc
more_of front j b (Some h) None behind e = cc
more_of front j b (Some h) (Some l) (Ok bs) e = ap Ok (ap (λ (n : ℕ). front ++ (n ∷ bs)) (let same : 16 * h + l ≡ b = cc in same) ∙ sym (append_assoc front (b ∷ []) bs))
more_of front j b (Some h) (Some l) (Err f) e = refl

fault_of : (front : List ℕ) (j : ℕ) (f : HexFault) (high low : Option ℕ) (behind : Result (List ℕ) HexFault) → Err f ≡ byte_of j high low →
    bytes_before front (byte_before j high low behind) ≡ Err f
fault_of front j f None low behind e = cc
fault_of front j f (Some h) None behind e = cc
fault_of front j f (Some h) (Some l) behind e = cc

module _ (front : List ℕ) (j : ℕ) (rest : List ℕ) (two : 2 ≤ length rest) where
  byte_more : (b : ℕ) → Ok b ≡ byte_of j (hex_value (get_or rest 0 0)) (hex_value (get_or rest 1 0)) →
      bytes_before front (unhex_from j rest) ≡ bytes_before (front ++ (b ∷ [])) (unhex_from (j + 2) (drop 2 rest))
  byte_more b e = ap (bytes_before front) (pair_step j rest two) ∙ more_of front j b _ _ _ e

  pub byte_fault : (f : HexFault) → Err f ≡ byte_of j (hex_value (get_or rest 0 0)) (hex_value (get_or rest 1 0)) → bytes_before front (unhex_from j rest) ≡ Err f
  byte_fault f e = ap (bytes_before front) (pair_step j rest two) ∙ fault_of front j f _ _ _ e

-- the i-th pair of a text that is cut in pairs
pair_of : (k i : ℕ) (xs : List ℕ) → i < k → get_or (first_chunks 2 k xs) i [] ≡ take 2 (drop (2 * i) xs)
pair_of zero i xs h = absurd (omega arith)
pair_of (suc k) zero xs h = refl
pair_of (suc k) (suc i) xs h =
    pair_of k i (drop 2 xs) (omega arith) ∙ ap (take 2) (drop-drop (2 * i) 2 xs ∙ ap (λ (n : ℕ). drop n xs) (let more : 2 + 2 * i ≡ 2 * suc i = omega arith in more))

module _ (text : List ℕ) (pairs : List (List ℕ)) (cut : pairs ≡ first_chunks 2 (length text / 2) text) (many : length pairs ≡ length text / 2) (i : ℕ) (before : i < length pairs) where
  digit_of : (j : ℕ) → j < 2 → get_or (get_or pairs i []) j 0 ≡ get_or (drop (2 * i) text) j 0
  digit_of j h =
      ap (λ (ps : List (List ℕ)). get_or (get_or ps i []) j 0) cut
      ∙ (ap (λ (p : List ℕ). get_or p j 0) (pair_of (length text / 2) i text (omega arith)) ∙ get_or-take 2 (drop (2 * i) text) j 0 h)

  read_at : (r : Result ℕ HexFault) → r ≡ byte_of (2 * i) (hex_value (get_or (get_or pairs i []) 0 0)) (hex_value (get_or (get_or pairs i []) 1 0)) →
      r ≡ byte_of (2 * i) (hex_value (get_or (drop (2 * i) text) 0 0)) (hex_value (get_or (drop (2 * i) text) 1 0))
  read_at r e = let high = digit_of 0 (omega arith) in let low = digit_of 1 (omega arith) in cc

  two : 2 ≤ length (drop (2 * i) text)
  two = omega (arith, length-drop (2 * i) text)

  pub pair_fault : (front : List ℕ) (f : HexFault) → Err f ≡ byte_of (2 * i) (hex_value (get_or (get_or pairs i []) 0 0)) (hex_value (get_or (get_or pairs i []) 1 0)) →
      bytes_before front (unhex_from (2 * i) (drop (2 * i) text)) ≡ Err f
  pair_fault front f e = byte_fault front (2 * i) (drop (2 * i) text) two f (read_at (Err f) e)

  pub pair_next : (said : Result (List ℕ) HexFault) (front items : List ℕ) (b : ℕ) → said ≡ bytes_before front (unhex_from (2 * i) (drop (2 * i) text)) →
      Ok b ≡ byte_of (2 * i) (hex_value (get_or (get_or pairs i []) 0 0)) (hex_value (get_or (get_or pairs i []) 1 0)) →
      items ≡ front ++ (b ∷ []) →
      said ≡ bytes_before items (unhex_from (2 * (i + 1)) (drop (2 * (i + 1)) text))
  pair_next said front items b s e p =
      let on : 2 * i + 2 ≡ 2 * (i + 1) = omega arith in
      s
      ∙ (byte_more front (2 * i) (drop (2 * i) text) two b (read_at (Ok b) e)
      ∙ (ap (λ (ys : List ℕ). bytes_before (front ++ (b ∷ [])) (unhex_from (2 * i + 2) ys)) (drop-drop 2 (2 * i) text)
      ∙ (ap (λ (n : ℕ). bytes_before (front ++ (b ∷ [])) (unhex_from n (drop n text))) on ∙ ap (λ (xs : List ℕ). bytes_before xs (unhex_from (2 * (i + 1)) (drop (2 * (i + 1)) text))) (sym p))))

pub unhexed_fault : (f : HexFault) (said : Result (List ℕ) HexFault) → said ≡ Err f → Unhexed (Err f) said
unhexed_fault (Odd i) said e = e
unhexed_fault (Digit i) said e = e
unhexed_fault Memory said e = tt
