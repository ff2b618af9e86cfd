-- What is written reads back: hexadecimal digits by induction on the bytes, decimal digits by induction on the number, a frame by its arithmetic.
use Rattle.std.proofs.Common.{◌≡◌, ℕ, ◌+◌, ◌-◌, ◌*◌, ◌/◌, ◌%◌, ◌^◌, ◌<◌, ◌≤◌, List, [], ◌∷◌, ◌++◌, length, Some, Ok, decimal, Option, sym, refl, ap, ◌∙◌, append_assoc, arith}
use Rattle.std.specs.List.{AllByRecursion}
use Rattle.std.proofs.lemmas.Bool.Decides.{nat_tests}
use Rattle.std.proofs.lemmas.Fmt.{decimal_by_steps}
use Rattle.std.proofs.lemmas.List.{append-nil, length-append}
use Rattle.text.specs.Hex.{hex_digit, hex_of, hex_value, unhex_from, byte_before}
use Rattle.text.specs.Decimal.{undecimal_from}
use Rattle.lent_bytes.specs.Numbers.{be4, be8, be32, be64}
use Rattle.lent_bytes.proofs.Rounds.{read_be4, round8}
use Rattle.text.specs.Frame.{framed}
use Rattle.text.specs.ReadsBack.{HexReadsBack, DecimalReadsBack, FrameReadsBack}

pub digit_back : (n : ℕ) → n < 16 → hex_value (hex_digit n) ≡ Some n
digit_back n h = grind (arith, nat_tests)

byte_back : (i b : ℕ) (bs : List ℕ) → b < 256 → byte_before i (hex_value (hex_digit (b / 16))) (hex_value (hex_digit (b % 16))) (Ok bs) ≡ Ok (b ∷ bs)
byte_back i b bs h =
    ap (λ (v : Option ℕ). byte_before i v (hex_value (hex_digit (b % 16))) (Ok bs)) (digit_back (b / 16) (omega arith))
    ∙ (ap (λ (v : Option ℕ). byte_before i (Some (b / 16)) v (Ok bs)) (digit_back (b % 16) (omega arith))
    ∙ ap (λ (n : ℕ). Ok (n ∷ bs)) (let e : 16 * (b / 16) + b % 16 ≡ b = omega arith in e))

hex_back : (i : ℕ) (bs : List ℕ) → AllByRecursion (λ (b : ℕ). b < 256) bs → unhex_from i (hex_of bs) ≡ Ok bs
unfolding hex_of unhex_from
hex_back i [] all = refl
hex_back i (b ∷ bs) all =
    ap (byte_before i (hex_value (hex_digit (b / 16))) (hex_value (hex_digit (b % 16)))) (hex_back (i + 2) bs all.1) ∙ byte_back i b bs all.0

pub hex_reads_back : HexReadsBack
hex_reads_back bs all = hex_back 0 bs all

-- the digits of n, and more behind them: reading goes on from n
abbrev Leads : ℕ → List ℕ → Type 0
Leads n ds = n < 2 ^ 64 → (0 < length ds) × ((i : ℕ) (more : List ℕ) → (j : ℕ) × (undecimal_from i 0 (ds ++ more) ≡ undecimal_from j n more))

next_digit : (i n d : ℕ) (more : List ℕ) → d < 10 → 10 * n + d < 2 ^ 64 → undecimal_from i n ((48 + d) ∷ more) ≡ undecimal_from (i + 1) (10 * n + d) more
unfolding undecimal_from
next_digit i n d more small fits = let e : 48 + d - 48 ≡ d = omega arith in grind (arith, nat_tests)

one_digit : (n : ℕ) → n < 10 → Leads n ((48 + n) ∷ [])
one_digit n small fits = (lit_lt, λ i more. (i + 1, next_digit i 0 n more small (omega arith) ∙ ap (λ (m : ℕ). undecimal_from (i + 1) m more) (let e : 10 * 0 + n ≡ n = omega arith in e)))
  where
    lit_lt : 0 < length ((48 + n) ∷ [])
    lit_lt = omega arith

more_digits : (n : ℕ) (ds : List ℕ) → 10 ≤ n → Leads (n / 10) ds → Leads n (ds ++ ((48 + n % 10) ∷ []))
more_digits n ds big leads fits =
    let front = leads (omega arith) in (
      omega (arith, length-append ds ((48 + n % 10) ∷ [])),
      λ i more.
          let at = front.1 i ((48 + n % 10) ∷ more) in (
            at.0 + 1,
            ap (undecimal_from i 0) (append_assoc ds ((48 + n % 10) ∷ []) more)
                ∙ (at.1
                ∙ (next_digit at.0 (n / 10) (n % 10) more (omega arith) (omega arith)
                ∙ ap (λ (m : ℕ). undecimal_from (at.0 + 1) m more) (let e : 10 * (n / 10) + n % 10 ≡ n = omega arith in e))),
          ),
    )

pub decimal_reads_back : DecimalReadsBack
unfolding undecimal_from
decimal_reads_back n fits =
    let leads = decimal_by_steps Leads one_digit more_digits n fits fits in
    let at = leads.1 0 [] in
    let all = ap (undecimal_from 0 0) (sym (append-nil (decimal n))) ∙ at.1 in
    let some = leads.0 in
    grind (arith, nat_tests)

pub frame_reads_back : FrameReadsBack
unfolding be4 be8 be64
frame_reads_back n call small fits =
    let long : be32 (framed n call) 0 ≡ 8 + length call = read_be4 (8 + length call) (be8 n ++ call) fits in
    let number : be64 (framed n call) 4 ≡ n = round8 n small in
    grind (arith, nat_tests)
