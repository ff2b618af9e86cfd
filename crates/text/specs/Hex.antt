-- Bytes as hexadecimal digits: lower case is written, both cases are read.
use Rattle.std.specs.Prelude.{◌≡◌, ℕ, ◌+◌, ◌-◌, ◌*◌, ◌/◌, ◌%◌, cond, ◌&&◌, List, [], ◌∷◌, ◌++◌, Some, None, Ok, Err, vec_items, Option, Result, Vec, nat_le, nat_lt}
use Rattle.std.specs.declared.alloc.Global.{Global}
use Rattle.text.specs.declared.hex.HexFault.{HexFault}
use Rattle.text.specs.declared.hex.HexFault.TheVariants.{Odd, Digit, Memory}

abbrev pub hex_digit : ℕ → ℕ
hex_digit n = cond (nat_lt n 10) (48 + n) (87 + n)

unfoldable pub hex_of : List ℕ → List ℕ
hex_of [] = []
hex_of (b ∷ bs) = hex_digit (b / 16) ∷ (hex_digit (b % 16) ∷ hex_of bs)

abbrev pub hex_value : ℕ → Option ℕ
hex_value c = cond (nat_le 48 c && nat_le c 57) (Some (c - 48)) (cond (nat_le 97 c && nat_le c 102) (Some (c - 87)) (cond (nat_le 65 c && nat_le c 70) (Some (c - 55)) None))

-- the byte of two digits, or the place of the first that is none
abbrev pub byte_of : (place : ℕ) → (high low : Option ℕ) → Result ℕ HexFault
byte_of i None low = Err (Digit i)
byte_of i (Some h) None = Err (Digit (i + 1))
byte_of i (Some h) (Some l) = Ok (16 * h + l)

-- the byte of two digits before the bytes behind it, or the place of the first that is no digit
abbrev pub byte_before : (place : ℕ) → (high low : Option ℕ) → Result (List ℕ) HexFault → Result (List ℕ) HexFault
byte_before i None low rest = Err (Digit i)
byte_before i (Some h) None rest = Err (Digit (i + 1))
byte_before i (Some h) (Some l) (Ok bs) = Ok ((16 * h + l) ∷ bs)
byte_before i (Some h) (Some l) (Err e) = Err e

abbrev pub bytes_before : List ℕ → Result (List ℕ) HexFault → Result (List ℕ) HexFault
bytes_before xs (Ok bs) = Ok (xs ++ bs)
bytes_before xs (Err e) = Err e

-- from a place on: the bytes, or the first fault from the left; a last digit that stands alone is one
unfoldable pub unhex_from : ℕ → List ℕ → Result (List ℕ) HexFault
unhex_from i [] = Ok []
unhex_from i (a ∷ []) = Err (Odd i)
unhex_from i (a ∷ b ∷ xs) = byte_before i (hex_value a) (hex_value b) (unhex_from (i + 2) xs)

abbrev pub unhex : List ℕ → Result (List ℕ) HexFault
unhex xs = unhex_from 0 xs

-- what the reader answers, against what the text says; only memory can be wanting besides
abbrev pub Unhexed : Result (Vec ℕ Global) HexFault → Result (List ℕ) HexFault → Type 0
Unhexed (Ok v) said = said ≡ Ok (vec_items v)
Unhexed (Err (Odd i)) said = said ≡ Err (Odd i)
Unhexed (Err (Digit i)) said = said ≡ Err (Digit i)
Unhexed (Err Memory) said = Unit {0}
