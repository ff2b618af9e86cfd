-- Numbers of 64 bits as decimal digits, with no sign.
use Rattle.std.specs.Prelude.{ℕ, ◌+◌, ◌-◌, ◌*◌, ◌^◌, cond, ◌&&◌, List, [], ◌∷◌, length, Ok, Err, Result, ◌==◌, nat_le, nat_lt}
use Rattle.text.specs.declared.decimal.DecimalFault.{DecimalFault}
use Rattle.text.specs.declared.decimal.DecimalFault.TheVariants.{Empty, Digit, Large}

-- from a place on, behind digits that write n
unfoldable pub undecimal_from : (place n : ℕ) → List ℕ → Result ℕ DecimalFault
undecimal_from i n [] = Ok n
undecimal_from i n (c ∷ cs) =
    cond (nat_le 48 c && nat_le c 57) (cond (nat_lt (10 * n + (c - 48)) (2 ^ 64)) (undecimal_from (i + 1) (10 * n + (c - 48)) cs) (Err Large)) (Err (Digit i))

abbrev pub undecimal : List ℕ → Result ℕ DecimalFault
undecimal xs = cond (length xs == 0) (Err Empty) (undecimal_from 0 0 xs)
