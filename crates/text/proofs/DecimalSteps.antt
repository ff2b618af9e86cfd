-- One digit on, in the reading of a decimal number: what the loop's test finds is what the definition says.
use Rattle.std.proofs.Common.{◌≡◌, ℕ, ◌+◌, ◌-◌, ◌*◌, ◌^◌, ◌<◌, ◌≤◌, cond, ◌&&◌, ltb, leb, List, length, get_or, drop, Ok, Err}
use Rattle.std.proofs.lemmas.List.{at_drop_more, at_drop_all}
use Rattle.text.specs.declared.decimal.DecimalFault.TheVariants.{Digit, Large}
use Rattle.text.specs.Decimal.{undecimal_from}

pub digit_step : (xs : List ℕ) (i n : ℕ) → i < length xs →
    undecimal_from i n (drop i xs)
    ≡ cond (leb 48 (get_or xs i 0) && leb (get_or xs i 0) 57)
    (cond (ltb (10 * n + (get_or xs i 0 - 48)) (2 ^ 64)) (undecimal_from (i + 1) (10 * n + (get_or xs i 0 - 48)) (drop (i + 1) xs)) (Err Large))
    (Err (Digit i))
unfolding undecimal_from
digit_step xs i n h = at_drop_more (undecimal_from i n) xs i 0 h

pub digits_end : (xs : List ℕ) (i n : ℕ) → length xs ≤ i → undecimal_from i n (drop i xs) ≡ Ok n
unfolding undecimal_from
digits_end xs i n h = at_drop_all (undecimal_from i n) xs i h
