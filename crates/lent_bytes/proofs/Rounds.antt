-- Numbers that are written are read again as they were. Assumes nothing.
use Rattle.std.proofs.Common.{◌≡◌, ℕ, ◌+◌, ◌*◌, ◌/◌, ◌%◌, ◌<◌, List, ◌++◌, length, refl, mod-eq_of_lt, div-add-mod', arith}
use Rattle.lent_bytes.specs.Numbers.{be32, be64, be4, be8}
use native.Mathlib.Nat.{div-div-eq-div-mul}
use Rattle.std.proofs.lemmas.Nat.{div_below}

pub round4 : (n : ℕ) → n < 4294967296 → n / 16777216 % 256 * 16777216 + n / 65536 % 256 * 65536 + n / 256 % 256 * 256 + n % 256 ≡ n
round4 n h =
    let d1 = div-div-eq-div-mul n 256 256 in
    let d2 = div-div-eq-div-mul n 65536 256 in
    let e0 = div-add-mod' n 256 in
    let e1 = div-add-mod' (n / 256) 256 in
    let e2 = div-add-mod' (n / 65536) 256 in
    let top : n / 16777216 % 256 ≡ n / 16777216 = mod-eq_of_lt (div_below n 16777216 256 (omega arith) (omega arith)) in
    omega arith

pub round8 : (n : ℕ) → n < 18446744073709551616 → n / 72057594037927936 % 256 * 72057594037927936 + n / 281474976710656 % 256 * 281474976710656 + n / 1099511627776 % 256 * 1099511627776 + n / 4294967296 % 256 * 4294967296 + n / 16777216 % 256 * 16777216 + n / 65536 % 256 * 65536 + n / 256 % 256 * 256 + n % 256 ≡ n
round8 n h =
    let d1 = div-div-eq-div-mul n 256 256 in
    let d2 = div-div-eq-div-mul n 65536 256 in
    let d3 = div-div-eq-div-mul n 16777216 256 in
    let d4 = div-div-eq-div-mul n 4294967296 256 in
    let d5 = div-div-eq-div-mul n 1099511627776 256 in
    let d6 = div-div-eq-div-mul n 281474976710656 256 in
    let e0 = div-add-mod' n 256 in
    let e1 = div-add-mod' (n / 256) 256 in
    let e2 = div-add-mod' (n / 65536) 256 in
    let e3 = div-add-mod' (n / 16777216) 256 in
    let e4 = div-add-mod' (n / 4294967296) 256 in
    let e5 = div-add-mod' (n / 1099511627776) 256 in
    let e6 = div-add-mod' (n / 281474976710656) 256 in
    let top : n / 72057594037927936 % 256 ≡ n / 72057594037927936 = mod-eq_of_lt (div_below n 72057594037927936 256 (omega arith) (omega arith)) in
    omega arith

-- what is written is read again
pub read_be4 : (n : ℕ) (rest : List ℕ) → n < 4294967296 → be32 (be4 n ++ rest) 0 ≡ n
unfolding be4 be32
read_be4 n rest h = round4 n h

pub read_be8 : (n : ℕ) (rest : List ℕ) → n < 18446744073709551616 → be64 (be8 n ++ rest) 0 ≡ n
unfolding be8 be64
read_be8 n rest h = round8 n h

pub length_be4 : (n : ℕ) → length (be4 n) ≡ 4
unfolding be4
length_be4 n = refl

pub length_be8 : (n : ℕ) → length (be8 n) ≡ 8
unfolding be8
length_be8 n = refl
