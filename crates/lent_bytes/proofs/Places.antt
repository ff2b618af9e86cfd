-- A number at a place is that of the part that has the place. Assumes nothing.
use Rattle.std.proofs.Common.{◌≡◌, ℕ, ◌+◌, ◌<◌, ◌≤◌, List, ◌++◌, length, get_or, take, drop, ap, ◌∙◌, add-zero, arith}
use Rattle.std.proofs.lemmas.List.{get_or-take, get_or-drop, get_or_append_left}
use Rattle.lent_bytes.specs.Numbers.{be32, be64}

-- lists that agree at the places of a number have the same number
pub be32_same : (xs ys : List ℕ) (i j : ℕ) → ((k : ℕ) → k < 4 → get_or xs (i + k) 0 ≡ get_or ys (j + k) 0) → be32 xs i ≡ be32 ys j
unfolding be32
be32_same xs ys i j h =
    let a : get_or xs i 0 ≡ get_or ys j 0 = simp add-zero at (h 0 (omega arith)) in
    let b = h 1 (omega arith) in
    let c = h 2 (omega arith) in
    let d = h 3 (omega arith) in
    cc

pub be64_same : (xs ys : List ℕ) (i j : ℕ) → ((k : ℕ) → k < 8 → get_or xs (i + k) 0 ≡ get_or ys (j + k) 0) → be64 xs i ≡ be64 ys j
unfolding be64
be64_same xs ys i j h =
    let a : get_or xs i 0 ≡ get_or ys j 0 = simp add-zero at (h 0 (omega arith)) in
    let b = h 1 (omega arith) in
    let c = h 2 (omega arith) in
    let d = h 3 (omega arith) in
    let e = h 4 (omega arith) in
    let f = h 5 (omega arith) in
    let g = h 6 (omega arith) in
    let k = h 7 (omega arith) in
    cc

pub be32_take : (k : ℕ) (bs : List ℕ) (i : ℕ) → i + 4 ≤ k → be32 (take k bs) i ≡ be32 bs i
be32_take k bs i h = be32_same (take k bs) bs i i (λ j l. get_or-take k bs (i + j) 0 (omega arith))

pub be64_take : (k : ℕ) (bs : List ℕ) (i : ℕ) → i + 8 ≤ k → be64 (take k bs) i ≡ be64 bs i
be64_take k bs i h = be64_same (take k bs) bs i i (λ j l. get_or-take k bs (i + j) 0 (omega arith))

pub be32_drop : (k : ℕ) (bs : List ℕ) (i : ℕ) → be32 (drop k bs) i ≡ be32 bs (k + i)
be32_drop k bs i = be32_same (drop k bs) bs i (k + i) (λ j l. get_or-drop k bs (i + j) 0 ∙ ap (λ n. get_or bs n 0) (omega arith))

pub be64_drop : (k : ℕ) (bs : List ℕ) (i : ℕ) → be64 (drop k bs) i ≡ be64 bs (k + i)
be64_drop k bs i = be64_same (drop k bs) bs i (k + i) (λ j l. get_or-drop k bs (i + j) 0 ∙ ap (λ n. get_or bs n 0) (omega arith))

-- in front of others
pub be32_front : (xs ys : List ℕ) (i : ℕ) → i + 4 ≤ length xs → be32 (xs ++ ys) i ≡ be32 xs i
be32_front xs ys i h = be32_same (xs ++ ys) xs i i (λ j l. get_or_append_left xs ys 0 (i + j) (omega arith))

pub be64_front : (xs ys : List ℕ) (i : ℕ) → i + 8 ≤ length xs → be64 (xs ++ ys) i ≡ be64 xs i
be64_front xs ys i h = be64_same (xs ++ ys) xs i i (λ j l. get_or_append_left xs ys 0 (i + j) (omega arith))
