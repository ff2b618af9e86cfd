-- Numbers of four and of eight bytes, high byte first. Assumes nothing.
use Rattle.std.specs.Prelude.{◌≡◌, ℕ, ◌+◌, ◌*◌, ◌/◌, ◌%◌, ◌<◌, List, [], ◌∷◌, ◌++◌, slice_index}

-- read at a place
unfoldable pub be32 : List ℕ → ℕ → ℕ
be32 bs i = slice_index bs i * 16777216 + slice_index bs (i + 1) * 65536 + slice_index bs (i + 2) * 256 + slice_index bs (i + 3)

unfoldable pub be64 : List ℕ → ℕ → ℕ
be64 bs i =
    slice_index bs i * 72057594037927936 + slice_index bs (i + 1) * 281474976710656 + slice_index bs (i + 2) * 1099511627776 + slice_index bs (i + 3) * 4294967296 + slice_index bs (i + 4) * 16777216 + slice_index bs (i + 5) * 65536 + slice_index bs (i + 6) * 256 + slice_index bs (i + 7)

-- their bytes
unfoldable pub be4 : ℕ → List ℕ
be4 n = (n / 16777216 % 256) ∷ (n / 65536 % 256) ∷ (n / 256 % 256) ∷ (n % 256) ∷ []

unfoldable pub be8 : ℕ → List ℕ
be8 n =
    (n / 72057594037927936 % 256) ∷ (n / 281474976710656 % 256) ∷ (n / 1099511627776 % 256) ∷ (n / 4294967296 % 256) ∷ (n / 16777216 % 256) ∷ (n / 65536 % 256) ∷ (n / 256 % 256) ∷ (n % 256) ∷ []

-- what is written is read again, whatever follows
abbrev pub NumbersRound : Type 0
NumbersRound =
    ((n : ℕ) (rest : List ℕ) → n < 4294967296 → be32 (be4 n ++ rest) 0 ≡ n)
    × ((n : ℕ) (rest : List ℕ) → n < 18446744073709551616 → be64 (be8 n ++ rest) 0 ≡ n)
