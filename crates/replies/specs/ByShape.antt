-- The words of a refusal, a session and an entry, told by the shape of the bytes.
use Rattle.std.specs.Prelude.{◌≡◌, ℕ, ◌+◌, ◌-◌, Bool, ◌&&◌, List, ◌++◌, length, take, drop, Some, codes, decimal, MatchBool, Option, ◌==◌, nat_le, slice_index}
use Rattle.lent_bytes.specs.Numbers.{be32, be64}
use Rattle.spelling.specs.Spelled.{value_spelled}
use Rattle.replies.specs.Answers.{reason_spelled}

abbrev pub refused_spelled : (act number : ℕ) → List ℕ
refused_spelled act k = (codes "refused " ++ decimal k) ++ ((codes " at act " ++ decimal act) ++ (codes ": " ++ reason_spelled k))

-- three bytes, the first of them 0
abbrev pub is_refusal : List ℕ → Bool
is_refusal bs = length bs == 3 && slice_index bs 0 == 0

-- a text, and the number of eight bytes at this place
abbrev pub count_spelled : (text : List ℕ) → (bytes : List ℕ) → (place : ℕ) → List ℕ
count_spelled text bs i = text ++ decimal (be64 bs i)

abbrev pub counts_spelled : List ℕ → List ℕ
counts_spelled bs =
    count_spelled (codes " version ") bs 0
    ++ (count_spelled (codes " made ") bs 8 ++ (count_spelled (codes " changed ") bs 16 ++ (count_spelled (codes " kids ") bs 24 ++ count_spelled (codes " session ") bs 32)))

abbrev pub entry_spelled : (value counts : List ℕ) → List ℕ
entry_spelled v bs = codes "entry " ++ (value_spelled v ++ counts_spelled bs)

-- a session: nine bytes, the first of them 4
abbrev pub is_session : List ℕ → Bool
is_session bs = length bs == 9 && slice_index bs 0 == 4

-- an entry: a 2, the value's length in four bytes, the value, and forty bytes of counts
abbrev pub is_entry : List ℕ → Bool
is_entry bs = nat_le 45 (length bs) && slice_index bs 0 == 2 && be32 bs 1 + 45 == length bs

-- the words of a refusal, a session and an entry; None where there are none
abbrev pub AnswerSpelled : List ℕ → Option (List ℕ) → Type 0
AnswerSpelled bs text =
    MatchBool (is_refusal bs) (text ≡ Some (refused_spelled (slice_index bs 1) (slice_index bs 2)))
    (MatchBool (is_session bs) (text ≡ Some (count_spelled (codes "session ") bs 1))
    (MatchBool (is_entry bs) (text ≡ Some (entry_spelled (take (length bs - 45) (drop 5 bs)) (drop (length bs - 40) bs))) (Unit {0})))
