-- Calls in words.
use Rattle.std.specs.Prelude.{ℕ, ◌/◌, ◌%◌, Bool, true, false, cond, not, ◌&&◌, ◌||◌, List, [], ◌∷◌, ◌++◌, codes, decimal, ◌==◌, nat_le}
use Rattle.model.specs.Tree.{Name, Path, Expect, Any, Version, Act, Make, Put, Drop, Check, Call, Do, Look, Kids, Open, End}
use Rattle.text.specs.Hex.{hex_digit}
use Rattle.words.specs.Words.{ends}

-- is a character written as it is
abbrev pub plain : (quoted : Bool) → ℕ → Bool
plain q c = nat_le 32 c && nat_le c 126 && not (ends q c) && not (c == 92)

abbrev pub char_spelled : (quoted : Bool) → ℕ → List ℕ
char_spelled q c =
    cond (plain q c) (c ∷ []) (cond (c == 34 || c == 92) (92 ∷ (c ∷ [])) (cond (c == 10) (92 ∷ (110 ∷ [])) (92 ∷ (120 ∷ (hex_digit (c / 16) ∷ (hex_digit (c % 16) ∷ []))))))

-- one behind the other
unfoldable pub many : {A : Type 0} → (A → List ℕ) → List A → List ℕ
many f [] = []
many f (x ∷ xs) = f x ++ many f xs

abbrev pub chars_spelled : Bool → List ℕ → List ℕ
chars_spelled q cs = many (char_spelled q) cs

abbrev pub value_spelled : List ℕ → List ℕ
value_spelled v = codes "\"" ++ (chars_spelled true v ++ codes "\"")

abbrev pub name_spelled : Name → List ℕ
name_spelled n = codes "/" ++ chars_spelled false n

-- a path of no names is a / alone
abbrev pub path_spelled : Path → List ℕ
path_spelled [] = codes "/"
path_spelled (n ∷ ns) = many name_spelled (n ∷ ns)

abbrev pub expect_spelled : Expect → List ℕ
expect_spelled Any = []
expect_spelled (Version n) = codes " version " ++ decimal n

abbrev pub numbered_spelled : Bool → List ℕ
numbered_spelled false = []
numbered_spelled true = codes " numbered"

abbrev pub session_spelled : ℕ → List ℕ
session_spelled o = cond (o == 0) [] (codes " session " ++ decimal o)

-- a path, and a value behind it
abbrev pub both_spelled : Path → List ℕ → List ℕ
both_spelled p v = path_spelled p ++ (codes " " ++ value_spelled v)

unfoldable pub act_spelled : Act → List ℕ
act_spelled (Make p v n o) = codes "make " ++ (both_spelled p v ++ (numbered_spelled n ++ session_spelled o))
act_spelled (Put p v x) = codes "put " ++ (both_spelled p v ++ expect_spelled x)
act_spelled (Drop p x) = codes "drop " ++ (path_spelled p ++ expect_spelled x)
act_spelled (Check p x) = codes "check " ++ (path_spelled p ++ expect_spelled x)

abbrev pub piece_spelled : Act → List ℕ
piece_spelled a = codes " " ++ (act_spelled a ++ codes ";")

abbrev pub braced_spelled : List Act → List ℕ
braced_spelled as' = codes "do {" ++ (many piece_spelled as' ++ codes " }")

-- one act stands alone, any other number of them in braces
abbrev pub do_spelled : List Act → List ℕ
do_spelled [] = braced_spelled []
do_spelled (a ∷ []) = act_spelled a
do_spelled (a ∷ b ∷ as') = braced_spelled (a ∷ b ∷ as')

unfoldable pub call_spelled : Call → List ℕ
call_spelled (Do as') = do_spelled as'
call_spelled (Look p) = codes "look " ++ path_spelled p
call_spelled (Kids p) = codes "kids " ++ path_spelled p
call_spelled Open = codes "open"
call_spelled (End k) = codes "end " ++ decimal k
