-- What stands at the front of a text, and the text behind it; None where it is something else. Spaces in front do not count.
use Rattle.std.specs.Prelude.{ℕ, zero, suc, ◌+◌, ◌*◌, Bool, true, false, cond, not, ◌||◌, List, [], ◌∷◌, length, is_some, Some, None, Option, ◌==◌}
use Rattle.std.specs.Result.{result_ok}
use Rattle.std.specs.Str.{bytes_eq}
use Rattle.model.specs.Tree.{Name, Path}
use Rattle.calls.specs.Format.{and_then}
use Rattle.text.specs.Hex.{hex_value}
use Rattle.text.specs.Decimal.{undecimal}

unfoldable pub unspaced : List ℕ → List ℕ
unspaced [] = []
unspaced (c ∷ cs) = cond (c == 32) (unspaced cs) (c ∷ cs)

-- the characters that end a value in quotes, and those that end a name or a word: space " / ; { }
abbrev pub ends : (quoted : Bool) → ℕ → Bool
ends true c = c == 34
ends false c = c == 32 || c == 34 || c == 47 || c == 59 || c == 123 || c == 125

unfoldable pub word_of : List ℕ → List ℕ
word_of [] = []
word_of (c ∷ cs) = cond (ends false c) [] (c ∷ word_of cs)

unfoldable pub behind_word : List ℕ → List ℕ
behind_word [] = []
behind_word (c ∷ cs) = cond (ends false c) (c ∷ cs) (behind_word cs)

-- a word that is this one
abbrev pub key_at : (key : List ℕ) → List ℕ → Option (List ℕ)
key_at key xs = cond (bytes_eq (word_of (unspaced xs)) key) (Some (behind_word (unspaced xs))) None

abbrev pub is_mark : ℕ → List ℕ → Option (List ℕ)
is_mark m [] = None
is_mark m (c ∷ cs) = cond (c == m) (Some cs) None

-- a character that is this one
abbrev pub mark_at : (mark : ℕ) → List ℕ → Option (List ℕ)
mark_at m xs = is_mark m (unspaced xs)

abbrev pub number_at : List ℕ → Option (ℕ × List ℕ)
number_at xs = and_then (result_ok (undecimal (word_of (unspaced xs)))) (λ n. Some (n, behind_word (unspaced xs)))

-- a character: itself, or \" \\ \n \xHH
abbrev pub hex_pair : Option ℕ → Option ℕ → List ℕ → Option (ℕ × List ℕ)
hex_pair (Some h) (Some l) cs = Some (16 * h + l, cs)
hex_pair (Some h) None cs = None
hex_pair None l cs = None

abbrev pub hex_at : List ℕ → Option (ℕ × List ℕ)
hex_at [] = None
hex_at (a ∷ []) = None
hex_at (a ∷ b ∷ cs) = hex_pair (hex_value a) (hex_value b) cs

abbrev pub escaped_at : List ℕ → Option (ℕ × List ℕ)
escaped_at [] = None
escaped_at (c ∷ cs) = cond (c == 120) (hex_at cs) (cond (c == 110) (Some (10, cs)) (cond (c == 34 || c == 92) (Some (c, cs)) None))

abbrev pub char_at : List ℕ → Option (ℕ × List ℕ)
char_at [] = None
char_at (c ∷ cs) = cond (c == 92) (escaped_at cs) (Some (c, cs))

-- one thing behind the other, up to where they are over; at most so many
unfoldable pub many_while : {A : Type 0} → (over : List ℕ → Bool) → (one : List ℕ → Option (A × List ℕ)) → (most : ℕ) → List ℕ → Option (List A × List ℕ)
many_while over one zero xs = Some ([], xs)
many_while over one (suc k) xs = cond (over xs) (Some ([], xs)) (and_then (one xs) (λ r. and_then (many_while over one k r.1) (λ s. Some (r.0 ∷ s.0, s.1))))

abbrev pub is_over : (quoted : Bool) → List ℕ → Bool
is_over q [] = true
is_over q (c ∷ cs) = ends q c

-- characters up to one that ends them
abbrev pub chars_at : (quoted : Bool) → List ℕ → Option (List ℕ × List ℕ)
chars_at q xs = many_while (is_over q) char_at (length xs) xs

abbrev pub closed : List ℕ × List ℕ → Option (List ℕ × List ℕ)
closed r = and_then (is_mark 34 r.1) (λ rest. Some (r.0, rest))

-- characters in quotes
abbrev pub value_at : List ℕ → Option (List ℕ × List ℕ)
value_at xs = and_then (mark_at 34 xs) (λ r. and_then (chars_at true r) closed)

abbrev pub some : List ℕ × List ℕ → Option (List ℕ × List ℕ)
some ([], rest) = None
some (c ∷ cs, rest) = Some (c ∷ cs, rest)

abbrev pub name_at : List ℕ → Option (Name × List ℕ)
name_at xs = and_then (chars_at false xs) some

-- names with a / in front of each
abbrev pub no_slash : List ℕ → Bool
no_slash xs = not (is_some (is_mark 47 xs))

abbrev pub slash_name : List ℕ → Option (Name × List ℕ)
slash_name xs = and_then (is_mark 47 xs) name_at

abbrev pub names_at : List ℕ → Option (Path × List ℕ)
names_at xs = many_while no_slash slash_name (length xs) xs

-- is a lone / here, the path of no names
abbrev pub is_top : List ℕ → Bool
is_top [] = false
is_top (c ∷ []) = c == 47
is_top (c ∷ d ∷ ds) = cond (c == 47) (cond (d == 47) false (ends false d)) false

abbrev pub path_from : List ℕ → Option (Path × List ℕ)
path_from [] = None
path_from (c ∷ cs) = cond (is_top (c ∷ cs)) (Some ([], cs)) (cond (c == 47) (names_at (c ∷ cs)) None)

abbrev pub path_at : List ℕ → Option (Path × List ℕ)
path_at xs = path_from (unspaced xs)
