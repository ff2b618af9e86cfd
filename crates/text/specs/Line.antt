-- The lines that the program of one replica writes.
use Rattle.std.specs.Prelude.{ℕ, List, [], ◌∷◌, ◌++◌, codes, decimal}
use Rattle.text.specs.Hex.{hex_of}
use Rattle.text.specs.Frame.{framed}

-- a word, a number, bytes, the line's end
abbrev pub line_of : (word : List ℕ) → (number : ℕ) → (bytes : List ℕ) → List ℕ
line_of word n bs = word ++ (decimal n ++ ((32 ∷ []) ++ (hex_of bs ++ (10 ∷ []))))

abbrev pub answer_line : (number : ℕ) → (answer : List ℕ) → List ℕ
answer_line n answer = line_of (codes "answer ") n (framed n answer)

abbrev pub letter_line : (to : ℕ) → (letter : List ℕ) → List ℕ
letter_line to letter = line_of (codes "to ") to letter
