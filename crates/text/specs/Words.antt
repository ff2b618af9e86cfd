-- A line's first word, up to a space, and what stands behind that space.
use Rattle.std.specs.Prelude.{ℕ, cond, List, [], ◌∷◌, ◌==◌}

unfoldable pub word_of : List ℕ → List ℕ
word_of [] = []
word_of (c ∷ cs) = cond (c == 32) [] (c ∷ word_of cs)

unfoldable pub rest_of : List ℕ → List ℕ
rest_of [] = []
rest_of (c ∷ cs) = cond (c == 32) cs (rest_of cs)
