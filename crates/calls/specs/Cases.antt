-- Worked cases of what is told of bytes before the tree is asked: one table, computed by the checker. Assumes nothing.
use Rattle.std.specs.Prelude.{◌≡◌, ℕ, List, [], ◌∷◌, map}
use Rattle.calls.specs.Screening.{Screen, NotBuilt, NoCall, LetIn, screened}

-- 12 for what isn't built, 1 for what is no call, 0 for what the tree answers
abbrev pub told_by : Screen → ℕ
told_by NotBuilt = 12
told_by NoCall = 1
told_by (LetIn c) = 0

pub record Row : Type 0 where
  pub bytes : List ℕ
  pub told : ℕ

abbrev pub row : ℕ → List ℕ → Row
row k bs = record { bytes = bs; told = k }

abbrev pub table : List Row
table =
    -- no bytes; kinds that there are none of
    row 1 []
    ∷ row 1 (0 ∷ [])
    ∷ row 1 (6 ∷ [])
    -- open and end, whatever follows
    ∷ row 12 (4 ∷ [])
    ∷ row 12 (4 ∷ 9 ∷ [])
    ∷ row 12 (5 ∷ [])
    -- do: no count; none, two and more acts whatever follows; one that is there, or isn't
    ∷ row 1 (1 ∷ [])
    ∷ row 12 (1 ∷ 0 ∷ [])
    ∷ row 12 (1 ∷ 2 ∷ 7 ∷ [])
    ∷ row 1 (1 ∷ 1 ∷ [])
    ∷ row 1 (1 ∷ 1 ∷ 5 ∷ 1 ∷ 1 ∷ 97 ∷ 0 ∷ [])
    -- check /a at any version; with a byte left over; with a flag that is neither; at version 7, and with a byte too few
    ∷ row 0 (1 ∷ 1 ∷ 4 ∷ 1 ∷ 1 ∷ 97 ∷ 0 ∷ [])
    ∷ row 1 (1 ∷ 1 ∷ 4 ∷ 1 ∷ 1 ∷ 97 ∷ 0 ∷ 0 ∷ [])
    ∷ row 1 (1 ∷ 1 ∷ 4 ∷ 1 ∷ 1 ∷ 97 ∷ 2 ∷ [])
    ∷ row 0 (1 ∷ 1 ∷ 4 ∷ 1 ∷ 1 ∷ 97 ∷ 1 ∷ 0 ∷ 0 ∷ 0 ∷ 0 ∷ 0 ∷ 0 ∷ 0 ∷ 7 ∷ [])
    ∷ row 1 (1 ∷ 1 ∷ 4 ∷ 1 ∷ 1 ∷ 97 ∷ 1 ∷ 0 ∷ 0 ∷ 0 ∷ 0 ∷ 0 ∷ 0 ∷ 0 ∷ [])
    -- make /a with no value: plain, numbered, for session 1, with a flag that is neither
    ∷ row 0 (1 ∷ 1 ∷ 1 ∷ 1 ∷ 1 ∷ 97 ∷ 0 ∷ 0 ∷ 0 ∷ 0 ∷ 0 ∷ 0 ∷ 0 ∷ 0 ∷ 0 ∷ 0 ∷ 0 ∷ 0 ∷ 0 ∷ [])
    ∷ row 12 (1 ∷ 1 ∷ 1 ∷ 1 ∷ 1 ∷ 97 ∷ 0 ∷ 0 ∷ 0 ∷ 0 ∷ 1 ∷ 0 ∷ 0 ∷ 0 ∷ 0 ∷ 0 ∷ 0 ∷ 0 ∷ 0 ∷ [])
    ∷ row 12 (1 ∷ 1 ∷ 1 ∷ 1 ∷ 1 ∷ 97 ∷ 0 ∷ 0 ∷ 0 ∷ 0 ∷ 0 ∷ 0 ∷ 0 ∷ 0 ∷ 0 ∷ 0 ∷ 0 ∷ 0 ∷ 1 ∷ [])
    ∷ row 1 (1 ∷ 1 ∷ 1 ∷ 1 ∷ 1 ∷ 97 ∷ 0 ∷ 0 ∷ 0 ∷ 0 ∷ 2 ∷ 0 ∷ 0 ∷ 0 ∷ 0 ∷ 0 ∷ 0 ∷ 0 ∷ 0 ∷ [])
    -- look and kids: a path, the top, a name that runs past the end, a byte left over
    ∷ row 0 (2 ∷ 1 ∷ 1 ∷ 97 ∷ [])
    ∷ row 0 (2 ∷ 0 ∷ [])
    ∷ row 0 (3 ∷ 0 ∷ [])
    ∷ row 1 (2 ∷ 1 ∷ 2 ∷ 97 ∷ [])
    ∷ row 1 (3 ∷ 0 ∷ 0 ∷ [])
    -- a name of no bytes is out of range, and for the tree to refuse
    ∷ row 0 (2 ∷ 1 ∷ 0 ∷ [])
    ∷ []

abbrev pub WorkedScreens : Type 0
WorkedScreens = map (λ (r : Row). told_by (screened r.bytes)) table ≡ map (λ (r : Row). r.told) table
