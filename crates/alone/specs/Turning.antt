-- Which of two buffers is the tree, and how much of it, where a tree was written into the other one or none was. Assumes nothing.
use Rattle.std.specs.Prelude.{ℕ, Some, None, Option}
use Rattle.cells.specs.declared.draft.Size.{Size}

abbrev pub used_by : ℕ → Option Size → ℕ
used_by used None = used
used_by used (Some z) = z.used

-- the first where nothing was written, else the second
abbrev pub pick : {A : Type 0} → A → A → Option Size → A
pick x y None = x
pick x y (Some z) = y
