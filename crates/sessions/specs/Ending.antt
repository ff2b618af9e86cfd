-- What ending a session writes and answers. Assumes nothing.
use Rattle.std.specs.Prelude.{ℕ, not, List, [], ◌∷◌, ◌++◌, length, Ok, Err, Result, ◌==◌}
use Rattle.model.specs.Tree.{State, Out, No, Done, keep}
use Rattle.lent_bytes.specs.Numbers.{be4, be8}
use Rattle.cells.specs.declared.draft.Size.{Size}
use Rattle.cells.specs.Drafts.{drafting}
use Rattle.tree.specs.declared.refusal.Refusal.{Refusal}
use Rattle.tree.specs.Answers.{reason}

-- all but one
abbrev pub others : ℕ → List ℕ → List ℕ
others k xs = keep (λ (x : ℕ). not (k == x)) xs

unfoldable pub numbers_bytes : List ℕ → List ℕ
numbers_bytes [] = []
numbers_bytes (x ∷ xs) = be8 x ++ numbers_bytes xs

-- what stands before the entries: changes, top, last session, how many are open, those
abbrev pub ended : (changes top last : ℕ) → List ℕ → List ℕ
ended changes top last left = (((be8 changes ++ be8 top) ++ be8 last) ++ be4 (length left)) ++ numbers_bytes left

-- the tree without the session, or a refusal
abbrev pub ended_of : Result Size Refusal → List ℕ → List ℕ → State → Out
ended_of (Ok z) out ps s = record { reply = Done []; state = drafting out ps z }
ended_of (Err k) out ps s = record { reply = No 0 (reason k); state = s }
