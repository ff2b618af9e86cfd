-- What opening a session writes and answers. Assumes nothing.
use Rattle.std.specs.Prelude.{ℕ, List, ◌++◌, Ok, Err, Result}
use Rattle.model.specs.Tree.{State, Out, No, Session}
use Rattle.lent_bytes.specs.Numbers.{be4, be8}
use Rattle.cells.specs.Drafts.{drafting}
use Rattle.tree.specs.declared.refusal.Refusal.{Refusal}
use Rattle.tree.specs.Answers.{reason}
use Rattle.sessions.specs.declared.opening.Opened.{Opened}

-- what stands before the entries: changes, top, last session, how many are open, those that were, and the new one
abbrev pub opened : (changes top session count : ℕ) → List ℕ → List ℕ
opened changes top session count others = ((((be8 changes ++ be8 top) ++ be8 session) ++ be4 count) ++ others) ++ be8 session

-- a number and the tree with that session open, or a refusal
abbrev pub opened_of : Result Opened Refusal → List ℕ → List ℕ → State → Out
opened_of (Ok o) out ps s = record { reply = Session o.session.0; state = drafting out ps o.size }
opened_of (Err k) out ps s = record { reply = No 0 (reason k); state = s }
