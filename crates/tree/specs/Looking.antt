-- What looking answers; it leaves the tree as it is. Assumes nothing.
use Rattle.std.specs.Prelude.{◌≡◌, ℕ, cond, ◌||◌, List, take, Ok, Err, Result}
use Rattle.model.specs.Tree.{Path, State, Reply, No, Entry', Names, Out, none, path_ok, there}
use Rattle.lent_bytes.specs.Paths.{path_of}
use Rattle.tree.specs.declared.looking.Seen.{Seen}
use Rattle.tree.specs.declared.looking.Listed.{Listed}
use Rattle.tree.specs.declared.refusal.Refusal.{Refusal}
use Rattle.tree.specs.Answers.{reason}

-- an entry, or a refusal
abbrev pub entry_told : Result Seen Refusal → State → Out
entry_told (Ok x) s = record { reply = Entry' x.value.now x.head.version.0 x.head.made.0 x.head.changed.0 x.head.kids.0 x.head.owner.0; state = s }
entry_told (Err k) s = record { reply = No 0 (reason k); state = s }

-- the names that were written, or a refusal
abbrev pub names_told : Result Listed Refusal → List ℕ → State → Out
names_told (Ok l) out s = record { reply = Names (path_of (take l.end out)); state = s }
names_told (Err k) out s = record { reply = No 0 (reason k); state = s }

-- what refuses a list of names, else an answer
abbrev pub listing : Path → State → Reply → Reply
listing p s r = cond (none p || path_ok p) (cond (none p || there p s) r (No 0 2)) (No 0 1)

abbrev pub Listable : Path → State → Result (Unit {0}) Refusal → Type 0
Listable p s (Err k) = (r : Reply) → listing p s r ≡ No 0 (reason k)
Listable p s (Ok u) = (r : Reply) → listing p s r ≡ r
