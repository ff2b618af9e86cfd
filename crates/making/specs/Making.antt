-- Making an entry, in parts. Assumes nothing.
use Rattle.std.specs.Prelude.{◌≡◌, ℕ, ◌+◌, Bool, true, false, not, ◌&&◌, [], ◌∷◌, ◌++◌, is_some, Ok, Err, Option, Result, ◌==◌, nat_eq}
use Rattle.model.specs.Tree as Tree
use Rattle.model.specs.Tree.{Path, Entry, State, Step, Bad, unless, none, there, find, at, some, owner_of, counted, with_entries}
use Rattle.cells.specs.Searches.{Found}
use Rattle.tree.specs.declared.refusal.Refusal.{Refusal}
use Rattle.tree.specs.Answers.{reason}

-- an entry under which one more was made
abbrev pub kid_made : Entry → Entry
kid_made e = record { path = e.path; value = e.value; version = e.version; made = e.made; changed = e.changed; kids = e.kids + 1; owner = e.owner }

-- a state with one entry more
abbrev pub with_made : Path → Entry → State → State
with_made p e s = with_entries ((counted (Tree.above p) s).entries ++ (e ∷ [])) (counted (Tree.above p) s)

-- what is above isn't there
abbrev pub orphan : Path → State → Bool
orphan p s = not (none (Tree.above p)) && not (there (Tree.above p) s)

-- what looking for what is above answers: that it isn't there, or its place, or that it is the top
abbrev pub Above : Path → State → Result (Option ℕ) Refusal → Type 0
Above p s (Err k) = (orphan p s ≡ true) × (reason k ≡ 2)
Above p s (Ok o) = (orphan p s ≡ false) × Found (at (Tree.above p)) s.entries o × (is_some o ≡ not (none (Tree.above p)))

-- what else a making is refused by: it is there already, its session isn't open, what is above goes with a session
abbrev pub hindered : Path → ℕ → State → Step → Step
hindered p o s x = unless 3 (there p s) (unless 6 (not (o == 0) && not (some (nat_eq o) s.sessions)) (unless 7 (not (owner_of (find (at (Tree.above p)) s.entries) == 0)) x))

abbrev pub Hindered : Path → ℕ → State → Result (Unit {0}) Refusal → Type 0
Hindered p o s (Err k) = (x : Step) → hindered p o s x ≡ Bad (reason k)
Hindered p o s (Ok u) = (x : Step) → hindered p o s x ≡ x
