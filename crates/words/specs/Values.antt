-- What the values of the code stand for.
use Rattle.std.specs.Prelude.{◌≡◌, ℕ, ◌<◌, List, length, map, Some, None, Ok, Err, vec_items, Option, Result, Vec}
use Rattle.std.specs.Borrow.{Bor}
use Rattle.std.specs.declared.alloc.Global.{Global}
use Rattle.model.specs.Tree as Tree
use Rattle.calls.specs.Reading.{expect_of}
use Rattle.words.specs.declared.types.Name.{Name}
use Rattle.words.specs.declared.types.Path.{Path}
use Rattle.words.specs.declared.types.Act.{Act}
use Rattle.words.specs.declared.types.Act.TheVariants as act
use Rattle.words.specs.declared.types.Call.{Call}
use Rattle.words.specs.declared.types.Call.TheVariants as call
use Rattle.words.specs.declared.types.Fault.{Fault}
use Rattle.words.specs.declared.types.Fault.TheVariants.{Memory, Wrong}

abbrev pub name_of : Name → Tree.Name
name_of n = vec_items n.0

abbrev pub path_of : Path → Tree.Path
path_of p = map name_of (vec_items p.0)

abbrev pub act_of : Act → Tree.Act
act_of (act.Make p v n s) = Tree.Make (path_of p) (vec_items v) n s.0
act_of (act.Put p v x) = Tree.Put (path_of p) (vec_items v) (expect_of x)
act_of (act.Drop p x) = Tree.Drop (path_of p) (expect_of x)
act_of (act.Check p x) = Tree.Check (path_of p) (expect_of x)

abbrev pub acts_of : Vec Act Global → List Tree.Act
acts_of as' = map act_of (vec_items as')

abbrev pub call_of : Call → Tree.Call
call_of (call.Do as') = Tree.Do (acts_of as')
call_of (call.Look p) = Tree.Look (path_of p)
call_of (call.Kids p) = Tree.Kids (path_of p)
call_of call.Open = Tree.Open
call_of (call.End s) = Tree.End s.0

-- what a reader answers, against what the text says: a value and the text behind it, or that there is none; only memory can be wanting besides
abbrev pub Reads : {A B : Type 0} → (A → B) → Result (A × Bor (List ℕ)) Fault → Option (B × List ℕ) → Type 0
Reads of (Ok r) said = said ≡ Some (of r.0, r.1.now)
Reads of (Err (Wrong w)) said = said ≡ None
Reads of (Err Memory) said = Unit {0}

-- what is behind a thing that was read is less than all
abbrev pub IsLess : {A : Type 0} → Option (A × Bor (List ℕ)) → List ℕ → Type 0
IsLess None text = Unit {0}
IsLess (Some r) text = length r.1.now < length text
