-- What the parts that the readers hand on stand for. Assumes nothing.
use Rattle.std.specs.Prelude.{◌≡◌, ℕ, List, [], Some, None, Option}
use Rattle.std.specs.Borrow.{Bor}
use Rattle.model.specs.Tree as Tree
use Rattle.model.specs.Tree.{Expect}
use Rattle.lent_bytes.specs.declared.paths.Path.{Path}
use Rattle.lent_bytes.specs.Paths.{path_of}
use Rattle.calls.specs.Format.{acts_at, expecting_at}
use Rattle.calls.specs.declared.types.Expected.{Expected}
use Rattle.calls.specs.declared.types.Expected.TheVariants as expected
use Rattle.calls.specs.declared.types.ActKind.{ActKind}
use Rattle.calls.specs.declared.types.ActKind.TheVariants as kind
use Rattle.calls.specs.declared.types.Act.{Act}
use Rattle.calls.specs.declared.types.Call.{Call}
use Rattle.calls.specs.declared.types.Call.TheVariants as call
pub use Rattle.calls.specs.Format.{rest, past}

-- a part and what is behind it
abbrev pub parts : Bor (List ℕ) × Bor (List ℕ) → List ℕ × List ℕ
parts r = (r.0.now, r.1.now)

-- a value that was read, and what is behind it
abbrev pub behind : {A : Type 0} → A × Bor (List ℕ) → A × List ℕ
behind r = (r.0, r.1.now)

abbrev pub expect_of : Expected → Expect
expect_of expected.Any = Tree.Any
expect_of (expected.Exactly v) = Tree.Version v.0

abbrev pub expect_read : Expected × Bor (List ℕ) → Expect × List ℕ
expect_read r = (expect_of r.0, r.1.now)

-- the path that its names spell
abbrev pub path_now : Path → Tree.Path
path_now p = path_of p.names.now

abbrev pub path_read : Path × Bor (List ℕ) → Tree.Path × List ℕ
path_read r = (path_now r.0, r.1.now)

-- an act's kind with its path and value
abbrev pub act_from : ActKind → Tree.Path → List ℕ → Tree.Act
act_from (kind.Make n s) p v = Tree.Make p v n s.0
act_from (kind.Put x) p v = Tree.Put p v (expect_of x)
act_from (kind.Drop x) p v = Tree.Drop p (expect_of x)
act_from (kind.Check x) p v = Tree.Check p (expect_of x)

abbrev pub act_of : Act → Tree.Act
act_of a = act_from a.kind (path_now a.path) a.value.now

abbrev pub act_read : Act × Bor (List ℕ) → Tree.Act × List ℕ
act_read r = (act_of r.0, r.1.now)

-- bytes that begin with a path and what is expected: with these any act that has no more is read
abbrev pub Expecting : List ℕ → Option (Path × Expected × Bor (List ℕ)) → Type 0
Expecting xs None = (act : Tree.Path → Expect → Tree.Act) → expecting_at act xs ≡ None
Expecting xs (Some r) = (act : Tree.Path → Expect → Tree.Act) → expecting_at act xs ≡ Some (act (path_now r.0) (expect_of r.1), r.2.now)

-- so many acts, where bytes are those
abbrev pub acts_or : Option (List Tree.Act × List ℕ) → List Tree.Act
acts_or None = []
acts_or (Some r) = r.0

abbrev pub acts_in : ℕ → List ℕ → List Tree.Act
acts_in k xs = acts_or (acts_at k xs)

abbrev pub call_of : Call → Tree.Call
call_of (call.Do as') = Tree.Do (acts_in as'.count as'.bytes.now)
call_of (call.Look p) = Tree.Look (path_now p)
call_of (call.Kids p) = Tree.Kids (path_now p)
call_of call.Open = Tree.Open
call_of (call.End s) = Tree.End s.0
