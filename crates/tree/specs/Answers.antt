-- What the answers of the code stand for. Assumes nothing.
use Rattle.std.specs.Prelude.{◌≡◌, ℕ, ◌<◌, ◌≤◌, Bool, false, List, [], ◌∷◌, Ok, Err, Result}
use Rattle.model.specs.Tree.{Path, State, Step, Bad, Good, Act, Make, Put, Drop, Check, Out, No, Done}
use Rattle.calls.specs.declared.types.ActKind.{ActKind}
use Rattle.calls.specs.declared.types.ActKind.TheVariants as kind
use Rattle.cells.specs.declared.draft.Size.{Size}
use Rattle.cells.specs.Drafts.{drafting}
use Rattle.tree.specs.declared.refusal.Refusal.{Refusal}
use Rattle.tree.specs.declared.refusal.NoRefusal.{NoRefusal}
use Rattle.tree.specs.declared.refusal.Refusal.TheVariants.{OutOfRange, NotThere, AlreadyThere, OtherVersion, HasKids, NoSession, UnderSession, UsedUp, Full}

-- each refusal's number
abbrev pub reason : Refusal → ℕ
reason OutOfRange = 1
reason NotThere = 2
reason AlreadyThere = 3
reason OtherVersion = 4
reason HasKids = 5
reason NoSession = 6
reason UnderSession = 7
reason UsedUp = 8
reason Full = 9

-- the refusal with this number, or that there is none with it
abbrev pub IsNumbered : ℕ → Result Refusal NoRefusal → Type 0
IsNumbered n (Ok k) = reason k ≡ n
IsNumbered n (Err e) = (e.0 ≡ n) × (0 < n → n ≤ 9 → ⊥)

-- what an act did that makes these paths: a refusal, or the tree that was written
abbrev pub step_of : List Path → Result Size Refusal → List ℕ → List ℕ → Step
step_of qs (Ok z) out ps = Good qs (drafting out ps z)
step_of qs (Err k) out ps = Bad (reason k)

-- the paths that an act makes that is done; a numbered name is not told of here
abbrev pub made_by : Act → List Path
made_by (Make p v n o) = p ∷ []
made_by (Put p v x) = []
made_by (Drop p x) = []
made_by (Check p x) = []

-- does an act ask for a number behind its name
abbrev pub numbered : ActKind → Bool
numbered (kind.Make n s) = n
numbered (kind.Put x) = false
numbered (kind.Drop x) = false
numbered (kind.Check x) = false

-- what a call of one act answers and leaves: the tree that was written, or as it was
abbrev pub out_of : List Path → Result Size Refusal → List ℕ → List ℕ → State → Out
out_of qs (Ok z) out ps s = record { reply = Done qs; state = drafting out ps z }
out_of qs (Err k) out ps s = record { reply = No 0 (reason k); state = s }
