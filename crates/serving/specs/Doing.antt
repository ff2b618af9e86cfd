-- A write that lies in a slot, done beside the tree that stands. Assumes nothing.
use Rattle.std.specs.Prelude.{◌≡◌, ℕ, List, IfSome, Result}
use Rattle.model.specs.Tree.{State}
use Rattle.cells.specs.declared.draft.Size.{Size}
use Rattle.calls.specs.Screening.{screened}
use Rattle.tree.specs.declared.refusal.Refusal.{Refusal}
use Rattle.service.specs.Service.{keep_to, next_to}
use Rattle.service.specs.Answering.{leaves, kept_of, next_of}
use Rattle.memory.specs.declared.lent.Memory.{Memory}
use Rattle.memory.specs.declared.lent.Kept.{Kept}
use Rattle.memory.specs.Rooms.{other_side}
use Rattle.memory.specs.Keeps.{Side, side_at, left_side, right_side, state_in, Stands, Turned, Unmoved}
use Rattle.serving.specs.declared.calling.Did.{Did}

-- what is kept of it, and what it leaves, are what the service says; a tree that was written fits the room
pub record WroteCall (room : ℕ) (call : List ℕ) (s : State) (w : Result Size Refusal) (out ps : List ℕ) : Type 0 where
  pub outcome : kept_of w ≡ keep_to room (screened call) s
  pub state : leaves w out ps s ≡ next_to room (screened call) s
  pub stands : IfSome (next_of w) (λ z. Stands room (record { bytes = out; places = ps; size = z }))

-- the side beside the tree that stands
abbrev pub beside : Kept → Memory → Side
beside k m = side_at (other_side k.stands) (left_side k m) (right_side k m)

-- it was done there
abbrev pub WroteBeside : Kept → Memory → (call : List ℕ) → Result Size Refusal → Memory → Type 0
WroteBeside k m call w n = WroteCall k.room call (state_in k m) w (beside k n).bytes (beside k n).places

-- a call was done: what it leaves stands, what is kept of it is handed back, and the tree before still lies beside it
pub record DidCall (k : Kept) (m : Memory) (call : List ℕ) (d : Did) (n : Memory) : Type 0 where
  pub state : state_in d.kept n ≡ next_to k.room (screened call) (state_in k m)
  pub outcome : d.outcome ≡ keep_to k.room (screened call) (state_in k m)
  pub turned : Turned k m d.kept n
  pub before : Unmoved k m n
