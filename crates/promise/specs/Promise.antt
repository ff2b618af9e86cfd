-- What is promised of the whole. Each is a type; a proof of the type is the theorem.
-- Assumes nothing.
use Rattle.std.specs.Prelude.{◌≡◌, Bool, cond, ℕ}
use Rattle.model.specs.Tree.{State, blank, Call, Reply, No, does, core}
use Rattle.runs.specs.Replicas.{Code}
use Rattle.runs.specs.Room.{Clerk, LikeARoom, BusyAtNine, OnlyWaiting}
use Rattle.runs.specs.Progress.{AnswersAndHeals}

-- The room of a replica that is lent 256 MiB: 64 MiB of entries. Every statement below is for any room, the same at all replicas.
abbrev pub room_of : ℕ
room_of = 67108864

-- The clerk who keeps one tree in such a room, and does the calls that `can` names; the others are not built yet: refused by 12, and nothing changes. A call handed back undone is 11.
abbrev pub tree : ℕ → (Call → Bool) → Clerk Call Reply
tree room can = record { State = State; start = blank; reply = λ c s. cond (can c) (does room c s).reply (No 0 12); next = λ c s. cond (can c) (does room c s).state s; busy = No 0 11 }

-- THE MAIN PROMISE of a replica's program c. For one to seven replicas with nothing but their memory, whatever messages are lost, late, doubled or out of order, and whichever replicas crash and forget,
-- as long as fewer than half are frail at a time: clients can't tell them from one clerk with one tree; a call too many is handed back at once, and only then; only calls that wait are answered;
-- and more than half that aren't frail answer every call that waits with them and bring the others up again.
abbrev pub Whole : {M : Type 0} → ℕ → (Call → Bool) → Code M Call Reply → Type 0
Whole {M} room can c = LikeARoom (tree room can) c × BusyAtNine (tree room can) c × OnlyWaiting c × AnswersAndHeals c

-- the promise for the calls that are built first
abbrev pub CoreWhole : {M : Type 0} → ℕ → Code M Call Reply → Type 0
CoreWhole {M} room c = Whole room core c

-- Of the clerk himself, whichever calls are built: what is refused changes nothing. (A call that is handed back undone changes nothing by what the room is.)
abbrev pub RefusedChangesNothing : Type 0
RefusedChangesNothing = (room : ℕ) (can : Call → Bool) (c : Call) (s : State) (n k : ℕ) → (tree room can).reply c s ≡ No n k → (tree room can).next c s ≡ s
