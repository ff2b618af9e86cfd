-- The sentences of the whole promise, of the machine of agreement with the tree as its service: three of safety, and progress. Each is a type; a proof of the type is the theorem.
-- Assumes nothing.
use Rattle.std.specs.Prelude.{ℕ, List}
use Rattle.model.specs.Tree.{core}
use Rattle.runs.specs.Room.{LikeARoom, BusyAtNine, OnlyWaiting}
use Rattle.runs.specs.Progress.{AnswersAndHeals, AnswersAndHealsWithin}
use Rattle.runs.specs.Carrying.{Writing, ReadsAgain, ReadsAgainOfSeven, over_writing}
use Rattle.promise.specs.Promise.{tree}
use Rattle.agreement.specs.Machine.{code}
use Rattle.service.specs.Service.{lines, calls}

-- over calls, with the clerk of the promise
abbrev pub Safe : ℕ → Type 0
Safe room = LikeARoom (tree room core) (code (calls room)) × BusyAtNine (tree room core) (code (calls room)) × OnlyWaiting (code (calls room))

-- over calls and answers as bytes, with the clerk who answers bytes
abbrev pub SafeLines : ℕ → Type 0
SafeLines room = LikeARoom (lines room).clerk (code (lines room)) × BusyAtNine (lines room).clerk (code (lines room)) × OnlyWaiting (code (lines room))

-- OVER MESSAGES AS BYTES: in whatever way messages are written as bytes, if all that is said is read again as what was said, safety holds of the program that writes and reads; and progress carries over, once it is shown of the machine
abbrev pub OverBytes : ℕ → Type 0
OverBytes room =
    (e : Writing (code (lines room)) (List ℕ)) → ReadsAgain (code (lines room)) e →
    LikeARoom (lines room).clerk (over_writing (code (lines room)) e) × BusyAtNine (lines room).clerk (over_writing (code (lines room)) e) × OnlyWaiting (over_writing (code (lines room)) e) ×
    (AnswersAndHeals (code (lines room)) → AnswersAndHeals (over_writing (code (lines room)) e))

-- the runs that progress is shown of have fewer steps than this: 256 fewer than 2^56, since the tree takes a call while it had fewer than 2^56 changes
abbrev pub longest : ℕ
longest = 72057594037927680

-- PROGRESS AND HEALING: more than half that know what is answer every call that waits with them, and bring the others up again
abbrev pub Heals : ℕ → Type 0
Heals room = AnswersAndHealsWithin longest (code (calls room)) × AnswersAndHealsWithin longest (code (lines room))

-- THE WHOLE PROMISE for the calls that are built: the three of safety, and progress in runs that are not longer
abbrev pub WholeWithin : ℕ → Type 0
WholeWithin room = LikeARoom (tree room core) (code (calls room)) × BusyAtNine (tree room core) (code (calls room)) × OnlyWaiting (code (calls room)) × AnswersAndHealsWithin longest (code (calls room))

-- the three of safety, of the program that writes its messages in this way
abbrev pub SafeOver : (room : ℕ) → Writing (code (lines room)) (List ℕ) → Type 0
SafeOver room e = LikeARoom (lines room).clerk (over_writing (code (lines room)) e) × BusyAtNine (lines room).clerk (over_writing (code (lines room)) e) × OnlyWaiting (over_writing (code (lines room)) e)

-- the whole promise over messages as bytes, where what is said in runs of at most seven replicas is read again
abbrev pub WholeOverBytes : ℕ → Type 0
WholeOverBytes room = (e : Writing (code (lines room)) (List ℕ)) → ReadsAgainOfSeven (code (lines room)) e → SafeOver room e × AnswersAndHealsWithin longest (over_writing (code (lines room)) e)
