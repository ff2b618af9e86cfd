-- THE WHOLE PROMISE OVER THESE BYTES: the machine that keeps the tree, whose messages are written and read as the format says. Calls, answers and messages are bytes.
-- Assumes nothing.
use Rattle.std.specs.Prelude.{ℕ, List}
use Rattle.runs.specs.Replicas.{Code}
use Rattle.runs.specs.Room.{LikeARoom, BusyAtNine, OnlyWaiting}
use Rattle.runs.specs.Progress.{AnswersAndHealsWithin}
use Rattle.runs.specs.Carrying.{Writing, over_writing, ReadsAgainOfSeven}
use Rattle.agreement.specs.Machine.{code}
use Rattle.service.specs.Service.{lines}
use Rattle.service.specs.Safe.{longest}
use Rattle.wire.specs.Messages.{word_bytes, word_at}

-- how messages are written, and read by a replica that knows how many there are
abbrev pub format : (room : ℕ) → Writing (code (lines room)) (List ℕ)
format room = record { write = word_bytes room; read = λ m bytes. word_at room m.agreement.all bytes }

-- the program over bytes
abbrev pub bytes_code : (room : ℕ) → Code (List ℕ) (List ℕ) (List ℕ)
bytes_code room = over_writing (code (lines room)) (format room)

abbrev pub SaidIsRead : Type 0
SaidIsRead = (room : ℕ) → ReadsAgainOfSeven (code (lines room)) (format room)

abbrev pub WholeInBytes : Type 0
WholeInBytes = (room : ℕ) → LikeARoom (lines room).clerk (bytes_code room) × BusyAtNine (lines room).clerk (bytes_code room) × OnlyWaiting (bytes_code room) × AnswersAndHealsWithin longest (bytes_code room)
