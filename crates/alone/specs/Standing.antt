-- What the memory of one replica alone stands for, and what a call does to it. Assumes nothing.
use Rattle.std.specs.Prelude.{◌≡◌, ℕ, ◌+◌, ◌/◌, ◌<◌, ◌≤◌, Bool, true, false, List, length, take}
use Rattle.model.specs.Tree.{State}
use Rattle.cells.specs.Fits.{Calm}
use Rattle.scan.specs.Scans.{meaning}
use Rattle.service.specs.Service.{lines}

-- the state that it stands for: that of the first bytes of one buffer
abbrev pub stands_for : (tree : List ℕ) (used : ℕ) → State
stands_for tree used = meaning (take used tree)

-- each of two buffers, with its places, is long enough for every tree of the room
abbrev pub Roomy : (room : ℕ) (bytes places : List ℕ) → Type 0
Roomy room bytes places = (room + 32796 ≤ length bytes) × (length bytes < 4294967296) × (room / 1280 + 1 ≤ length places)

-- a buffer is long enough for every answer, and the last one is within it
abbrev pub Speaks : (room said : ℕ) (reply : List ℕ) → Type 0
Speaks room said reply = (room + 65581 ≤ length reply) × (length reply < 4294967296) × (said ≤ length reply)

-- a call is answered, and leaves the tree, as by one clerk; unless there can be no more changes: then the tree is as it was
abbrev pub Told : (room : ℕ) (call : List ℕ) (before : State) → Bool → (after : State) (said : List ℕ) → Type 0
Told room call before true after said = (said ≡ (lines room).clerk.reply call before) × (after ≡ (lines room).clerk.next call before)
Told room call before false after said = (Calm before → ⊥) × (after ≡ before)
