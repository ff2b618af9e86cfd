-- Which bytes are let through to the tree. What isn't built yet is told first, by the front of the bytes alone where that tells it; then what is no call. Assumes nothing.
use Rattle.std.specs.Prelude.{ℕ, Bool, true, false, cond, not, ◌&&◌, ◌||◌, List, [], ◌∷◌, Some, None, Option, ◌==◌, Result, Ok, Err}
use Rattle.model.specs.Tree.{Call, core, one}
use Rattle.calls.specs.Format.{decode_call}
use Rattle.calls.specs.Reading.{call_of, acts_in}
use Rattle.calls.specs.declared.screening.NotLetIn.{NotLetIn}
use Rattle.calls.specs.declared.screening.NotLetIn.TheVariants as told
use Rattle.calls.specs.declared.types.ActKind.{ActKind}
use Rattle.calls.specs.declared.types.ActKind.TheVariants as kind
use Rattle.calls.specs.declared.types.Call as code
use Rattle.calls.specs.declared.types.Call.TheVariants as call

-- a `do` of other than one act
abbrev pub other_than_one : List ℕ → Bool
other_than_one [] = false
other_than_one (n ∷ bs) = not (n == 1)

-- opening and ending sessions, whatever follows; and a `do` of other than one act, whatever follows
abbrev pub front_not_built : List ℕ → Bool
front_not_built [] = false
front_not_built (b ∷ bs) = (b == 4 || b == 5) || cond (b == 1) (other_than_one bs) false

-- the same as `core` says of the call that the parts stand for, by the parts
abbrev pub plain_kind : ActKind → Bool
plain_kind (kind.Make n s) = not n && s.0 == 0
plain_kind (kind.Put x) = true
plain_kind (kind.Drop x) = true
plain_kind (kind.Check x) = true

abbrev pub core_call : code.Call → Bool
core_call (call.Do as') = one (acts_in as'.count as'.bytes.now)
core_call (call.Look p) = true
core_call (call.Kids p) = true
core_call call.Open = false
core_call (call.End s) = false

pub data Screen : Type 0 where
  -- 12 is said to it
  NotBuilt : Screen
  -- 1 is said to it
  NoCall : Screen
  -- the tree answers it
  LetIn : Call → Screen

abbrev pub decoded : Option Call → Screen
decoded None = NoCall
decoded (Some c) = cond (core c) (LetIn c) NotBuilt

abbrev pub screened : List ℕ → Screen
screened bs = cond (front_not_built bs) NotBuilt (decoded (decode_call bs))

-- what the code answers, and the number that is said to what is not let in
abbrev pub screen_of : Result code.Call NotLetIn → Screen
screen_of (Err told.NotBuilt) = NotBuilt
screen_of (Err told.NoCall) = NoCall
screen_of (Ok c) = LetIn (call_of c)

abbrev pub number_of : NotLetIn → ℕ
number_of told.NotBuilt = 12
number_of told.NoCall = 1
