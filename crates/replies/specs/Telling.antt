-- What telling an answer leaves, or a part of one: where the bytes are none, or memory is wanting, what was written is of no use.
use Rattle.std.specs.Prelude.{◌≡◌, ℕ, true, List, Some, None, Ok, Err, Option, Result}
use Rattle.std.specs.Borrow.{Bor}
use Rattle.model.specs.Tree.{Reply}
use Rattle.replies.specs.declared.untold.Untold.{Untold}
use Rattle.replies.specs.declared.untold.Untold.TheVariants.{NoAnswer, Memory}
use Rattle.replies.specs.Answers.{Spelled}

-- the text with the bytes that are left, where there was something to tell
abbrev pub Left : Result (Bor (List ℕ)) Untold → List ℕ → Option (List ℕ × List ℕ) → Type 0
Left (Ok r) text said = Some (text, r.now) ≡ said
Left (Err NoAnswer) text said = None ≡ said
Left (Err Memory) text said = Unit {0}

-- the answer's words behind what was there, where there was one
abbrev pub Telling : {A : Type 0} → Option Reply → Result A Untold → (before after : List ℕ) → Type 0
Telling said (Ok u) before after = Spelled said true before after
Telling said (Err NoAnswer) before after = None ≡ said
Telling said (Err Memory) before after = Unit {0}
