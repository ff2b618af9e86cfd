-- What the code finds that a call asks: an answer at once, something to look at, or one act that writes. Assumes nothing.
use Rattle.std.specs.Prelude.{◌≡◌, ℕ, false, [], ◌∷◌, Some, None, Result, Ok, Err}
use Rattle.model.specs.Tree.{Call, Do, Look, Kids, No}
use Rattle.calls.specs.declared.types.Act.{Act}
use Rattle.calls.specs.declared.types.Acts.{Acts}
use Rattle.calls.specs.declared.screening.NotLetIn.{NotLetIn}
use Rattle.calls.specs.Reading.{path_now, act_of, acts_in}
use Rattle.calls.specs.Screening.{Screen, LetIn, number_of}
use Rattle.tree.specs.Answers.{numbered}
use Rattle.service.specs.declared.asking.Asked.{Asked}
use Rattle.service.specs.declared.asking.Asked.TheVariants as asked
use Rattle.service.specs.declared.asking.AtOnce.{AtOnce}
use Rattle.service.specs.declared.asking.AtOnce.TheVariants as once
use Rattle.service.specs.Service.{at_once}

-- the number that is said to what is refused at once
abbrev pub told_at_once : AtOnce → ℕ
told_at_once (once.NotLetIn k) = number_of k
told_at_once once.OutOfRange = 1

abbrev pub not_let_in : NotLetIn → AtOnce
not_let_in k = once.NotLetIn k

-- the call that asks it
abbrev pub asked_call : Asked → Call
asked_call (asked.Look p) = Look (path_now p)
asked_call (asked.Kids p) = Kids (path_now p)
asked_call (asked.Write a) = Do (act_of a ∷ [])

-- no number is put behind the path of an act
abbrev pub Plain : Asked → Type 0
Plain (asked.Look p) = Unit {0}
Plain (asked.Kids p) = Unit {0}
Plain (asked.Write a) = numbered a.kind ≡ false

-- the only one of these acts, which is plain
abbrev pub IsTheAct : Acts → Act → Type 0
IsTheAct as' a = (acts_in as'.count as'.bytes.now ≡ act_of a ∷ []) × (numbered a.kind ≡ false)

abbrev pub AskedAs : Screen → Result Asked AtOnce → Type 0
AskedAs sc (Err k) = at_once sc ≡ Some (No 0 (told_at_once k))
AskedAs sc (Ok a) = (sc ≡ LetIn (asked_call a)) × (at_once sc ≡ None) × Plain a
