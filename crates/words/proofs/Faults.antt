-- A fault that is handed on: what could not be read in a part cannot be read in the whole.
use Rattle.std.proofs.Common.{◌≡◌, ℕ, List, None, Ok, Err, Option, Result}
use Rattle.std.specs.Borrow.{Bor}
use Rattle.std.specs.Result.{IsErr}
use Rattle.words.specs.declared.types.Fault.{Fault}
use Rattle.words.specs.declared.types.Fault.TheVariants.{Memory, Wrong}
use Rattle.words.specs.Values.{Reads}

pub hands_on : {A B C D : Type 0} (of : A → B) (whole : C → D) (e : Fault) (said : Option (B × List ℕ)) (wholly : Option (D × List ℕ)) →
    (said ≡ None → wholly ≡ None) → Reads of (Err e) said → Reads whole (Err e) wholly
hands_on of whole Memory said wholly f h = tt
hands_on of whole (Wrong w) said wholly f h = f h

-- a fault is told where nothing can be read
pub faulted : {A B : Type 0} (of : A → B) (r : Result (A × Bor (List ℕ)) Fault) (said : Option (B × List ℕ)) → IsErr r → said ≡ None → Reads of r said
faulted of (Ok v) said e none = cc
faulted of (Err (Wrong w)) said e none = none
faulted of (Err Memory) said e none = tt
