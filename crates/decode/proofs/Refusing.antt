-- Where one reader finds nothing, nothing is read. Assumes nothing.
use Rattle.std.proofs.Common.{◌≡◌, ℕ, ◌+◌, ◌-◌, ◌<◌, ◌≤◌, Some, None, Option, Ok, Err, Result, refl, ap, ◌∙◌, arith}
use Rattle.std.specs.Result.{result_ok}
use Rattle.calls.specs.Format.{and_then}
use Rattle.tree.specs.declared.refusal.Refusal.{Refusal}
use Rattle.tree.specs.declared.refusal.Refusal.TheVariants.{OutOfRange, NotThere, AlreadyThere, OtherVersion, HasKids, NoSession, UnderSession, UsedUp, Full}
use Rattle.tree.specs.declared.refusal.NoRefusal.{NoRefusal}
use Rattle.tree.specs.Answers.{reason, IsNumbered}
use Rattle.wire.specs.Messages.{refused_by}
use Rattle.wire.proofs.MessagesBack.{refused_back}

pub none_then : {A B : Type 0} (o : Option A) (g : A → Option B) → o ≡ None → and_then o g ≡ None
none_then {A} o g e = ap (λ (q : Option A). and_then q g) e

-- a refusal by the byte that is one more than its number
refused_number : (k : Refusal) → Some k ≡ refused_by (1 + reason k)
refused_number OutOfRange = refl
refused_number NotThere = refl
refused_number AlreadyThere = refl
refused_number OtherVersion = refl
refused_number HasKids = refl
refused_number NoSession = refl
refused_number UnderSession = refl
refused_number UsedUp = refl
refused_number Full = refl

numbers : (k : Refusal) → (0 < reason k) × (reason k ≤ 9)
numbers OutOfRange = (omega arith, omega arith)
numbers NotThere = (omega arith, omega arith)
numbers AlreadyThere = (omega arith, omega arith)
numbers OtherVersion = (omega arith, omega arith)
numbers HasKids = (omega arith, omega arith)
numbers NoSession = (omega arith, omega arith)
numbers UnderSession = (omega arith, omega arith)
numbers UsedUp = (omega arith, omega arith)
numbers Full = (omega arith, omega arith)

pub refused_as : (b : ℕ) (r : Result Refusal NoRefusal) → 1 ≤ b → IsNumbered (b - 1) r → result_ok r ≡ refused_by b
refused_as b (Ok k) h e = refused_number k ∙ ap refused_by (let z : 1 + reason k ≡ b = omega (arith, e) in z)
refused_as b (Err x) h e = go (refused_by b) refl
  where
    go : (o : Option Refusal) → refused_by b ≡ o → None ≡ o
    go None f = refl
    go (Some k) f = let back = refused_back b k f in let n = numbers k in absurd (e.1 (omega arith) (omega arith))
