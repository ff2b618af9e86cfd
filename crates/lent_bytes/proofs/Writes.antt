-- Writing at the end. Assumes nothing.
use Rattle.std.proofs.Common.{◌≡◌, ℕ, List, ◌++◌, take, ap, ◌∙◌, subst, append_assoc, arith, length-append}
use Rattle.lent_bytes.specs.Writing.{Added}
use Rattle.lent_bytes.specs.Writers.{Wrote}
use Rattle.lent_bytes.specs.declared.writing.Writer.{Writer}

-- one after another
pub and_then : {from mid to : ℕ} {was next now a b : List ℕ} → Added from was a mid next → Added mid next b to now → Added from was (a ++ b) to now
and_then {from} {mid} {to} {was} {next} {now} {a} {b} p q = record {
  ends = omega (arith, length-append a b, p.ends, q.ends);
  front = q.front ∙ ap (λ l. l ++ b) p.front ∙ append_assoc (take from was) a b;
  long = q.long ∙ p.long;
}

pub the_same : {from to : ℕ} {was now : List ℕ} (a b : List ℕ) → a ≡ b → Added from was a to now → Added from was b to now
the_same {from} {to} {was} {now} a b e p = subst (λ (bs : List ℕ). Added from was bs to now) e p

pub wrote_same : {was now : Writer} (a b : List ℕ) → a ≡ b → Wrote was a now → Wrote was b now
wrote_same {was} {now} a b e p = subst (λ (bs : List ℕ). Wrote was bs now) e p

pub wrote_then : {was mid now : Writer} {a b : List ℕ} → Wrote was a mid → Wrote mid b now → Wrote was (a ++ b) now
wrote_then p q = record { same = q.same ∙ p.same; added = and_then p.added q.added }
