-- The small service is lawful, and grows slowly: it has no counts.
use Rattle.std.proofs.Common.{◌≡◌, ℕ, ◌+◌, cond, eqb, Some, Option, refl, arith}
use Rattle.std.proofs.lemmas.Option.{none-some, same_Some}
use Rattle.std.proofs.lemmas.Bool.Decides.{nat_tests}
use Rattle.std.proofs.lemmas.Bool.{cond_both, eqb-true}
use Rattle.agreement.specs.Content.{Lawful}
use Rattle.agreement.specs.Steady.{Steady}
use Rattle.agreement.specs.Sums.{sums}

pub lawful_sums : Lawful sums
lawful_sums =
    record {
      kept = λ o s r. refl;
      reads = λ o s e. let z : o ≡ 0 = eqb-true o 0 e in grind (arith, nat_tests);
      quickly = λ o r s. cond_both (eqb o 1) _ _ (λ (q : Option ℕ). q ≡ Some r → cond (eqb o 1) 1 (2 + (o + s)) ≡ r) (λ e q. let z : 1 ≡ r = same_Some _ _ q in grind (arith, nat_tests)) (λ _ q. absurd (none-some _ q));
      stays = λ o r s. cond_both (eqb o 1) _ _ (λ (q : Option ℕ). q ≡ Some r → cond (eqb o 1) s (o + s) ≡ s) (λ e q. grind (arith, nat_tests)) (λ _ q. absurd (none-some _ q));
      replies = λ o s e. grind (arith, nat_tests);
      says = λ o k e. grind (arith, nat_tests);
    }

unfoldable pub steady_sums : Steady sums
steady_sums = record { most = 72057594037927936; short = omega arith; size = λ s. 0; starts = refl; grows = λ o s. omega arith; calm = λ s lt. refl }
