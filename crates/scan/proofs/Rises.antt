-- A loop that sees whether sessions rise. Assumes nothing.
use Rattle.std.proofs.Common.{◌≡◌, ℕ, ◌<◌, ◌≤◌, false, ltb, leb, List, [], ◌∷◌, refl, ap, ◌∙◌}
use Rattle.std.proofs.lemmas.Bool.{lt-ltb, le-ltb, and_left}
use Rattle.cells.specs.Fits.{rising}

module _ (last low : ℕ) (rest : List ℕ) where
  pub rises_not : (x : ℕ) (more : List ℕ) → rest ≡ x ∷ more → x ≤ low → rising low rest last ≡ false
  unfolding rising
  rises_not x more e h = ap (λ (xs : List ℕ). rising low xs last) e ∙ and_left (ltb low x) _ (le-ltb low x h)

  pub rises_on : (x : ℕ) (more : List ℕ) → rest ≡ x ∷ more → low < x → rising low rest last ≡ rising x more last
  unfolding rising
  rises_on x more e h = ap (λ (xs : List ℕ). rising low xs last) e ∙ rw (lt-ltb low x h) refl

  pub rises_all : rest ≡ [] → rising low rest last ≡ leb low last
  unfolding rising
  rises_all e = ap (λ (xs : List ℕ). rising low xs last) e
