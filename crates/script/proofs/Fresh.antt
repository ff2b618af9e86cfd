-- What is more than the highest of them is none of them. Assumes nothing.
use Rattle.std.proofs.Common.{◌≡◌, ℕ, ◌+◌, ◌^◌, ◌<◌, max, false, eqb, List, [], ◌∷◌, Option, Some, None, Bor, refl, ap, ◌∙◌, arith}
use Rattle.std.specs.List.{reduce}
use Rattle.std.specs.Option.{SomeIff, option_map, option_copied, unwrap_or}
use Rattle.std.proofs.lemmas.Bool.{or_from, ne_eqb}
use Rattle.script.specs.Incarnations.{is_drawn, highest, was_there, New}

pub above_is_new : (m : ℕ) (ds : List ℕ) (n : ℕ) → highest m ds < n → (is_drawn n ds ≡ false) × (m < n)
above_is_new m [] n h = (refl, h)
above_is_new m (d ∷ ds) n h =
    let rest = above_is_new (max m d) ds n h in
    let below : d < n = omega (arith, rest.1) in
    (or_from (eqb d n) (is_drawn n ds) (ne_eqb d n (λ e. omega arith)) rest.0, omega (arith, rest.1))

one_more_was_not : (ds : List ℕ) → was_there (highest 0 ds + 1) ds ≡ false
one_more_was_not ds = or_from (eqb (highest 0 ds + 1) 0) (is_drawn (highest 0 ds + 1) ds) (ne_eqb (highest 0 ds + 1) 0 (λ e. omega arith)) (above_is_new 0 ds (highest 0 ds + 1) (omega arith)).0

pub one_more_is_new : (ds : List ℕ) (most : ℕ) (r : Option ℕ) → most ≡ highest 0 ds → SomeIff r (most + 1 < 2 ^ 64) (most + 1) → New ds r
one_more_is_new ds most None e h = tt
one_more_is_new ds most (Some n) e h = ap (λ k. was_there k ds) (h.1 ∙ ap (λ k. k + 1) e) ∙ one_more_was_not ds

-- the greatest of them, or 0, is the highest from 0 on
pub highest_from_max : (ds : List ℕ) (m : Option (Bor ℕ)) (n : Option ℕ) (r : ℕ) → option_map (λ (b : Bor ℕ). b.now) m ≡ reduce max ds → n ≡ option_copied m → r ≡ unwrap_or n 0 → r ≡ highest 0 ds
highest_from_max [] m n r e f g = g ∙ ap (λ o. unwrap_or o 0) (f ∙ e)
highest_from_max (d ∷ ds) m n r e f g =
    let least : d ≡ max 0 d = omega arith in g ∙ (ap (λ o. unwrap_or o 0) (f ∙ e) ∙ ap (λ k. highest k ds) least)
