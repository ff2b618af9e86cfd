-- The top has no bytes: a path has some exactly where it is another. Assumes nothing.
use Rattle.std.proofs.Common.{◌≡◌, ℕ, ◌<◌, true, false, List, [], ◌∷◌, length, sym, refl, ap, ◌∙◌, ⊎_elim, arith}
use Rattle.std.proofs.lemmas.Bool.{cases_lt}
use Rattle.model.specs.Tree.{Path, none, path_ok}
use Rattle.lent_bytes.specs.Paths.{path_of, path_bytes, names_of, Spells}

-- a front with no bytes is the top, and one with some is not
pub top_none : (bs : List ℕ) → length bs ≡ 0 → path_of bs ≡ []
unfolding path_of names_of
top_none [] e = refl
top_none (b ∷ bs) e = absurd (omega arith)

some_none : (p : Path) (bs : List ℕ) → path_bytes p ≡ bs → 0 < length bs → none p ≡ false
unfolding none path_bytes
some_none [] bs e l = absurd (omega (arith, ap length e))
some_none (n ∷ ns) bs e l = refl

pub top_some : (bs : List ℕ) → Spells bs → 0 < length bs → none (path_of bs) ≡ false
top_some bs sp l = some_none (path_of bs) bs sp l

-- a path in range has bytes
pub path_some : (bs : List ℕ) → path_ok (path_of bs) ≡ true → 0 < length bs
unfolding none
path_some bs h = ⊎_elim (λ l. l) (λ e. absurd (empty (ap path_ok (sym (top_none bs (omega arith))) ∙ h))) (cases_lt 0 (length bs))
  where
    empty : path_ok [] ≡ true → ⊥
    empty e = let z : ◌≡◌ {A = ℕ} 0 1 = cc in omega arith
