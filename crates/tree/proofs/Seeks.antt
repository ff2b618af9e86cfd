-- What put, drop and check are refused by, told by where their entry was found. Assumes nothing.
use Rattle.std.proofs.Common.{◌≡◌, ℕ, Bool, true, false, not, [], ◌∷◌, get_or, refl, ap, ◌∙◌, ⊎_elim}
use Rattle.std.proofs.lemmas.Bool.{cases_Bool}
use Rattle.model.specs.Tree.{Path, Entry, State, Expect, Step, Bad, unless, meets, version_of, find, some, at, path_ok}
use Rattle.cells.specs.Searches.{First}
use Rattle.cells.proofs.Firsts.{find_first, some_first}
use Rattle.tree.specs.Steps.{sought}

-- what isn't true is false
pub is_false : (b : Bool) → (b ≡ true → ⊥) → b ≡ false
is_false b n = ⊎_elim (λ t. absurd (n t)) (λ f. f) (cases_Bool b)

module _ (p : Path) (x : Expect) (s : State) where
  pub sought_range : path_ok p ≡ false → (o : Step) → sought (not (path_ok p)) p x s o ≡ Bad 1
  unfolding unless
  sought_range h o = rw h refl

  module _ (ok : path_ok p ≡ true) where
    pub sought_missing : some (at p) s.entries ≡ false → (o : Step) → sought (not (path_ok p)) p x s o ≡ Bad 2
    unfolding unless
    sought_missing h o = rw ok (rw h refl)

    module _ (i : ℕ) (e : Entry) (first : First (at p) s.entries i) (is : get_or s.entries i e ≡ e) where
      found : find (at p) s.entries ≡ e ∷ []
      found = find_first (at p) s.entries i e first ∙ ap (λ y. y ∷ []) is

      pub sought_version : meets x e.version ≡ false → (o : Step) → sought (not (path_ok p)) p x s o ≡ Bad 4
      unfolding unless version_of
      sought_version h o = rw ok (rw (some_first (at p) s.entries i first) (rw found (rw h refl)))

      pub sought_found : meets x e.version ≡ true → (o : Step) → sought (not (path_ok p)) p x s o ≡ o
      unfolding unless version_of
      sought_found h o = rw ok (rw (some_first (at p) s.entries i first) (rw found (rw h refl)))
