-- What code tells of an entry under a path is what its definition says. Assumes nothing.
use Rattle.std.proofs.Common.{◌≡◌, ℕ, Bool, not, ◌&&◌, List, Decides, ap, ◌∙◌}
use Rattle.model.specs.Tree.{none, above, same_path, is_kid}
use Rattle.lent_bytes.specs.Paths.{path_of, Spells}
use Rattle.lent_bytes.proofs.Above.{Under, kid_decides}
use Rattle.cells.specs.Layout.{path_part, entry_of}

pub kid_is : (cell own path : List ℕ) (r : Bool) → own ≡ path_part cell → Spells own → Spells path → Decides r (Under (path_of path) (path_of own)) → r ≡ is_kid (path_of path) (entry_of cell)
unfolding entry_of
kid_is cell own path r e so sp d = kid_decides own path so sp r d ∙ ap (λ (o : List ℕ). not (none (path_of o)) && same_path (path_of path) (above (path_of o))) e
