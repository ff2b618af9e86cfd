-- The cells that places cut out of memory, and the entries that they are. Assumes nothing.
use Rattle.std.proofs.Common.{◌≡◌, ℕ, zero, suc, ◌+◌, ◌-◌, ◌<◌, Bool, List, [], ◌∷◌, length, get_or, Decides, refl, ap, ◌∙◌, add-one, arith}
use Rattle.std.specs.List.{between}
use Rattle.std.proofs.lemmas.List.{get_or-map, length-map}
use Rattle.std.proofs.ByRecursion.{All-get_or}
use Rattle.model.specs.Tree.{Entry, at, same_path}
use Rattle.lent_bytes.proofs.Same.{same_path_lem}
use Rattle.cells.specs.Layout.{cut, path_part, Formed, Holds, entry_of, entries_of}
use Rattle.lent_bytes.specs.Paths.{path_of, Spells}

get_or_cut_suc : (mem ps : List ℕ) (i : ℕ) → suc i < length ps → get_or (cut mem ps) i [] ≡ between (get_or ps i 0) (get_or ps (suc i) 0) mem
unfolding cut
get_or_cut_suc mem [] i h = absurd (omega arith)
get_or_cut_suc mem (o ∷ []) i h = absurd (omega arith)
get_or_cut_suc mem (o ∷ e ∷ ps) zero h = refl
get_or_cut_suc mem (o ∷ e ∷ ps) (suc i) h = get_or_cut_suc mem (e ∷ ps) i (omega arith)

pub get_or_cut : (mem ps : List ℕ) (i : ℕ) → i + 1 < length ps → get_or (cut mem ps) i [] ≡ between (get_or ps i 0) (get_or ps (i + 1) 0) mem
get_or_cut mem ps i h = rw (add-one i) (get_or_cut_suc mem ps i (omega arith))

pub length_cut : (mem ps : List ℕ) → length (cut mem ps) ≡ length ps - 1
unfolding cut
length_cut mem [] = refl
length_cut mem (o ∷ []) = refl
length_cut mem (o ∷ e ∷ ps) = omega (arith, length_cut mem (e ∷ ps))

pub at_cell : (c own b : List ℕ) (r : Bool) → own ≡ path_part c → Spells own → Spells b → Decides r (own ≡ b) → r ≡ at (path_of b) (entry_of c)
unfolding entry_of
at_cell c own b r e so s d = same_path_lem own b r so s d ∙ ap (λ (o : List ℕ). same_path (path_of b) (path_of o)) e

module _ (mem ps : List ℕ) (i : ℕ) (in' : i + 1 < length ps) where
  pub entry_at : (d : Entry) → get_or (entries_of mem ps) i d ≡ entry_of (get_or (cut mem ps) i [])
  entry_at d = get_or-map entry_of (cut mem ps) i [] d (omega (arith, length_cut mem ps))

  pub good_at : Holds mem ps → Formed (get_or (cut mem ps) i [])
  good_at h = All-get_or Formed (cut mem ps) i [] (omega (arith, length_cut mem ps)) h.good

pub length_entries : (mem ps : List ℕ) → length (entries_of mem ps) ≡ length ps - 1
length_entries mem ps = length-map (cut mem ps) entry_of ∙ length_cut mem ps
