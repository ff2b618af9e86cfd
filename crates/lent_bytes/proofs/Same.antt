-- Paths are the same where the bytes that spell them are: so code compares paths by comparing bytes. Assumes nothing.
use Rattle.std.proofs.Common.{◌≡◌, ℕ, Bool, List, [], ◌∷◌, Decides, sym, refl, ap, ◌∙◌, rules}
use Rattle.std.proofs.lemmas.Slice.Eq.{compares_Decides}
use Rattle.std.proofs.lemmas.Bool.{and_parts, and_from}
use Rattle.std.proofs.lemmas.Bool.Decides.{same_from_decides, Decides-like}
use Rattle.model.specs.Tree.{Name, Path, same_name, same_path}
use Rattle.lent_bytes.specs.Paths.{path_of, path_bytes, Spells}

pub same_name_decides : (a b : Name) → Decides (same_name a b) (a ≡ b)
unfolding same_name
same_name_decides = compares_Decides same_name (search rules)

pub same_path_decides : (p q : Path) → Decides (same_path p q) (p ≡ q)
unfolding same_path
same_path_decides [] [] = (λ e. refl, λ e. refl)
same_path_decides [] (y ∷ ys) = (λ e. search rules, λ e. search rules)
same_path_decides (x ∷ xs) [] = (λ e. search rules, λ e. search rules)
same_path_decides (x ∷ xs) (y ∷ ys) =
    let heads = same_name_decides x y in
    let tails = same_path_decides xs ys in (
      λ e. let both = and_parts (same_name x y) (same_path xs ys) e in let one = heads.0 both.0 in let two = tails.0 both.1 in cc,
      λ e. and_from (same_name x y) (same_path xs ys) (heads.1 (cc)) (tails.1 (cc)),
    )

-- bytes that spell paths are the same where the paths are
pub same_path_lem : (a b : List ℕ) (r : Bool) → Spells a → Spells b → Decides r (a ≡ b) → r ≡ same_path (path_of b) (path_of a)
same_path_lem a b r sa sb d =
    same_from_decides r (same_path (path_of b) (path_of a))
    (Decides-like r (λ e. ap path_of (sym e)) (λ e. sym sa ∙ ap path_bytes (sym e) ∙ sb) d)
    (same_path_decides (path_of b) (path_of a))
