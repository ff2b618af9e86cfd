-- A loop that writes one thing behind the other: one more is written as the definition says, behind those before it.
use Rattle.std.proofs.Common.{◌≡◌, ℕ, ◌+◌, ◌<◌, ◌≤◌, List, [], ◌∷◌, ◌++◌, map, length, get_or, take, sym, ap, ◌∙◌, append_assoc}
use Rattle.std.proofs.lemmas.List.{take_more, take_all, map_push}

module _ {A B : Type 0} (of : A → B) (all : List B → List ℕ) (one : B → List ℕ) (push : (ys : List B) (y : B) → all (ys ++ (y ∷ [])) ≡ all ys ++ one y) (front : List ℕ) (xs : List A) (i : ℕ) where
  pub written_more : (x : A) → i < length xs → x ≡ get_or xs i x → (front ++ all (map of (take i xs))) ++ one (of x) ≡ front ++ all (map of (take (i + 1) xs))
  written_more x h e =
      append_assoc front (all (map of (take i xs))) (one (of x))
      ∙ ap (λ (ys : List ℕ). front ++ ys)
      (sym (push (map of (take i xs)) (of x))
      ∙ ap all (sym (map_push of (take i xs) x) ∙ ap (map of) (ap (λ (y : A). take i xs ++ (y ∷ [])) e ∙ sym (take_more xs i x h))))

  pub written_all : length xs ≤ i → front ++ all (map of (take i xs)) ≡ front ++ all (map of xs)
  written_all h = ap (λ (ys : List A). front ++ all (map of ys)) (take_all i xs h)
