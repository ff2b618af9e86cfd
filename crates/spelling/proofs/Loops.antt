-- What is spelled one behind the other ends with the last of them; one more is written as the definition says.
use Rattle.std.proofs.Common.{◌≡◌, ℕ, ◌+◌, ◌<◌, List, [], ◌∷◌, ◌++◌, map, length, get_or, take, refl, sym, ap, ◌∙◌, append_assoc}
use Rattle.std.proofs.lemmas.List.{append-nil, take_more}
use Rattle.text.proofs.Loops.{written_more}
use Rattle.spelling.specs.Spelled.{many}

many_push : {A : Type 0} (f : A → List ℕ) (ys : List A) (y : A) → many f (ys ++ (y ∷ [])) ≡ many f ys ++ f y
unfolding many
many_push f [] y = append-nil (f y)
many_push f (x ∷ xs) y = ap (λ (zs : List ℕ). f x ++ zs) (many_push f xs y) ∙ sym (append_assoc (f x) (many f xs) (f y))

pub many_both : {A : Type 0} (f : A → List ℕ) (xs ys : List A) → many f (xs ++ ys) ≡ many f xs ++ many f ys
unfolding many
many_both f [] ys = refl
many_both f (x ∷ xs) ys = ap (λ (zs : List ℕ). f x ++ zs) (many_both f xs ys) ∙ sym (append_assoc (f x) (many f xs) (many f ys))

-- over what the elements stand for
pub many_more : {A B : Type 0} (of : A → B) (f : B → List ℕ) (xs : List A) (i : ℕ) (x : A) → i < length xs → x ≡ get_or xs i x → many f (map of (take i xs)) ++ f (of x) ≡ many f (map of (take (i + 1) xs))
many_more of f xs i x = written_more of (many f) f (many_push f) [] xs i x

-- over the bytes themselves
pub bytes_more : (f : ℕ → List ℕ) (xs : List ℕ) (i : ℕ) → i < length xs → many f (take i xs) ++ f (get_or xs i 0) ≡ many f (take (i + 1) xs)
bytes_more f xs i h = sym (many_push f (take i xs) (get_or xs i 0)) ∙ ap (many f) (sym (take_more xs i 0 h))
