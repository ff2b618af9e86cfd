-- A test of every element of a list of at most 255: what the code tests, and what it knows where the test is passed.
use Rattle.std.proofs.Common.{◌≡◌, ℕ, ◌≤◌, Bool, true, ◌&&◌, leb, List, [], ◌∷◌, map, length, sym, refl, ap, ◌∙◌, arith}
use Rattle.std.specs.List.{list_all}
use Rattle.std.proofs.lemmas.List.{length-map}
use Rattle.std.proofs.lemmas.Bool.{and_parts, le-leb, leb-true}
use Rattle.model.specs.Tree.{every}

module _ {A B : Type 0} (of : A → B) (f : B → Bool) where
  every_is_all : (xs : List A) → every f (map of xs) ≡ list_all (λ x. f (of x)) xs
  unfolding every
  every_is_all [] = refl
  every_is_all (x ∷ xs) = ap (λ b. f (of x) && b) (every_is_all xs)

  -- at most 255, and each passes
  pub few_pass : (xs : List A) (n : ℕ) (r : Bool) → n ≡ length xs → n ≤ 255 → r ≡ list_all (λ x. f (of x)) xs → r ≡ (leb (length (map of xs)) 255 && every f (map of xs))
  few_pass xs n r e h t =
      let few : leb (length (map of xs)) 255 ≡ true = le-leb (length (map of xs)) 255 (omega (arith, length-map xs of)) in rw few (t ∙ sym (every_is_all xs))

  pub few_are : (xs : List A) (n : ℕ) → n ≡ length xs → (leb (length (map of xs)) 255 && every f (map of xs)) ≡ true → n ≤ 255
  few_are xs n e t = omega (arith, length-map xs of, leb-true (length (map of xs)) 255 (and_parts (leb (length (map of xs)) 255) (every f (map of xs)) t).0)

  pub all_pass : (xs : List A) → (leb (length (map of xs)) 255 && every f (map of xs)) ≡ true → list_all (λ x. f (of x)) xs ≡ true
  all_pass xs t = sym (every_is_all xs) ∙ (and_parts (leb (length (map of xs)) 255) (every f (map of xs)) t).1
