-- Spaces end where the first other character stands, and a word where the first stands that ends it.
use Rattle.std.proofs.Common.{◌≡◌, ℕ, Bool, true, false, cond, not, eqb, List, [], ◌∷◌, take, drop, Some, None, refl, sym, ap, ◌∙◌}
use Rattle.std.specs.List.{position, position_or_len}
use Rattle.std.proofs.lemmas.List.{take_all, drop_all}
use Rattle.text.proofs.WordSteps.{found_at, found_none, front_is, back_is}
use Rattle.words.specs.Words.{unspaced, ends, word_of, behind_word}

abbrev pub no_space : ℕ → Bool
no_space c = not (eqb c 32)

abbrev pub ender : ℕ → Bool
ender c = ends false c

unspaced_is : (xs : List ℕ) → drop (position_or_len no_space xs) xs ≡ unspaced xs
unfolding unspaced
unspaced_is = back_is no_space unspaced refl (λ c cs. swapped (eqb c 32) (c ∷ cs) (unspaced cs))
  where
    swapped : (b : Bool) (all rest : List ℕ) → cond b rest all ≡ cond (not b) all rest
    swapped true all rest = refl
    swapped false all rest = refl

word_is : (xs : List ℕ) → take (position_or_len ender xs) xs ≡ word_of xs
unfolding word_of
word_is = front_is ender word_of refl (λ c cs. refl)

behind_is : (xs : List ℕ) → drop (position_or_len ender xs) xs ≡ behind_word xs
unfolding behind_word
behind_is = back_is ender behind_word refl (λ c cs. refl)

pub unspaced_from : (xs : List ℕ) (i : ℕ) → Some i ≡ position no_space xs → drop i xs ≡ unspaced xs
unspaced_from xs i e = ap (λ (n : ℕ). drop n xs) (sym (found_at no_space xs i e)) ∙ unspaced_is xs

pub unspaced_none : (xs : List ℕ) → None ≡ position no_space xs → [] ≡ unspaced xs
unspaced_none xs e = sym (drop_all (position_or_len no_space xs) xs (found_none no_space xs e)) ∙ unspaced_is xs

pub word_cut : (xs : List ℕ) (i : ℕ) → Some i ≡ position ender xs → (take i xs ≡ word_of xs) × (drop i xs ≡ behind_word xs)
word_cut xs i e =
    let at = found_at ender xs i e in (ap (λ (n : ℕ). take n xs) (sym at) ∙ word_is xs, ap (λ (n : ℕ). drop n xs) (sym at) ∙ behind_is xs)

pub word_whole : (xs : List ℕ) → None ≡ position ender xs → (xs ≡ word_of xs) × ([] ≡ behind_word xs)
word_whole xs e =
    let long = found_none ender xs e in (sym (take_all (position_or_len ender xs) xs long) ∙ word_is xs, sym (drop_all (position_or_len ender xs) xs long) ∙ behind_is xs)
