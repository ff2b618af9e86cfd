-- What is written of characters, names, paths, values and numbers reads back, whatever follows that ends them.
use Rattle.std.proofs.Common.{◌≡◌, ℕ, zero, suc, ◌+◌, ◌*◌, ◌/◌, ◌%◌, ◌<◌, ◌≤◌, Bool, true, false, ◌||◌, eqb, List, [], ◌∷◌, ◌++◌, length, Some, Option, sym, refl, ap, ◌∙◌, subst, append_assoc, arith}
use Rattle.std.specs.List.{AllByRecursion}
use Rattle.std.proofs.lemmas.Bool.Decides.{nat_tests}
use Rattle.std.proofs.lemmas.List.{length-append}
use Rattle.std.proofs.lemmas.Bool.{cond-true, cond-false, cond_both, eqb-true}
use Rattle.model.specs.Tree.{Path}
use Rattle.calls.specs.Format.{and_then}
use Rattle.text.specs.Hex.{hex_digit, hex_value}
use Rattle.text.proofs.Back.{digit_back}
use Rattle.words.specs.Words as words
use Rattle.words.specs.Words.{ends, is_over, char_at, chars_at, hex_pair, many_while, closed, value_at, name_at, no_slash, slash_name, names_at, is_top, path_from, unspaced}
use Rattle.spelling.specs.Spelled.{plain, char_spelled, chars_spelled, many, value_spelled, name_spelled, path_spelled}
use Rattle.readback.specs.ReadsBack.{Bytes, NameFits, PathFits}

backslash : (q : Bool) → ends q 92 ≡ false
backslash true = refl
backslash false = refl

-- one character
module _ (q : Bool) (c : ℕ) (rest : List ℕ) (byte : c < 256) where
  hex_back : hex_pair (hex_value (hex_digit (c / 16))) (hex_value (hex_digit (c % 16))) rest ≡ Some (c, rest)
  hex_back =
      ap (λ (v : Option ℕ). hex_pair v (hex_value (hex_digit (c % 16))) rest) (digit_back (c / 16) (omega arith))
      ∙ (ap (λ (v : Option ℕ). hex_pair (Some (c / 16)) v rest) (digit_back (c % 16) (omega arith))
      ∙ ap (λ (n : ℕ). Some (n, rest)) (let e : 16 * (c / 16) + c % 16 ≡ c = omega arith in e))

  pub char_back : (char_at (char_spelled q c ++ rest) ≡ Some (c, rest)) × (is_over q (char_spelled q c ++ rest) ≡ false)
  char_back =
      cond_both (plain q c) _ _ (λ (w : List ℕ). (char_at (w ++ rest) ≡ Some (c, rest)) × (is_over q (w ++ rest) ≡ false))
      (λ e. (grind (arith, nat_tests), grind (arith, nat_tests)))
      (λ e.
      cond_both (eqb c 34 || eqb c 92) _ _ (λ (w : List ℕ). (char_at (w ++ rest) ≡ Some (c, rest)) × (is_over q (w ++ rest) ≡ false))
      (λ f. (grind (arith, nat_tests), backslash q))
      (λ f.
      cond_both (eqb c 10) _ _ (λ (w : List ℕ). (char_at (w ++ rest) ≡ Some (c, rest)) × (is_over q (w ++ rest) ≡ false))
      (λ g. (ap (λ (n : ℕ). Some (n, rest)) (sym (eqb-true c 10 g)), backslash q))
      (λ g. (hex_back, backslash q))))

-- one behind the other
module _ {A : Type 0} (over : List ℕ → Bool) (one : List ℕ → Option (A × List ℕ)) (spell : A → List ℕ) (Tail : List ℕ → Type 0) (Fits : A → Type 0)
    (goes : (x : A) (t : List ℕ) → Fits x → Tail t → over (spell x ++ t) ≡ false)
    (reads : (x : A) (t : List ℕ) → Fits x → Tail t → one (spell x ++ t) ≡ Some (x, t))
    (keeps : (x : A) (t : List ℕ) → Fits x → Tail t → Tail (spell x ++ t)) where
  tails : (xs : List A) (rest : List ℕ) → AllByRecursion Fits xs → Tail rest → Tail (many spell xs ++ rest)
  unfolding many
  tails [] rest g t = t
  tails (x ∷ xs) rest g t = subst Tail (sym (append_assoc (spell x) (many spell xs) rest)) (keeps x (many spell xs ++ rest) g.0 (tails xs rest g.1 t))

  pub many_back : (xs : List A) (rest : List ℕ) (k : ℕ) → AllByRecursion Fits xs → Tail rest → over rest ≡ true → length xs ≤ k → many_while over one k (many spell xs ++ rest) ≡ Some (xs, rest)
  unfolding many many_while
  many_back [] rest zero g t o h = refl
  many_back [] rest (suc k) g t o h = cond-true (over rest) _ _ o
  many_back (x ∷ xs) rest zero g t o h = absurd (omega arith)
  many_back (x ∷ xs) rest (suc k) g t o h =
      ap (many_while over one (suc k)) (append_assoc (spell x) (many spell xs) rest)
      ∙ (cond-false (over (spell x ++ (many spell xs ++ rest))) _ _ (goes x (many spell xs ++ rest) g.0 (tails xs rest g.1 t))
      ∙ (ap (λ (v : Option (A × List ℕ)). and_then v (λ r. and_then (many_while over one k r.1) (λ s. Some (r.0 ∷ s.0, s.1)))) (reads x (many spell xs ++ rest) g.0 (tails xs rest g.1 t))
      ∙ ap (λ (v : Option (List A × List ℕ)). and_then v (λ s. Some (x ∷ s.0, s.1))) (many_back xs rest k g.1 t o (omega arith))))

pub many_long : {A : Type 0} (spell : A → List ℕ) → ((x : A) → 0 < length (spell x)) → (xs : List A) (rest : List ℕ) → length xs ≤ length (many spell xs ++ rest)
unfolding many
many_long spell some [] rest = omega arith
many_long spell some (x ∷ xs) rest =
    let more = many_long spell some xs rest in
    omega (arith, some x, ap length (append_assoc (spell x) (many spell xs) rest), length-append (spell x) (many spell xs ++ rest))

char_long : (q : Bool) (c : ℕ) → 0 < length (char_spelled q c)
char_long q c =
    cond_both (plain q c) _ _ (λ (w : List ℕ). 0 < length w) (λ e. omega arith)
    (λ e. cond_both (eqb c 34 || eqb c 92) _ _ (λ (w : List ℕ). 0 < length w) (λ f. omega arith) (λ f. cond_both (eqb c 10) _ _ (λ (w : List ℕ). 0 < length w) (λ g. omega arith) (λ g. omega arith)))

pub chars_back : (q : Bool) (cs rest : List ℕ) → Bytes cs → is_over q rest ≡ true → chars_at q (chars_spelled q cs ++ rest) ≡ Some (cs, rest)
chars_back q cs rest b o =
    many_back (is_over q) char_at (char_spelled q) (λ (t : List ℕ). Unit {0}) (λ (c : ℕ). c < 256) (λ c t h u. (char_back q c t h).1) (λ c t h u. (char_back q c t h).0) (λ c t h u. tt) cs rest
    (length (chars_spelled q cs ++ rest))
    b
    tt
    o
    (many_long (char_spelled q) (char_long q) cs rest)

-- a value, with a space in front
pub value_back : (v rest : List ℕ) → Bytes v → value_at (32 ∷ (value_spelled v ++ rest)) ≡ Some (v, rest)
unfolding unspaced
value_back v rest b =
    ap (λ (xs : List ℕ). and_then (chars_at true xs) closed) (append_assoc (chars_spelled true v) (34 ∷ []) rest)
    ∙ ap (λ (o : Option (List ℕ × List ℕ)). and_then o closed) (chars_back true v (34 ∷ rest) b refl)

name_back : (n rest : List ℕ) → NameFits n → is_over false rest ≡ true → name_at (chars_spelled false n ++ rest) ≡ Some (n, rest)
name_back [] rest g o = absurd (omega (arith, g.1))
name_back (c ∷ cs) rest g o = ap (λ (v : Option (List ℕ × List ℕ)). and_then v words.some) (chars_back false (c ∷ cs) rest g.0 o)

names_back : (p : Path) (rest : List ℕ) → PathFits p → is_over false rest ≡ true → no_slash rest ≡ true → names_at (many name_spelled p ++ rest) ≡ Some (p, rest)
names_back p rest g o s =
    many_back no_slash slash_name name_spelled (λ (t : List ℕ). is_over false t ≡ true) NameFits (λ n t h u. refl) (λ n t h u. name_back n t h u) (λ n t h u. refl) p rest
    (length (many name_spelled p ++ rest))
    g
    o
    s
    (many_long name_spelled (λ n. omega arith) p rest)

not_top : (ys : List ℕ) → is_over false ys ≡ false → is_top (47 ∷ ys) ≡ false
not_top [] e = e
not_top (d ∷ ds) e = cond_both (eqb d 47) false (ends false d) (λ (b : Bool). b ≡ false) (λ f. refl) (λ f. e)

top_back : (rest : List ℕ) → is_over false rest ≡ true → no_slash rest ≡ true → is_top (47 ∷ rest) ≡ true
top_back [] o s = refl
top_back (d ∷ ds) o s = grind (arith, nat_tests)

path_from_lem : (p : Path) (rest : List ℕ) → PathFits p → is_over false rest ≡ true → no_slash rest ≡ true → path_from (path_spelled p ++ rest) ≡ Some (p, rest)
unfolding many
path_from_lem [] rest g o s = cond-true (is_top (47 ∷ rest)) _ _ (top_back rest o s)
path_from_lem ([] ∷ ns) rest g o s = absurd (omega (arith, g.0.1))
path_from_lem ((c ∷ cs) ∷ ns) rest g o s =
    let first = char_spelled false c in
    let name = many (char_spelled false) cs in
    let names = many name_spelled ns in
    let regrouped : ((first ++ name) ++ names) ++ rest ≡ first ++ (name ++ (names ++ rest)) = simp append_assoc in
    cond-false (is_top (many name_spelled ((c ∷ cs) ∷ ns) ++ rest)) _ _
    (not_top (((first ++ name) ++ names) ++ rest) (ap (is_over false) regrouped ∙ (char_back false c (name ++ (names ++ rest)) g.0.0.0).1))
    ∙ names_back ((c ∷ cs) ∷ ns) rest g o s

-- a path, with a space in front
pub path_back : (p : Path) (rest : List ℕ) → PathFits p → is_over false rest ≡ true → no_slash rest ≡ true → words.path_at (32 ∷ (path_spelled p ++ rest)) ≡ Some (p, rest)
unfolding unspaced many
path_back [] rest g o s = path_from_lem [] rest g o s
path_back (n ∷ ns) rest g o s = path_from_lem (n ∷ ns) rest g o s
