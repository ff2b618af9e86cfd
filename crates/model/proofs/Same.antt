-- The tests of names and paths decide equality; what a path's last name and the path above it are when the last name is changed. Assumes nothing.
use Rattle.std.proofs.Common.{◌≡◌, ℕ, zero, suc, ◌+◌, ◌/◌, ◌%◌, ◌≤◌, Bool, true, not, ◌&&◌, ltb, leb, List, [], ◌∷◌, ◌++◌, length, Decides, refl, ap, ◌∙◌, arith, length-append, rules}
use Rattle.std.proofs.lemmas.Slice.Eq.{compares_Decides}
use Rattle.std.proofs.lemmas.Bool.{and_parts, and_from, le-leb, lt-ltb, ltb-true}
use Rattle.model.specs.Tree.{Name, Path, same_name, same_path, above, last_name, renamed, digits, none, every, name_ok, path_ok}

pub same_name_decides : (a b : Name) → Decides (same_name a b) (a ≡ b)
unfolding same_name
same_name_decides = compares_Decides same_name (search rules)

pub same_path_decides : (p q : Path) → Decides (same_path p q) (p ≡ q)
unfolding same_path
same_path_decides [] [] = (λ e. refl, λ e. refl)
same_path_decides [] (y ∷ ys) = (λ e. search rules, λ e. search rules)
same_path_decides (x ∷ xs) [] = (λ e. search rules, λ e. search rules)
same_path_decides (x ∷ xs) (y ∷ ys) =
    let heads = same_name_decides x y in
    let tails = same_path_decides xs ys in (
      λ e. let both = and_parts (same_name x y) (same_path xs ys) e in let one = heads.0 both.0 in let two = tails.0 both.1 in cc,
      λ e. and_from (same_name x y) (same_path xs ys) (heads.1 (cc)) (tails.1 (cc)),
    )

-- CHANGING THE LAST NAME
pub above_renamed : (p : Path) (n : Name) → above (renamed p n) ≡ above p
unfolding above renamed
above_renamed [] n = refl
above_renamed (m ∷ []) n = refl
above_renamed (m ∷ k ∷ []) n = refl
above_renamed (m ∷ k ∷ l ∷ ls) n = ap (λ (q : Path). m ∷ q) (above_renamed (k ∷ l ∷ ls) n)

none_renamed : (p : Path) (n : Name) → none (renamed p n) ≡ none p
unfolding none renamed
none_renamed [] n = refl
none_renamed (m ∷ []) n = refl
none_renamed (m ∷ k ∷ ks) n = refl

length_renamed : (p : Path) (n : Name) → length (renamed p n) ≡ length p
unfolding renamed
length_renamed [] n = refl
length_renamed (m ∷ []) n = refl
length_renamed (m ∷ k ∷ ks) n = ap suc (length_renamed (k ∷ ks) n)

names_renamed : (p : Path) (n : Name) → every name_ok p ≡ true → name_ok n ≡ true → every name_ok (renamed p n) ≡ true
unfolding every renamed
names_renamed [] n h k = refl
names_renamed (m ∷ []) n h k = and_from (name_ok n) true k refl
names_renamed (m ∷ l ∷ ls) n h k = let both = and_parts (name_ok m) (every name_ok (l ∷ ls)) h in and_from (name_ok m) (every name_ok (renamed (l ∷ ls) n)) both.0 (names_renamed (l ∷ ls) n both.1 k)

last_ok : (p : Path) → not (none p) ≡ true → every name_ok p ≡ true → name_ok (last_name p) ≡ true
unfolding none every last_name
last_ok [] h k = absurd (let z : ◌≡◌ {A = ℕ} 0 1 = cc in omega arith)
last_ok (m ∷ []) h k = (and_parts (name_ok m) true k).0
last_ok (m ∷ l ∷ ls) h k = last_ok (l ∷ ls) refl (and_parts (name_ok m) (every name_ok (l ∷ ls)) k).1

abbrev byte : ℕ → Bool
byte b = ltb b 256

every_append : (xs ys : List ℕ) → every byte xs ≡ true → every byte ys ≡ true → every byte (xs ++ ys) ≡ true
unfolding every
every_append [] ys h k = k
every_append (x ∷ xs) ys h k = let both = and_parts (byte x) (every byte xs) h in and_from (byte x) (every byte (xs ++ ys)) both.0 (every_append xs ys both.1 k)

-- ten digits are ten bytes
digits_bytes : (k n : ℕ) → every byte (digits k n) ≡ true
unfolding every digits
digits_bytes zero n = refl
digits_bytes (suc k) n = every_append (digits k (n / 10)) ((48 + n % 10) ∷ []) (digits_bytes k (n / 10)) (and_from (byte (48 + n % 10)) true (lt-ltb (48 + n % 10) 256 (omega arith)) refl)

pub digits_long : (k n : ℕ) → length (digits k n) ≡ k
unfolding digits
digits_long zero n = refl
digits_long (suc k) n = length-append (digits k (n / 10)) ((48 + n % 10) ∷ []) ∙ omega (arith, digits_long k (n / 10))

-- a path whose last name leaves place for ten digits is in range with them
pub numbered_ok : (p : Path) (c : ℕ) → path_ok p ≡ true → length (last_name p) ≤ 54 → path_ok (renamed p (last_name p ++ digits 10 c)) ≡ true
numbered_ok p c h short =
    let outer = and_parts (not (none p) && leb (length p) 16) (every name_ok p) h in
    let inner = and_parts (not (none p)) (leb (length p) 16) outer.0 in
    let n = last_name p ++ digits 10 c in
    let last = last_ok p inner.0 outer.1 in
    let lo = and_parts (ltb 0 (length (last_name p)) && leb (length (last_name p)) 64) (every byte (last_name p)) last in
    let long = length-append (last_name p) (digits 10 c) in
    let ten = digits_long 10 c in
    let low = ltb-true 0 (length (last_name p)) (and_parts (ltb 0 (length (last_name p))) (leb (length (last_name p)) 64) lo.0).0 in
    let ok : name_ok n ≡ true =
    and_from (ltb 0 (length n) && leb (length n) 64) (every byte n)
    (and_from (ltb 0 (length n)) (leb (length n) 64) (lt-ltb 0 (length n) (omega arith)) (le-leb (length n) 64 (omega arith)))
    (every_append (last_name p) (digits 10 c) lo.1 (digits_bytes 10 c)) in
    and_from (not (none (renamed p n)) && leb (length (renamed p n)) 16) (every name_ok (renamed p n))
    (and_from (not (none (renamed p n))) (leb (length (renamed p n)) 16) (ap not (none_renamed p n) ∙ inner.0) (ap (λ (k : ℕ). leb k 16) (length_renamed p n) ∙ inner.1)) (names_renamed p n outer.1 ok)

pub path_some : (p : Path) → path_ok p ≡ true → not (none p) ≡ true
path_some p h = (and_parts (not (none p)) (leb (length p) 16) (and_parts (not (none p) && leb (length p) 16) (every name_ok p) h).0).0
