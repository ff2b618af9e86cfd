-- Paths as bytes. Assumes nothing.
use Rattle.std.proofs.Common.{◌≡◌, ℕ, zero, suc, ◌*◌, ◌<◌, ◌≤◌, Bool, true, not, ◌&&◌, ltb, leb, List, [], ◌∷◌, ◌++◌, length, take, drop, sym, refl, ap, ◌∙◌, append_assoc, arith, length-append}
use Rattle.std.specs.List.{AllByRecursion}
use Rattle.std.proofs.lemmas.List.{take_at, drop_at}
use Rattle.std.proofs.lemmas.Bool.{and_parts, and_from, lt-ltb, leb-true}
use Rattle.model.specs.Tree.{Path, every, none, name_ok, path_ok}
use Rattle.lent_bytes.specs.Paths.{names_of, path_of, path_bytes, Spells}

names_round : (k : ℕ) (p : Path) → length (path_bytes p) ≤ k → names_of k (path_bytes p) ≡ p
unfolding names_of path_bytes
names_round zero [] h = refl
names_round zero (n ∷ ns) h = absurd (omega arith)
names_round (suc k) [] h = refl
names_round (suc k) (n ∷ ns) h =
    let long = length-append n (path_bytes ns) in
    let first = take_at n (path_bytes ns) (length n) refl in
    let rest = ap (names_of k) (drop_at n (path_bytes ns) (length n) refl) ∙ names_round k ns (omega arith) in
    λ i. first i ∷ rest i

-- bytes of a path spell it
pub path_round : (p : Path) → path_of (path_bytes p) ≡ p
unfolding path_of
path_round p = names_round (length (path_bytes p)) p (omega arith)

pub path_is : (bs : List ℕ) (p : Path) → bs ≡ path_bytes p → path_of bs ≡ p
path_is bs p e = ap path_of e ∙ path_round p

pub spells_is : (bs : List ℕ) (p : Path) → bs ≡ path_bytes p → Spells bs
spells_is bs p e = ap path_bytes (path_is bs p e) ∙ sym e

pub bytes_append : (p q : Path) → path_bytes (p ++ q) ≡ path_bytes p ++ path_bytes q
unfolding path_bytes
bytes_append [] q = refl
bytes_append (n ∷ ns) q = ap (λ l. length n ∷ l) (ap (λ l. n ++ l) (bytes_append ns q) ∙ sym (append_assoc n (path_bytes ns) (path_bytes q)))

-- names in front are the same names
pub names_front : (ns p : Path) (rest : List ℕ) → path_bytes p ≡ path_bytes ns ++ rest → (q : Path) × (p ≡ ns ++ q) × (rest ≡ path_bytes q)
unfolding path_bytes
names_front [] p rest e = (p, refl, sym e)
names_front (n ∷ ns) [] rest e = absurd (let z : ◌≡◌ {A = ℕ} 0 1 = cc in omega arith)
names_front (n ∷ ns) (m ∷ ms) rest e =
    let long : length m ≡ length n = cc in
    let tails : m ++ path_bytes ms ≡ (n ++ path_bytes ns) ++ rest = cc in
    let both : m ++ path_bytes ms ≡ n ++ (path_bytes ns ++ rest) = tails ∙ append_assoc n (path_bytes ns) rest in
    let same : m ≡ n = sym (take_at m (path_bytes ms) (length n) long) ∙ ap (take (length n)) both ∙ take_at n (path_bytes ns ++ rest) (length n) refl in
    let more : path_bytes ms ≡ path_bytes ns ++ rest = sym (drop_at m (path_bytes ms) (length n) long) ∙ ap (drop (length n)) both ∙ drop_at n (path_bytes ns ++ rest) (length n) refl in
    let found = names_front ns ms rest more in
    (found.0, (λ i. same i ∷ found.1 i), found.2)

pub every_all : (xs : List ℕ) → AllByRecursion (λ b. b < 256) xs → every (λ (b : ℕ). ltb b 256) xs ≡ true
unfolding every
every_all [] h = refl
every_all (x ∷ xs) h = and_from (ltb x 256) (every (λ (b : ℕ). ltb b 256) xs) (lt-ltb x 256 h.0) (every_all xs h.1)

module _ {A : Type 0} (f : A → Bool) where
  pub every_push : (xs : List A) (x : A) → every f xs ≡ true → f x ≡ true → every f (xs ++ x ∷ []) ≡ true
  unfolding every
  every_push [] x h k = and_from (f x) true k refl
  every_push (y ∷ xs) x h k = let both = and_parts (f y) (every f xs) h in and_from (f y) (every f (xs ++ x ∷ [])) both.0 (every_push xs x both.1 k)

  pub every_at : (xs : List A) (x : A) (ys : List A) → every f (xs ++ x ∷ ys) ≡ true → f x ≡ true
  unfolding every
  every_at [] x ys h = (and_parts (f x) (every f ys) h).0
  every_at (y ∷ xs) x ys h = every_at xs x ys (and_parts (f y) (every f (xs ++ x ∷ ys)) h).1

names_long : (p : Path) → every name_ok p ≡ true → length (path_bytes p) ≤ 65 * length p
unfolding every path_bytes
names_long [] h = omega arith
names_long (n ∷ ns) h =
    let both = and_parts (name_ok n) (every name_ok ns) h in
    let outer = and_parts (ltb 0 (length n) && leb (length n) 64) (every (λ (b : ℕ). ltb b 256) n) both.0 in
    let few = leb-true (length n) 64 (and_parts (ltb 0 (length n)) (leb (length n) 64) outer.0).1 in
    omega (arith, names_long ns both.1, length-append n (path_bytes ns))

-- how many bytes a path in range takes at most
pub path_long : (p : Path) → path_ok p ≡ true → length (path_bytes p) ≤ 1040
path_long p h =
    let outer = and_parts (not (none p) && leb (length p) 16) (every name_ok p) h in
    let few = leb-true (length p) 16 (and_parts (not (none p)) (leb (length p) 16) outer.0).1 in
    omega (arith, names_long p outer.1)
