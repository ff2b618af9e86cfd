-- What bytes are read as is written as those bytes again: each reader takes just what its writer writes. So one run of bytes has one meaning, and parts of a call can stand for its paths. Assumes nothing.
use Rattle.std.proofs.Common.{◌≡◌, ℕ, zero, suc, ◌-◌, Bool, true, false, cond, leb, List, [], ◌∷◌, ◌++◌, length, take, drop, Some, None, Option, sym, refl, ap, ◌∙◌, subst, append_assoc, arith, length-append}
use Rattle.std.proofs.lemmas.List.{take-append-drop, length-take-le, take_at, drop_at}
use Rattle.std.proofs.lemmas.Bool.{leb-true}
use Rattle.model.specs.Tree.{Name, Path}
use Rattle.lent_bytes.specs.Paths.{name_bytes, path_bytes}
use Rattle.calls.specs.Format.{and_then, byte_at, part_at, name_at, names_at, many_at, many_written}
use Rattle.calls.specs.Reading.{past, rest}

-- a pair that was read, part by part
pub some_parts : {A B : Type 0} (a c : A) (b d : B) → ◌≡◌ {A = Option (A × B)} (Some (a, b)) (Some (c, d)) → (a ≡ c) × (b ≡ d)
some_parts {A} {B} a c b d e = let p : ◌≡◌ {A = A × B} (a, b) (c, d) = cc in (ap (λ (r : A × B). r.0) p, ap (λ (r : A × B). r.1) p)

-- what was read in two steps
pub then_some : {A B : Type 0} (o : Option A) (g : A → Option B) (z : B) → and_then o g ≡ Some z → (x : A) × (o ≡ Some x) × (g x ≡ Some z)
then_some None g z e = absurd (let u : ◌≡◌ {A = ℕ} 0 1 = cc in omega arith)
then_some (Some x) g z e = (x, refl, e)

pub byte_back : (xs : List ℕ) (b : ℕ) (ys : List ℕ) → byte_at xs ≡ Some (b, ys) → xs ≡ b ∷ ys
byte_back [] b ys e = absurd (let z : ◌≡◌ {A = ℕ} 0 1 = cc in omega arith)
byte_back (x ∷ xs) b ys e = let p = some_parts x b xs ys e in λ i. p.0 i ∷ p.1 i

pub part_back : (n : ℕ) (xs p ys : List ℕ) → part_at n xs ≡ Some (p, ys) → (xs ≡ p ++ ys) × (length p ≡ n)
part_back n xs p ys e = go (leb n (length xs)) refl e
  where
    go : (t : Bool) → leb n (length xs) ≡ t → cond {A = Option (List ℕ × List ℕ)} t (Some (take n xs, drop n xs)) None ≡ Some (p, ys) → (xs ≡ p ++ ys) × (length p ≡ n)
    go true l h =
        let q = some_parts (take n xs) p (drop n xs) ys h in
        let le = leb-true n (length xs) l in
        (sym (take-append-drop n xs) ∙ (λ i. q.0 i ++ q.1 i), ap length (sym q.0) ∙ length-take-le n xs le)
    go false l h = absurd (let z : ◌≡◌ {A = ℕ} 0 1 = cc in omega arith)

pub name_back : (xs : List ℕ) (n : Name) (ys : List ℕ) → name_at xs ≡ Some (n, ys) → xs ≡ name_bytes n ++ ys
name_back xs n ys e =
    let b = then_some (byte_at xs) (λ k. part_at k.0 k.1) (n, ys) e in
    let p = part_back b.0.0 b.0.1 n ys b.2 in
    byte_back xs b.0.0 b.0.1 b.1 ∙ (λ i. sym p.1 i ∷ p.0 i)

-- P: what is known of the bytes, and then of those behind what was read
module _ {A : Type 0} (f : List ℕ → Option (A × List ℕ)) (w : A → List ℕ) (P : List ℕ → Type 0) (behind : (xs ys : List ℕ) → P (xs ++ ys) → P ys) (one : (xs : List ℕ) (x : A) (ys : List ℕ) → P xs → f xs ≡ Some (x, ys) → xs ≡ w x ++ ys) where
  pub many_back : (k : ℕ) (xs : List ℕ) (as' : List A) (ys : List ℕ) → P xs → many_at f k xs ≡ Some (as', ys) → (xs ≡ many_written w as' ++ ys) × (length as' ≡ k)
  unfolding many_at many_written
  many_back zero xs as' ys small e = let p = some_parts [] as' xs ys e in (p.1 ∙ ap (λ (l : List A). many_written w l ++ ys) p.0, ap length (sym p.0))
  many_back (suc k) xs as' ys small e =
      let r = then_some (f xs) (λ r. and_then (many_at f k r.1) (λ q. Some (r.0 ∷ q.0, q.1))) (as', ys) e in
      let q = then_some (many_at f k r.0.1) (λ q. Some (r.0.0 ∷ q.0, q.1)) (as', ys) r.2 in
      let p = some_parts (r.0.0 ∷ q.0.0) as' q.0.1 ys q.2 in
      let first = one xs r.0.0 r.0.1 small r.1 in
      let more = many_back k r.0.1 q.0.0 q.0.1 (behind (w r.0.0) r.0.1 (subst P first small)) q.1 in (
        first ∙ ap (λ (l : List ℕ). w r.0.0 ++ l) more.0 ∙ sym (append_assoc (w r.0.0) (many_written w q.0.0) q.0.1) ∙ (λ i. many_written w (p.0 i) ++ p.1 i),
        ap length (sym p.0) ∙ ap suc more.1,
      )

pub path_many : (p : Path) → many_written name_bytes p ≡ path_bytes p
unfolding path_bytes many_written
path_many [] = refl
path_many (n ∷ ns) = ap (λ (l : List ℕ). name_bytes n ++ l) (path_many ns)

-- names that were read are those bytes, and just so many
pub names_back : (k : ℕ) (xs : List ℕ) (p : Path) (ys : List ℕ) → names_at k xs ≡ Some (p, ys) → (xs ≡ path_bytes p ++ ys) × (length p ≡ k)
names_back k xs p ys e = let m = many_back name_at name_bytes (λ zs. Unit {0}) (λ as' bs u. u) (λ zs n bs u. name_back zs n bs) k xs p ys tt e in (m.0 ∙ ap (λ (l : List ℕ). l ++ ys) (path_many p), m.1)

-- what is behind names tells where they end
pub names_part : (k : ℕ) (xs ys : List ℕ) → past name_at k xs ≡ Some ys → (p : Path) × (names_at k xs ≡ Some (p, ys)) × (xs ≡ path_bytes p ++ ys)
names_part k xs ys e = go (names_at k xs) refl e
  where
    go : (o : Option (Path × List ℕ)) → names_at k xs ≡ o → rest o ≡ Some ys → (p : Path) × (names_at k xs ≡ Some (p, ys)) × (xs ≡ path_bytes p ++ ys)
    go None h r = absurd (let z : ◌≡◌ {A = ℕ} 0 1 = cc in omega arith)
    go (Some q) h r =
        let s : q.1 ≡ ys = cc in
        let is : names_at k xs ≡ Some (q.0, ys) = h ∙ (λ i. Some (q.0, s i)) in
        (q.0, is, (names_back k xs q.0 ys is).0)

-- where a thing with so many bytes is in front, cutting before what is behind gives both
pub cut_before : (xs front ys : List ℕ) → xs ≡ front ++ ys → (take (length xs - length ys) xs ≡ front) × (drop (length xs - length ys) xs ≡ ys)
cut_before xs front ys e =
    let n : length front ≡ length xs - length ys = omega (arith, ap length e, length-append front ys) in
    (ap (take (length xs - length ys)) e ∙ take_at front ys (length xs - length ys) n, ap (drop (length xs - length ys)) e ∙ drop_at front ys (length xs - length ys) n)
