-- A walk over the names of a path. Assumes nothing.
use Rattle.std.proofs.Common.{◌≡◌, ℕ, suc, ◌+◌, ◌-◌, ◌<◌, ◌≤◌, true, false, not, ◌&&◌, ltb, leb, List, [], ◌∷◌, ◌++◌, length, get_or, take, drop, Decides, sym, refl, ap, ◌∙◌, append_assoc, append-nil, arith, length-append, length-drop}
use Rattle.std.specs.List.{AllByRecursion, between}
use Rattle.std.proofs.lemmas.List.{take_at, take_all, drop_more, length-take-le, take-append-drop, length_push}
use Rattle.std.proofs.ByRecursion.{All-take, All-drop}
use Rattle.std.proofs.lemmas.List.Edits.{split_between, length-between}
use Rattle.std.proofs.lemmas.Bool.{and_parts, and_from, lt-ltb, le-leb, ltb-true, leb-true, false≢true}
use Rattle.model.specs.Tree.{Path, every, none, name_ok, path_ok}
use Rattle.lent_bytes.specs.Paths.{path_of, path_bytes, Spells}
use Rattle.lent_bytes.proofs.PathBytes.{path_is, spells_is, bytes_append, names_front, every_all, every_push, every_at}

pub take_on : {A : Type 0} (xs : List A) (i j : ℕ) → i ≤ j → j ≤ length xs → take j xs ≡ take i xs ++ between i j xs
take_on xs i j h l =
    let a = length-append (take i xs) (between i j xs) in
    let b = length-take-le i xs (omega arith) in
    let d = length-between xs i j l in
    ap (take j) (split_between xs i j h ∙ sym (append_assoc (take i xs) (between i j xs) (drop j xs))) ∙ take_at (take i xs ++ between i j xs) (drop j xs) j (omega arith)

-- the first bytes are those of so many names
pub record Fronts (path : List ℕ) (at count : ℕ) : Type 0 where
  pub names : Path
  pub front : take at path ≡ path_bytes names
  pub many : length names ≡ count
  pub fine : every name_ok names ≡ true
  pub inside : at ≤ length path
  pub few : count ≤ 16

pub refused : {P : Type 0} → (P → ⊥) → Decides false P
refused n = (λ e. absurd (false≢true e), λ p. absurd (n p))

not_none : (p : Path) → 0 < length p → not (none p) ≡ true
unfolding none
not_none [] h = absurd (omega arith)
not_none (n ∷ ns) h = refl

some_names : (p : Path) → not (none p) ≡ true → 0 < length p
unfolding none
some_names [] h = absurd (let z : ◌≡◌ {A = ℕ} 0 1 = cc in omega arith)
some_names (n ∷ ns) h = omega arith

pub fronts_none : (path : List ℕ) → Fronts path 0 0
unfolding path_bytes every
fronts_none path = record { names = []; front = refl; many = refl; fine = refl; inside = omega arith; few = omega arith }

module _ (path : List ℕ) (at count : ℕ) (f : Fronts path at count) where
  pub fronts_more : AllByRecursion (λ b. b < 256) path → (n : ℕ) → n ≡ get_or path at 0 → 0 < n → n ≤ 64 → n < length path - at → count < 16 → Fronts path (at + (1 + n)) (count + 1)
  unfolding path_bytes
  fronts_more small n is some small64 fits room =
      let name = take n (drop (at + 1) path) in
      let left = length-drop (at + 1) path in
      let long : length name ≡ n = length-take-le n (drop (at + 1) path) (omega arith) in
      let span : at + (1 + n) - at ≡ suc n = omega arith in
      let part : between at (at + (1 + n)) path ≡ n ∷ name = ap (λ k. take k (drop at path)) span ∙ ap (take (suc n)) (drop_more path at 0 (omega arith)) ∙ ap (λ x. x ∷ name) (sym is) in
      record {
        names = f.names ++ name ∷ [];
        front =
            take_on path at (at + (1 + n)) (omega arith) (omega arith) ∙ (λ i. f.front i ++ part i) ∙
            ap (λ l. path_bytes f.names ++ l) (sym (λ i. long i ∷ append-nil name i)) ∙ sym (bytes_append f.names (name ∷ []));
        many = length_push f.names name ∙ ap (λ k. k + 1) f.many;
        fine = every_push name_ok f.names name f.fine
            (and_from (ltb 0 (length name) && leb (length name) 64) (every (λ (b : ℕ). ltb b 256) name)
            (and_from (ltb 0 (length name)) (leb (length name) 64) (lt-ltb 0 (length name) (omega arith)) (le-leb (length name) 64 (omega arith)))
            (every_all name (All-take (λ b. b < 256) n (drop (at + 1) path) (All-drop (λ b. b < 256) (at + 1) path small))));
        inside = omega arith;
        few = omega arith;
      }

  module _ (sp : Spells path) (ok : path_ok (path_of path) ≡ true) where
    parts : (not (none (path_of path)) ≡ true) × (leb (length (path_of path)) 16 ≡ true) × (every name_ok (path_of path) ≡ true)
    parts =
        let outer = and_parts (not (none (path_of path)) && leb (length (path_of path)) 16) (every name_ok (path_of path)) ok in
        let inner = and_parts (not (none (path_of path))) (leb (length (path_of path)) 16) outer.0 in
        (inner.0, inner.1, outer.1)

    goes_on : (q : Path) → at < length path → path_of path ≡ f.names ++ q → drop at path ≡ path_bytes q → (0 < get_or path at 0) × (get_or path at 0 ≤ 64) × (get_or path at 0 < length path - at) × (count < 16)
    unfolding path_bytes
    goes_on [] l is rest = let long = length-drop at path in let z = ap length rest in absurd (omega arith)
    goes_on (m ∷ ms) l is rest =
        let long = length-drop at path in
        let z = ap length rest in
        let w = length-append m (path_bytes ms) in
        let head = drop_more path at 0 l in
        let n : get_or path at 0 ≡ length m = cc in
        let fine = every_at name_ok f.names m ms (ap (every name_ok) (sym is) ∙ parts.2) in
        let outer = and_parts (ltb 0 (length m) && leb (length m) 64) (every (λ (b : ℕ). ltb b 256) m) fine in
        let inner = and_parts (ltb 0 (length m)) (leb (length m) 64) outer.0 in
        let low = ltb-true 0 (length m) inner.0 in
        let high = leb-true (length m) 64 inner.1 in
        let few = leb-true (length (path_of path)) 16 parts.1 in
        let all = ap length is ∙ length-append f.names (m ∷ ms) in
        let many = f.many in
        (omega arith, omega arith, omega arith, omega arith)

    -- a path that is in range goes on with a name that is
    pub fronts_next : at < length path → (0 < get_or path at 0) × (get_or path at 0 ≤ 64) × (get_or path at 0 < length path - at) × (count < 16)
    fronts_next l =
        let found = names_front f.names (path_of path) (drop at path) (sp ∙ sym (take-append-drop at path) ∙ ap (λ l. l ++ drop at path) f.front) in
        goes_on found.0 l found.1 found.2

  whole : length path ≤ at → path ≡ path_bytes f.names
  whole l = sym (take_all at path l) ∙ f.front

  pub fronts_end : length path ≤ at → Decides (ltb 0 count) (Spells path × (path_ok (path_of path) ≡ true))
  fronts_end l = (
    λ some.
        let is = path_is path f.names (whole l) in (
          spells_is path f.names (whole l),
          ap path_ok is ∙
              and_from (not (none f.names) && leb (length f.names) 16) (every name_ok f.names)
              (and_from (not (none f.names)) (leb (length f.names) 16) (not_none f.names (omega (arith, ltb-true 0 count some, f.many))) (le-leb (length f.names) 16 (omega (arith, f.many, f.few)))) f.fine,
        ),
    λ both.
        let is = path_is path f.names (whole l) in
        lt-ltb 0 count (omega (arith, f.many, some_names f.names (ap (λ (p : Path). not (none p)) (sym is) ∙ (parts both.0 both.1).0))),
  )
