-- Where a cell ends: bytes begin with at most one. Assumes nothing.
use Rattle.std.proofs.Common.{◌≡◌, ℕ, ◌+◌, ◌≤◌, true, List, length, take, drop, sym, ap, ◌∙◌, subst, arith}
use Rattle.std.specs.List.{between}
use Rattle.std.proofs.lemmas.List.{take-take, length-take-le}
use Rattle.std.proofs.lemmas.Slice.{between_is}
use Rattle.model.specs.Tree.{path_ok}
use Rattle.lent_bytes.specs.Numbers.{be32}
use Rattle.lent_bytes.specs.Paths.{path_of, Spells}
use Rattle.lent_bytes.proofs.Places.{be32_take}
use Rattle.cells.specs.Layout.{path_part, Formed}

between-take : (k : ℕ) (bs : List ℕ) (o e : ℕ) → e ≤ k → between o e (take k bs) ≡ between o e bs
between-take k bs o e h = between_is (take k bs) o e ∙ ap (drop o) (take-take e k bs h) ∙ sym (between_is bs o e)

part_take : (k : ℕ) (bs : List ℕ) → 48 + be32 bs 4 ≤ k → path_part (take k bs) ≡ between 48 (48 + be32 bs 4) bs
part_take k bs h = ap (λ n. between 48 (48 + n) (take k bs)) (be32_take k bs 4 (omega arith)) ∙ between-take k bs 48 (48 + be32 bs 4) h

-- the first bytes are a cell
pub record Cell (bs : List ℕ) : Type 0 where
  pub fits : 48 + be32 bs 4 + be32 bs 0 ≤ length bs
  pub short : be32 bs 0 ≤ 65536
  pub spells : Spells (between 48 (48 + be32 bs 4) bs)
  pub names : path_ok (path_of (between 48 (48 + be32 bs 4) bs)) ≡ true

pub formed : (bs : List ℕ) → Cell bs → Formed (take (48 + be32 bs 4 + be32 bs 0) bs)
formed bs c =
    let k = 48 + be32 bs 4 + be32 bs 0 in
    let part = part_take k bs (omega arith) in
    let a = be32_take k bs 4 (omega arith) in
    let b = be32_take k bs 0 (omega arith) in
    record { long = length-take-le k bs c.fits ∙ omega arith; short = omega (arith, c.short); spells = subst Spells (sym part) c.spells; names = ap (λ p. path_ok (path_of p)) part ∙ c.names }

-- and no others are
pub only : (bs : List ℕ) (k : ℕ) → k ≤ length bs → Formed (take k bs) → (k ≡ 48 + be32 bs 4 + be32 bs 0) × Cell bs
only bs k h f =
    let long : k ≡ 48 + be32 (take k bs) 4 + be32 (take k bs) 0 = sym (length-take-le k bs h) ∙ f.long in
    let a = be32_take k bs 4 (omega arith) in
    let b = be32_take k bs 0 (omega arith) in
    let is : k ≡ 48 + be32 bs 4 + be32 bs 0 = omega arith in
    let part = part_take k bs (omega arith) in
    (is, record { fits = omega arith; short = omega (arith, f.short); spells = subst Spells part f.spells; names = ap (λ p. path_ok (path_of p)) (sym part) ∙ f.names })

-- the same, of numbers that were read
abbrev pub Named : List ℕ → ℕ → Type 0
Named bs n = Spells (between 48 (48 + n) bs) × (path_ok (path_of (between 48 (48 + n) bs)) ≡ true)

pub formed_at : (bs : List ℕ) (n m : ℕ) → n ≡ be32 bs 4 → m ≡ be32 bs 0 → m ≤ 65536 → 48 + n + m ≤ length bs → Named bs n → Formed (take (48 + n + m) bs)
formed_at bs n m e f few l d =
    let d' : Named bs (be32 bs 4) = subst (Named bs) e d in
    let k : 48 + be32 bs 4 + be32 bs 0 ≡ 48 + n + m = omega arith in
    subst (λ (x : ℕ). Formed (take x bs)) k (formed bs (record { fits = omega arith; short = omega arith; spells = d'.0; names = d'.1 }))

pub named_at : (bs : List ℕ) (n k : ℕ) → n ≡ be32 bs 4 → k ≤ length bs → Formed (take k bs) → Named bs n
named_at bs n k e l f = let c = (only bs k l f).1 in subst (Named bs) (sym e) (c.spells, c.names)
