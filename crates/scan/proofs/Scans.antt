-- A walk over the cells of bytes finds the only places that hold them. Assumes nothing.
use Rattle.std.proofs.Common.{◌≡◌, ℕ, ◌+◌, ◌-◌, ◌<◌, ◌≤◌, List, [], ◌∷◌, ◌++◌, length, get_or, take, drop, set, sym, ap, ◌∙◌, subst, ⊎_elim, arith, length-drop, length-set}
use Rattle.std.specs.List.{between}
use Rattle.std.proofs.lemmas.List.{take_rest, take_all, take_more_set, length-take-le}
use Rattle.std.proofs.lemmas.List.Edits.{length-between}
use Rattle.std.proofs.lemmas.Bool.{cases_lt}
use Rattle.lent_bytes.proofs.Places.{be32_take}
use Rattle.cells.specs.Layout.{begins_at, Formed, Holds}
use Rattle.cells.proofs.Cells.{get_or_cut, good_at}
use Rattle.scan.proofs.Ends.{only}
use Rattle.cells.proofs.Pushes.{holds_push, holds_none, last_place}
use Rattle.lent_bytes.proofs.Walks.{take_on}

-- what is left behind a place, as code has it
abbrev pub rest_of : List ℕ → ℕ → List ℕ
rest_of bytes at = take (length bytes - at) (drop at bytes)

pub record Walk (bytes : List ℕ) (at count : ℕ) (ps : List ℕ) : Type 0 where
  pub holds : Holds (take at bytes) (take (count + 1) ps)
  pub inside : at ≤ length bytes
  pub room : count + 1 ≤ length ps
  pub agrees : (qs : List ℕ) → Holds bytes qs → (count < length qs) × (get_or qs count 0 ≡ at)

pub walk_none : (bytes ps : List ℕ) (from : ℕ) → from ≤ length bytes → from ≡ begins_at bytes → 0 < length ps → Walk bytes from 0 (set ps 0 from)
walk_none bytes ps from l b s =
    let long = length-take-le from bytes l in
    let same = be32_take from bytes 24 (omega arith) in
    let places : take 1 (set ps 0 from) ≡ from ∷ [] = take_more_set ps 0 from s in
    record {
      holds = subst (Holds (take from bytes)) (ap (λ x. x ∷ []) long ∙ sym places) (holds_none (take from bytes) (omega arith));
      inside = l;
      room = rw length-set (omega arith);
      agrees = λ qs h. (h.some, h.begins ∙ sym b);
    }

module _ (bytes ps : List ℕ) (at count : ℕ) (w : Walk bytes at count ps) where
  module _ (l : at < length bytes) (qs : List ℕ) (h : Holds bytes qs) where
    pub goes_on : count + 1 < length qs
    goes_on =
        let was = w.agrees qs h in
        ⊎_elim (λ lt. lt)
        (λ ge. let last : count ≡ length qs - 1 = omega (arith, was.0) in absurd (omega (arith, ap (λ i. get_or qs i 0) last, sym (last_place qs) ∙ h.ends, was.1)))
        (cases_lt (count + 1) (length qs))

    -- the cell that is there
    pub there : (k : ℕ) × (k ≤ length (rest_of bytes at)) × (at + k ≡ get_or qs (count + 1) 0) × Formed (take k (rest_of bytes at))
    there =
        let was = w.agrees qs h in
        let cell = subst Formed (get_or_cut bytes qs count goes_on) (good_at bytes qs count goes_on h) in
        let here = subst (λ (o : ℕ). Formed (between o (get_or qs (count + 1) 0) bytes)) was.1 cell in
        let up = h.rises count goes_on in
        let far = h.within (count + 1) goes_on in
        let rest = take_rest bytes at in
        let long = ap length rest ∙ length-drop at bytes in
        (get_or qs (count + 1) 0 - at, omega arith, omega (arith, was.1), subst (λ (r : List ℕ). Formed (take (get_or qs (count + 1) 0 - at) r)) (sym rest) here)

  -- one cell on
  pub walk_more : at < length bytes → (n : ℕ) → n ≤ length (rest_of bytes at) → Formed (take n (rest_of bytes at)) → count + 1 < length ps → Walk bytes (at + n) (count + 1) (set ps (count + 1) (at + n))
  walk_more l n fits f room =
      let rest = take_rest bytes at in
      let long = ap length rest ∙ length-drop at bytes in
      let m = take at bytes in
      let size = length-take-le at bytes w.inside in
      let span : at + n - at ≡ n = omega arith in
      let cell : between at (at + n) bytes ≡ take n (rest_of bytes at) = (λ i. take (span i) (sym rest i)) in
      let formed = subst Formed (sym cell) f in
      let more = length-between bytes at (at + n) (omega arith) in
      let end : length m + length (between at (at + n) bytes) ≡ at + n = omega arith in
      let places : take (count + 1 + 1) (set ps (count + 1) (at + n)) ≡ take (count + 1) ps ++ (length m + length (between at (at + n) bytes)) ∷ [] =
      take_more_set ps (count + 1) (at + n) room ∙ ap (λ x. take (count + 1) ps ++ x ∷ []) (sym end) in
      record {
        holds = subst (λ (b : List ℕ). Holds b (take (count + 1 + 1) (set ps (count + 1) (at + n)))) (sym (take_on bytes at (at + n) (omega arith) (omega arith)))
            (subst (Holds (m ++ between at (at + n) bytes)) (sym places) (holds_push m (between at (at + n) bytes) (take (count + 1) ps) w.holds formed));
        inside = omega arith;
        room = rw length-set (omega arith);
        agrees = λ qs h.
            let found = there l qs h in
            let mine = (only (rest_of bytes at) n fits f).0 in
            let his = (only (rest_of bytes at) found.0 found.1 found.3).0 in
            (goes_on l qs h, omega (arith, found.2));
      }

  pub walk_all : length bytes ≤ at → (count + 1 ≤ length ps) × Holds bytes (take (count + 1) ps)
  walk_all l = (w.room, subst (λ (b : List ℕ). Holds b (take (count + 1) ps)) (take_all at bytes l) w.holds)
