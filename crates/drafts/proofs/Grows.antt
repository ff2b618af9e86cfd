-- A tree is written cell by cell: what was written so far, with one entry more, and with several. Assumes nothing.
use Rattle.std.proofs.Common.{◌≡◌, ℕ, ◌+◌, ◌≤◌, true, List, [], ◌∷◌, ◌++◌, map, length, take, drop, set, sym, refl, ap, ◌∙◌, subst, append_assoc, append-nil, arith, length-append}
use native.Mathlib.Nat.{sub-zero}
use Rattle.std.specs.List.{between}
use Rattle.std.proofs.lemmas.Slice.{between_to_end}
use Rattle.std.proofs.lemmas.List.{take_all, length-take-le, take_more_set, length-set, map_push}
use Rattle.cells.specs.declared.draft.Size.{Size}
use Rattle.cells.specs.declared.cell.Head.{Head}
use Rattle.model.specs.Tree.{Entry, path_ok}
use Rattle.cells.proofs.Pushes.{cut_push, holds_push, prelude_push, holds_none}
use Rattle.cells.proofs.Made.{length_made, entry_made, good_made}
use Rattle.cells.specs.Layout.{begins_at, cut, Formed, Holds, FitHead, cell_bytes, entry_from, entry_of, entries_of, prelude_of}
use Rattle.lent_bytes.specs.Writing.{Added}
use Rattle.cells.specs.Drafts.{Drafts, Grown, Begun, Next, replaced}
use Rattle.lent_bytes.specs.Paths.{Spells, path_of}

-- a cell that was written behind the others, and its end behind the other places
pub grown : (out out' ps cell : List ℕ) (s s' : Size) → Drafts out ps s → Formed cell → Added s.used out cell s'.used out' → s'.count ≡ s.count + 1 → s.count + 2 ≤ length ps → s'.used ≤ length out' →
    Grown out ps s (entry_of cell ∷ []) (length cell) out' (set ps s'.count s'.used) s'
grown out out' ps cell s s' d g a n room inside =
    let m = take s.used out in
    let qs = take (s.count + 1) ps in
    let long : length m ≡ s.used = length-take-le s.used out d.inside in
    let end : s'.used ≡ length m + length cell = omega (arith, a.ends) in
    let places : take (s'.count + 1) (set ps s'.count s'.used) ≡ qs ++ (length m + length cell) ∷ [] =
    ap (λ k. take (k + 1) (set ps k s'.used)) n ∙ take_more_set ps (s.count + 1) s'.used (omega arith) ∙ ap (λ x. qs ++ x ∷ []) end in
    let h = d.holds in
    record {
      drafts = record {
        holds = subst (λ (l : List ℕ). Holds l (take (s'.count + 1) (set ps s'.count s'.used))) (sym a.front) (subst (Holds (m ++ cell)) (sym places) (holds_push m cell qs h g));
        inside = inside;
        counted = rw length-set (omega arith);
      };
      used = a.ends;
      count = n;
      prelude = (λ i. prelude_of (a.front i) (places i)) ∙ prelude_push m cell qs h;
      entries = (λ i. entries_of (a.front i) (places i)) ∙ ap (map entry_of) (cut_push m cell qs h.some h.ends h.within) ∙ map_push entry_of (cut m qs) cell;
    }

pub grown_made : (out out' ps p v : List ℕ) (h : Head) (s : Size) (used : ℕ) → Drafts out ps s → FitHead h → h.path_len ≡ length p → h.value_len ≡ length v → length v ≤ 65536 → Spells p → path_ok (path_of p) ≡ true →
    Added s.used out (cell_bytes h p v) used out' → s.count + 2 ≤ length ps → used ≤ length out' →
    Grown out ps s (entry_from h p v ∷ []) (48 + length p + length v) out' (set ps (s.count + 1) used) (record { used = used; count = s.count + 1 })
grown_made out out' ps p v h s used d fit lp lv few sp ok a room inside =
    let s' : Size = record { used = used; count = s.count + 1 } in
    let g = grown out out' ps (cell_bytes h p v) s s' d (good_made h p v fit lp lv few sp ok) a refl room inside in
    let P : Entry → ℕ → Type 0 = λ e n. Grown out ps s (e ∷ []) n out' (set ps (s.count + 1) used) s' in
    subst (λ (e : Entry). P e (48 + length p + length v)) (entry_made h p v fit lp) (subst (λ (n : ℕ). P (entry_of (cell_bytes h p v)) n) (length_made h p v fit) g)

pub grown_none : (out ps : List ℕ) (s : Size) → Drafts out ps s → Grown out ps s [] 0 out ps s
grown_none out ps s d = record { drafts = d; used = omega arith; count = omega arith; prelude = refl; entries = sym (append-nil _) }

pub grown_then : {out ps out₁ ps₁ out₂ ps₂ : List ℕ} {s s₁ s₂ : Size} {es fs : List Entry} {n k : ℕ} → Grown out ps s es n out₁ ps₁ s₁ → Grown out₁ ps₁ s₁ fs k out₂ ps₂ s₂ → Grown out ps s (es ++ fs) (n + k) out₂ ps₂ s₂
grown_then {out} {ps} {out₁} {ps₁} {out₂} {ps₂} {s} {s₁} {s₂} {es} {fs} {n} {k} g h = record {
  drafts = h.drafts;
  used = omega (arith, g.used, h.used);
  count = omega (arith, g.count, h.count, length-append es fs);
  prelude = h.prelude ∙ g.prelude;
  entries = h.entries ∙ ap (λ l. l ++ fs) g.entries ∙ append_assoc _ es fs;
}

-- the same, said otherwise
pub grown_as : {out ps out₁ ps₁ : List ℕ} {s s₁ : Size} (es fs : List Entry) (n k : ℕ) → es ≡ fs → n ≡ k → Grown out ps s es n out₁ ps₁ s₁ → Grown out ps s fs k out₁ ps₁ s₁
grown_as {out} {ps} {out₁} {ps₁} {s} {s₁} es fs n k e f g = subst (λ (x : List Entry). Grown out ps s x k out₁ ps₁ s₁) e (subst (λ (x : ℕ). Grown out ps s es x out₁ ps₁ s₁) f g)

-- a prelude that was written at the start
pub begun : (out out' ps pre : List ℕ) (used : ℕ) → length pre ≡ begins_at pre → Added 0 out pre used out' → 1 ≤ length ps → used ≤ length out' → Begun pre out' (set ps 0 used) (record { used = used; count = 0 })
unfolding cut
begun out out' ps pre used b a room inside =
    let end : used ≡ length pre = omega (arith, a.ends) in
    let places : take 1 (set ps 0 used) ≡ length pre ∷ [] = take_more_set ps 0 used (omega arith) ∙ ap (λ x. x ∷ []) end in
    record {
      drafts = record {
        holds = subst (λ (l : List ℕ). Holds l (take 1 (set ps 0 used))) (sym a.front) (subst (Holds pre) (sym places) (holds_none pre b));
        inside = inside;
        counted = rw length-set (omega arith);
      };
      used = end;
      count = refl;
      prelude = (λ i. prelude_of (a.front i) (places i)) ∙ take_all (length pre) pre (omega arith);
      entries = λ i. entries_of (a.front i) (places i);
    }

-- a next tree that was begun and has grown
pub next : {pre was out ps out₁ ps₁ : List ℕ} {s s₁ : Size} {es : List Entry} {n : ℕ} → pre ≡ was → Begun pre out ps s → Grown out ps s es n out₁ ps₁ s₁ → Next was es out₁ ps₁ s₁
next {pre} {was} {out} {ps} {out₁} {ps₁} {s} {s₁} {es} {n} w b g = record { drafts = g.drafts; prelude = g.prelude ∙ b.prelude ∙ w; entries = g.entries ∙ ap (λ l. l ++ es) b.entries }

-- the same, said otherwise
pub next_as : {pre out ps : List ℕ} {s : Size} (es fs : List Entry) → es ≡ fs → Next pre es out ps s → Next pre fs out ps s
next_as {pre} {out} {ps} {s} es fs e g = subst (λ (x : List Entry). Next pre x out ps s) e g

pub around : (i n : ℕ) (e : Entry) (es : List Entry) → length es ≤ n → between 0 i es ++ (e ∷ []) ++ between (i + 1) n es ≡ replaced i e es
around i n e es l =
    let a : between 0 i es ≡ take i es = ap (λ k. take k es) (sub-zero i) in
    let b = between_to_end es (i + 1) n l in
    (λ j. a j ++ (e ∷ []) ++ b j) ∙ append_assoc (take i es) (e ∷ []) (drop (i + 1) es)
