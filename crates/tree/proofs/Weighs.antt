-- What entries weigh, when one is replaced, added or some are left out; and that a tree takes no more memory than it weighs. Assumes nothing.
use Rattle.std.proofs.Common.{◌≡◌, ℕ, ◌+◌, ◌*◌, ◌<◌, ◌≤◌, Bool, true, false, ltb, ◌⊎◌, List, [], ◌∷◌, ◌++◌, length, get_or, take, drop, sym, ap, ◌∙◌, inl, inr, ⊎_elim, arith, length-drop}
use Rattle.std.proofs.lemmas.List.{take-append-drop, drop_more}
use Rattle.std.proofs.lemmas.Bool.{cases_Bool, cond-true, cond-false, and_right, and_cases, le-ltb, ltb-false}
use Rattle.model.specs.Tree.{Entry, State, Step, Good, Bad, Path, keep, weight, weight_of}
use Rattle.lent_bytes.specs.Numbers.{be32}
use Rattle.lent_bytes.proofs.Places.{be32_take}
use Rattle.cells.specs.declared.cell.Head.{Head}
use Rattle.cells.specs.Layout.{head_of, entry_of, entries_of, Formed, Holds, prelude_of, state_of}
use Rattle.cells.specs.Drafts.{replaced}
use Rattle.cells.proofs.Cells.{length_entries}
use Rattle.cells.proofs.Preludes.{length_numbers}
use Rattle.cells.proofs.Weights.{bytes_weigh}
use Rattle.tree.specs.Steps.{overweight, weighed, counting, at_count}

pub weight_append : (xs ys : List Entry) → weight_of (xs ++ ys) ≡ weight_of xs + weight_of ys
unfolding weight_of
weight_append [] ys = omega arith
weight_append (x ∷ xs) ys = omega (arith, weight_append xs ys)

pub count_weighs : (es : List Entry) → 1280 * length es ≤ weight_of es
unfolding weight_of
count_weighs [] = omega arith
count_weighs (e ∷ es) = omega (arith, count_weighs es)

pub keep_weighs : (f : Entry → Bool) (es : List Entry) → weight_of (keep f es) ≤ weight_of es
unfolding keep weight_of
keep_weighs f [] = omega arith
keep_weighs f (e ∷ es) =
    ⊎_elim
    (λ t. let is = ap weight_of (cond-true (f e) (e ∷ keep f es) (keep f es) t) in omega (arith, keep_weighs f es))
    (λ t. let is = ap weight_of (cond-false (f e) (e ∷ keep f es) (keep f es) t) in omega (arith, keep_weighs f es))
    (cases_Bool (f e))

module _ (es : List Entry) (i : ℕ) (x : Entry) (l : i < length es) (is : get_or es i x ≡ x) where
  around : es ≡ take i es ++ (x ∷ drop (i + 1) es)
  around = sym (take-append-drop i es) ∙ ap (λ (l : List Entry). take i es ++ l) (drop_more es i x l ∙ ap (λ (y : Entry). y ∷ drop (i + 1) es) is)

  pub weight_replaced : (e : Entry) → weight_of (replaced i e es) + length x.value ≡ weight_of es + length e.value
  unfolding weight_of
  weight_replaced e = omega (arith, ap weight_of around, weight_append (take i es) (x ∷ drop (i + 1) es), weight_append (take i es) (e ∷ drop (i + 1) es))

  pub weight_at : 1280 + length x.value ≤ weight_of es
  unfolding weight_of
  weight_at = omega (arith, ap weight_of around, weight_append (take i es) (x ∷ drop (i + 1) es))

pub weight_push : (es : List Entry) (e : Entry) → weight_of (es ++ e ∷ []) ≡ weight_of es + (1280 + length e.value)
unfolding weight_of
weight_push es e = omega (arith, weight_append es (e ∷ []))

-- the length of a value as its head has it
pub head_value : (c : List ℕ) (h : Head) → h ≡ head_of c → Formed c → h.value_len ≡ length (entry_of c).value
unfolding entry_of
head_value c h e f = ap (λ (x : Head). x.value_len) e ∙ omega (arith, f.long, length-drop (48 + be32 c 4) c)

-- what a tree takes that fits
pub record Space (mem ps : List ℕ) : Type 0 where
  pub first : get_or ps 0 0 ≤ 32796
  pub bytes : length mem ≤ get_or ps 0 0 + weight_of (entries_of mem ps)
  pub words : 1280 * length (entries_of mem ps) ≤ weight_of (entries_of mem ps)
  pub many : length (entries_of mem ps) + 1 ≡ length ps

pub space : (mem ps : List ℕ) → Holds mem ps → length (state_of mem ps).sessions ≤ 4096 → Space mem ps
space mem ps h few =
    let first = h.begins in
    let count = length_numbers (be32 (prelude_of mem ps) 24) (prelude_of mem ps) 28 in
    let same = be32_take (get_or ps 0 0) mem 24 (omega arith) in
    record {
      first = omega (arith, few);
      bytes = bytes_weigh mem ps h;
      words = count_weighs (entries_of mem ps);
      many = omega (arith, length_entries mem ps, h.some);
    }

-- no more than before is never too much
pub not_over : (room before after : ℕ) → after ≤ before → overweight room before after ≡ false
not_over room before after h = and_right (ltb room after) (ltb before after) (le-ltb before after h)

-- what is not too much is within the room, or no more than before
pub within_room : (room before after : ℕ) → overweight room before after ≡ false → (after ≤ room) ⊎ (after ≤ before)
within_room room before after h =
    ⊎_elim (λ f. inl (ltb-false room after f)) (λ f. inr (ltb-false before after f)) (and_cases (ltb room after) (ltb before after) h)

-- the three ways in which an act ends: refused, too heavy, done
module _ (c room : ℕ) (s : State) (o : Step) where
  pub refuse : (k : ℕ) → o ≡ Bad k → Bad k ≡ counting c (weighed room s o)
  refuse k e = ap (λ (x : Step). counting c (weighed room s x)) (sym e)

  module _ (qs : List Path) (t : State) (e : o ≡ Good qs t) where
    pub heavy : overweight room (weight s) (weight t) ≡ true → Bad 9 ≡ counting c (weighed room s o)
    heavy h = ap (counting c) (sym (ap (weighed room s) e ∙ cond-true (overweight room (weight s) (weight t)) (Bad 9) (Good qs t) h))

    pub done : (u : State) → overweight room (weight s) (weight t) ≡ false → u ≡ at_count c t → Good qs u ≡ counting c (weighed room s o)
    done u h is = ap (Good qs) is ∙ ap (counting c) (sym (ap (weighed room s) e ∙ cond-false (overweight room (weight s) (weight t)) (Bad 9) (Good qs t) h))
