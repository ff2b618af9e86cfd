-- Going through a tree entry by entry: what is left after each, and what a search over all of them answers. Assumes nothing.
use Rattle.std.proofs.Common.{◌≡◌, ℕ, suc, ◌+◌, ◌-◌, ◌<◌, ◌≤◌, Bool, true, false, cond, ◌||◌, List, [], ◌∷◌, map, length, get_or, drop, Some, None, Option, sym, refl, ap, ◌∙◌, subst, add-one, arith}
use Rattle.std.proofs.Math.Seq.{drop-cons, drop-length}
use Rattle.std.specs.List.{list_any, position_or_len}
use Rattle.std.proofs.lemmas.Bool.Decides.{nat_tests}
use lib.Dec.{ltb}
use Rattle.model.specs.Tree.{some}
use Rattle.std.specs.Iterator.{Yields, YieldsFirstBy}
use Rattle.std.proofs.lemmas.List.{get_or_default}
use Rattle.std.proofs.lemmas.List.Edits.{length-between}
use Rattle.std.proofs.lemmas.Iterator.Consumers.{YieldsList-from_first, YieldsList-turn, YieldsList-end}
use Rattle.model.specs.Tree.{Entry}
use Rattle.cells.specs.declared.cell.Cell.{Cell}
use Rattle.cells.specs.declared.held.Cells.{Cells}
use Rattle.cells.specs.Layout.{Holds, cut, entry_of, entries_of}
use Rattle.cells.specs.Searches.{Found}
use Rattle.cells.specs.Walks.{bytes_of, cells_left}
use Rattle.cells.proofs.Cells.{length_cut, length_entries, get_or_cut, entry_at}

pub left_none : (mem ps : List ℕ) (i : ℕ) → i + 1 ≡ length ps → drop i (cut mem ps) ≡ []
left_none mem ps i h =
    let e : length (cut mem ps) ≡ i = omega (arith, length_cut mem ps) in
    rw (← e) (drop-length (cut mem ps))

pub left_more : (mem ps : List ℕ) (i : ℕ) (c : List ℕ) → i + 1 < length ps → c ≡ get_or (cut mem ps) i [] → drop i (cut mem ps) ≡ c ∷ drop (i + 1) (cut mem ps)
left_more mem ps i c h e = drop-cons (cut mem ps) i [] (omega (arith, length_cut mem ps)) ∙ rw (add-one i, e) refl

ltb-suc : (n m : ℕ) → ltb (1 + n) (suc m) ≡ ltb n m
ltb-suc n m = grind (arith, nat_tests)

ltb-zero : (m : ℕ) → ltb 0 (suc m) ≡ true
ltb-zero m = grind (arith, nat_tests)

pub some_any : {A : Type 0} (f : A → Bool) (xs : List A) → some f xs ≡ list_any f xs
unfolding some
some_any f [] = refl
some_any f (x ∷ xs) = ap (λ b. f x || b) (some_any f xs)

module _ {A B : Type 0} (f : B → Bool) (g : A → B) where
  pub some_list_any : (xs : List A) → some f (map g xs) ≡ list_any (λ x. f (g x)) xs
  unfolding some
  some_list_any [] = refl
  some_list_any (x ∷ xs) = ap (λ b. f (g x) || b) (some_list_any xs)

  found_later : (x : A) (xs : List A) (n : ℕ) (b : Bool) → f (g x) ≡ false → Found f (map g xs) (cond b (Some n) None) → Found f (map g (x ∷ xs)) (cond b (Some (suc n)) None)
  unfolding some
  found_later x xs n true e h = record { within = omega (arith, h.within); before = rw e h.before; here = h.here }
  found_later x xs n false e h = rw e h

  -- what `position` answers of entries
  abbrev place : List A → Option ℕ
  place xs = cond (ltb (position_or_len (λ x. f (g x)) xs) (length xs)) (Some (position_or_len (λ x. f (g x)) xs)) None

  found_cons : (x : A) (xs : List A) (b : Bool) → f (g x) ≡ b → Found f (map g xs) (place xs) → Found f (map g (x ∷ xs)) (place (x ∷ xs))
  unfolding some
  found_cons x xs true e h = rw (e, ltb-zero (length xs)) record { within = omega arith; before = refl; here = λ d. e }
  found_cons x xs false e h =
      let n = position_or_len (λ y. f (g y)) xs in
      let later = found_later x xs n (ltb n (length xs)) e h in
      rw (e, ltb-suc n (length xs)) (subst (λ (k : ℕ). Found f (map g (x ∷ xs)) (cond (ltb n (length xs)) (Some k) None)) (omega arith) later)

  pub found_first : (xs : List A) → Found f (map g xs) (place xs)
  unfolding some
  found_first [] = refl
  found_first (x ∷ xs) = found_cons x xs (f (g x)) refl (found_first xs)

abbrev pub Steps : Cells → Option Cell → Cells → Type 0
Steps = YieldsFirstBy bytes_of cells_left

-- what is known of the entry that comes after so many
pub record Turn (mem ps : List ℕ) (n : ℕ) (c : List ℕ) : Type 0 where
  pub within : n + 1 < length ps
  pub entry : (d : Entry) → get_or (entries_of mem ps) n d ≡ entry_of c
  pub len : length c + get_or ps n 0 ≡ get_or ps (n + 1) 0

module _ (mem ps : List ℕ) (h : Holds mem ps) (s : Cells) (all : cells_left s ≡ cut mem ps) (xs : List Cell) (t : Cells) (y : Yields Steps s xs t) (r : Option Cell) (u : Cells) where
  pub at_turn : (x : Cell) → r ≡ Some x → Steps t r u → Turn mem ps (length xs) x.bytes.now
  at_turn x is step =
      let next = YieldsList-turn (YieldsList-from_first bytes_of cells_left (cut mem ps) all) xs t y r u x is step in
      let in' : length xs + 1 < length ps = omega (arith, next.0, length_cut mem ps) in
      let here : x.bytes.now ≡ get_or (cut mem ps) (length xs) [] = next.1 ∙ get_or_default (cut mem ps) (length xs) x.bytes.now [] next.0 in
      record {
        within = in';
        entry = λ d. entry_at mem ps (length xs) in' d ∙ ap entry_of (sym here);
        len = ap (λ (l : List ℕ). length l + get_or ps (length xs) 0) (here ∙ get_or_cut mem ps (length xs) in') ∙ omega (arith, length-between mem (get_or ps (length xs) 0) (get_or ps (length xs + 1) 0) (h.within (length xs + 1) in'), h.rises (length xs) in');
      }

  pub at_end : r ≡ None → Steps t r u → length (entries_of mem ps) ≤ length xs
  at_end is step = omega (arith, (YieldsList-end (YieldsList-from_first bytes_of cells_left (cut mem ps) all) xs t y r u is step).1, length_entries mem ps, length_cut mem ps)

  -- no more came than there are
  pub fewer : r ≡ None → Steps t r u → length xs ≤ length ps - 1
  fewer is step = omega (arith, (YieldsList-end (YieldsList-from_first bytes_of cells_left (cut mem ps) all) xs t y r u is step).1, length_cut mem ps)
