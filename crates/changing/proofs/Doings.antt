-- What put, drop and check do, by what was found. Assumes nothing.
use Rattle.std.proofs.Common.{◌≡◌, ℕ, ◌+◌, ◌<◌, ◌≤◌, Bool, true, false, not, ◌||◌, ltb, leb, List, [], length, get_or, refl, ap, ◌∙◌}
use Rattle.std.specs.List.{AllByRecursion}
use Rattle.std.proofs.lemmas.Bool.{and_from, and_left, or_right, le-leb, lt-leb, not_from_false}
use Rattle.model.specs.Tree.{Path, Entry, State, Expect, Step, Bad, Good, Put, Drop, Check, acts, unless, at, change, keep, has_kids, put_in, with_entries, path_ok, value_ok, every}
use Rattle.lent_bytes.proofs.PathBytes.{every_all}
use Rattle.cells.specs.declared.cell.Head.{Head}
use Rattle.cells.specs.Layout.{head_of, entry_of, entry_from, path_part}
use Rattle.cells.specs.Searches.{First}
use Rattle.cells.specs.Drafts.{replaced}
use Rattle.cells.proofs.Firsts.{change_first}
use Rattle.tree.specs.Steps.{sought}

-- bytes are in range where they are few enough
pub value_ok_lem : (v : List ℕ) → length v ≤ 65536 → AllByRecursion (λ b. b < 256) v → value_ok v ≡ true
value_ok_lem v h k = and_from (leb (length v) 65536) (every (λ (b : ℕ). ltb b 256) v) (le-leb (length v) 65536 h) (every_all v k)

or_false : (a b : Bool) → b ≡ false → (a || b) ≡ a
or_false true b e = refl
or_false false b e = e

module _ (p : Path) (x : Expect) (s : State) where
  pub check_is : acts (Check p x) s ≡ sought (not (path_ok p)) p x s (Good [] s)
  unfolding acts
  check_is = refl

  pub drop_is : acts (Drop p x) s ≡ sought (not (path_ok p)) p x s (unless 5 (has_kids p s) (Good [] (with_entries (keep (λ (e : Entry). not (at p e)) s.entries) s)))
  unfolding acts
  drop_is = refl

  module _ (v : List ℕ) where
    pub put_long : 65536 < length v → acts (Put p v x) s ≡ Bad 1
    unfolding acts unless
    put_long h =
        let bad = not_from_false (value_ok v) (and_left (leb (length v) 65536) (every (λ (b : ℕ). ltb b 256) v) (lt-leb (length v) 65536 h)) in
        rw (or_right (not (path_ok p)) (not (value_ok v)) bad) refl

    pub put_is : value_ok v ≡ true → acts (Put p v x) s ≡ sought (not (path_ok p)) p x s (Good [] (with_entries (change (at p) (put_in v (s.changes + 1)) s.entries) s))
    unfolding acts
    put_is h = ap (λ (b : Bool). sought b p x s (Good [] (with_entries (change (at p) (put_in v (s.changes + 1)) s.entries) s))) (or_false (not (path_ok p)) (not (value_ok v)) (ap not h))

module _ (p : Path) (s : State) where
  pub with_kids : (o : Step) → has_kids p s ≡ true → unless 5 (has_kids p s) o ≡ Bad 5
  unfolding unless
  with_kids o h = rw h refl

  pub without_kids : (o : Step) → has_kids p s ≡ false → unless 5 (has_kids p s) o ≡ o
  unfolding unless
  without_kids o h = rw h refl

  -- the entry that was found is replaced
  pub put_entries : (v : List ℕ) (i : ℕ) (e : Entry) → First (at p) s.entries i → get_or s.entries i e ≡ e → change (at p) (put_in v (s.changes + 1)) s.entries ≡ replaced i (put_in v (s.changes + 1) e) s.entries
  put_entries v i e first is = change_first (at p) (put_in v (s.changes + 1)) s.entries i e first ∙ ap (λ (y : Entry). replaced i (put_in v (s.changes + 1) y) s.entries) is

-- a head with another value's length, version and count, and the cell's own path
pub put_entry : (c p v : List ℕ) (old : Head) (n ch : ℕ) → old ≡ head_of c → p ≡ path_part c →
    entry_from (record { value_len = n; path_len = old.path_len; version = record { 0 = old.version.0 + 1 }; made = old.made; changed = record { 0 = ch }; kids = old.kids; owner = old.owner }) p v ≡ put_in v ch (entry_of c)
unfolding entry_of
put_entry c p v old n ch e f = rw e (rw f refl)
