-- A walk to the last name of a path. Assumes nothing.
use Rattle.std.proofs.Common.{◌≡◌, ℕ, ◌+◌, ◌<◌, ◌≤◌, List, [], ◌∷◌, ◌++◌, length, get_or, take, drop, sym, refl, ap, ◌∙◌, append_assoc, append-nil, arith, length-append}
use Rattle.std.proofs.lemmas.List.{take_at, drop_at, drop-drop, drop_more}
use Rattle.model.specs.Tree.{Name, Path, above, last_name}
use Rattle.lent_bytes.specs.Paths.{path_of, path_bytes, Spells, LastAt}
use Rattle.lent_bytes.proofs.PathBytes.{path_is, spells_is, bytes_append}
use Rattle.lent_bytes.proofs.Above.{above_push, last_push}

-- names before a place, and one that begins there
pub record Names (path : List ℕ) (at end : ℕ) : Type 0 where
  pub before : Path
  pub own : Name
  pub after : Path
  pub split : path ≡ path_bytes before ++ (length own ∷ (own ++ path_bytes after))
  pub is : at ≡ length (path_bytes before)
  pub ends : end ≡ at + 1 + length own

first : (path : List ℕ) (p : Path) → path ≡ path_bytes p → 0 < length path → Names path 0 (1 + get_or path 0 0)
unfolding path_bytes
first path [] e s = absurd (omega (arith, ap length e))
first path (n ∷ ns) e s = record { before = []; own = n; after = ns; split = e; is = refl; ends = omega (arith, ap (λ (l : List ℕ). get_or l 0 0) e) }

pub names_first : (path : List ℕ) → Spells path → 0 < length path → Names path 0 (1 + get_or path 0 0)
names_first path sp s = first path (path_of path) (sym sp) s

module _ (path : List ℕ) (at end : ℕ) (w : Names path at end) where
  long : length path ≡ at + (1 + (length w.own + length (path_bytes w.after)))
  long = ap length w.split ∙ length-append (path_bytes w.before) (length w.own ∷ (w.own ++ path_bytes w.after)) ∙ omega (arith, w.is, length-append w.own (path_bytes w.after))

  pub inside : (at < length path) × (end ≤ length path)
  inside = (omega (arith, long), omega (arith, long, w.ends))

  next : (ms : Path) → w.after ≡ ms → end < length path → Names path end (end + 1 + get_or path end 0)
  unfolding path_bytes
  next [] e l = absurd (omega (arith, long, w.ends, ap (λ (p : Path). length (path_bytes p)) e))
  next (m ∷ ms) e l =
      let front = bytes_append w.before (w.own ∷ []) in
      let size = ap length front ∙ length-append (path_bytes w.before) (length w.own ∷ (w.own ++ [])) in
      let split : path ≡ path_bytes (w.before ++ w.own ∷ []) ++ (length m ∷ (m ++ path_bytes ms)) =
      w.split ∙ ap (λ (p : Path). path_bytes w.before ++ (length w.own ∷ (w.own ++ path_bytes p))) e ∙
      ap (λ (o : List ℕ). path_bytes w.before ++ (length w.own ∷ (o ++ (length m ∷ (m ++ path_bytes ms))))) (sym (append-nil w.own)) ∙
      sym (append_assoc (path_bytes w.before) (length w.own ∷ (w.own ++ [])) (length m ∷ (m ++ path_bytes ms))) ∙
      ap (λ (f : List ℕ). f ++ (length m ∷ (m ++ path_bytes ms))) (sym front) in
      let is : end ≡ length (path_bytes (w.before ++ w.own ∷ [])) = omega (arith, w.ends, w.is, length-append w.own []) in
      let there = sym (drop_more path end 0 l) ∙ ap (drop end) split ∙ drop_at (path_bytes (w.before ++ w.own ∷ [])) (length m ∷ (m ++ path_bytes ms)) end (sym is) in
      let byte : get_or path end 0 ≡ length m = cc in
      record { before = w.before ++ w.own ∷ []; own = m; after = ms; split = split; is = is; ends = omega arith }

  pub names_more : end < length path → Names path end (end + 1 + get_or path end 0)
  names_more l = next w.after refl l

  at_last : (ms : Path) → w.after ≡ ms → length path ≤ end → LastAt path at
  unfolding path_bytes
  at_last (m ∷ ms) e l = absurd (omega (arith, long, w.ends, ap (λ (p : Path). length (path_bytes p)) e))
  at_last [] e l =
      let front : take at path ≡ path_bytes w.before = ap (take at) w.split ∙ take_at (path_bytes w.before) (length w.own ∷ (w.own ++ path_bytes w.after)) at (sym w.is) in
      let back : drop at path ≡ length w.own ∷ (w.own ++ path_bytes w.after) = ap (drop at) w.split ∙ drop_at (path_bytes w.before) (length w.own ∷ (w.own ++ path_bytes w.after)) at (sym w.is) in
      let name : w.own ++ path_bytes w.after ≡ w.own = ap (λ (p : Path). w.own ++ path_bytes p) e ∙ append-nil w.own in
      let all : path ≡ path_bytes (w.before ++ w.own ∷ []) =
      w.split ∙ ap (λ (p : Path). path_bytes w.before ++ (length w.own ∷ (w.own ++ path_bytes p))) e ∙ sym (bytes_append w.before (w.own ∷ [])) in
      let is = path_is path (w.before ++ w.own ∷ []) all in
      record {
        within = inside.0;
        above = path_is (take at path) w.before front ∙ sym (ap above is ∙ above_push w.before w.own);
        spells = spells_is (take at path) w.before front;
        last = sym (drop-drop 1 at path) ∙ ap (drop 1) back ∙ name ∙ sym (ap last_name is ∙ last_push w.before w.own);
      }

  pub names_end : length path ≤ end → LastAt path at
  names_end l = at_last w.after refl l
