-- A cell that is written is that of its entry. Assumes nothing.
use Rattle.std.proofs.Common.{◌≡◌, ℕ, ◌+◌, ◌-◌, ◌≤◌, true, List, ◌++◌, length, take, drop, sym, refl, ap, ◌∙◌, subst, arith, length-append}
use Rattle.std.proofs.lemmas.List.{take_at, drop_at, drop-drop}
use Rattle.cells.specs.declared.cell.Head.{Head}
use Rattle.model.specs.Tree.{path_ok}
use Rattle.lent_bytes.specs.Numbers.{be32, be64, be4, be8}
use Rattle.cells.specs.Layout.{head_bytes, head_of, cell_bytes, entry_of, entry_from, path_part, Formed, FitHead}
use Rattle.lent_bytes.specs.Paths.{path_of, Spells}
use Rattle.lent_bytes.proofs.Rounds.{round4, round8}

module _ (h : Head) (p v : List ℕ) (fit : FitHead h) where
  head_made : head_of (cell_bytes h p v) ≡ h
  unfolding cell_bytes head_bytes be4 be8 be32 be64
  head_made =
      let a = round4 h.value_len fit.value in
      let b = round4 h.path_len fit.path in
      let d = round8 h.version.0 fit.version in
      let e = round8 h.made.0 fit.made in
      let f = round8 h.changed.0 fit.changed in
      let g = round8 h.kids.0 fit.kids in
      let k = round8 h.owner.0 fit.owner in
      λ i. record { value_len = a i; path_len = b i; version = record { 0 = d i }; made = record { 0 = e i }; changed = record { 0 = f i }; kids = record { 0 = g i }; owner = record { 0 = k i } }

  rest_made : drop 48 (cell_bytes h p v) ≡ p ++ v
  unfolding cell_bytes head_bytes be4 be8
  rest_made = refl

  pub length_made : length (cell_bytes h p v) ≡ 48 + length p + length v
  unfolding cell_bytes head_bytes be4 be8
  length_made = length-append (head_bytes h ++ p) v ∙ ap (λ n. n + length v) (length-append (head_bytes h) p)

  module _ (long : h.path_len ≡ length p) where
    part_made : path_part (cell_bytes h p v) ≡ p
    part_made =
        let n = ap (λ (x : Head). x.path_len) head_made in
        ap (λ l. take (48 + be32 (cell_bytes h p v) 4 - 48) l) rest_made ∙ take_at p v (48 + be32 (cell_bytes h p v) 4 - 48) (omega arith)

    value_made : drop (48 + be32 (cell_bytes h p v) 4) (cell_bytes h p v) ≡ v
    value_made =
        let n = ap (λ (x : Head). x.path_len) head_made in
        sym (drop-drop (be32 (cell_bytes h p v) 4) 48 (cell_bytes h p v)) ∙ ap (drop (be32 (cell_bytes h p v) 4)) rest_made ∙ drop_at p v (be32 (cell_bytes h p v) 4) (omega arith)

    pub entry_made : entry_of (cell_bytes h p v) ≡ entry_from h p v
    unfolding entry_of
    entry_made = λ i. record {
      path = path_of (part_made i);
      value = value_made i;
      version = (head_made i).version.0;
      made = (head_made i).made.0;
      changed = (head_made i).changed.0;
      kids = (head_made i).kids.0;
      owner = (head_made i).owner.0;
    }

    pub good_made : h.value_len ≡ length v → length v ≤ 65536 → Spells p → path_ok (path_of p) ≡ true → Formed (cell_bytes h p v)
    good_made w few s o = record {
      short = omega (arith, ap (λ (x : Head). x.value_len) head_made);
      long = omega (arith, length_made, ap (λ (x : Head). x.path_len) head_made, ap (λ (x : Head). x.value_len) head_made);
      spells = subst Spells (sym part_made) s;
      names = ap (λ bs. path_ok (path_of bs)) part_made ∙ o;
    }
