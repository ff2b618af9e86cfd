-- Bytes that are read as a tree are those that the tree is written as: so a tree that fits has one run of bytes, and a copy of bytes is a copy of the tree. Assumes nothing.
use Rattle.std.proofs.Common.{◌≡◌, ℕ, zero, suc, ◌+◌, ◌-◌, ◌*◌, ◌<◌, ◌≤◌, List, [], ◌∷◌, ◌++◌, map, length, get_or, take, drop, sym, refl, ap, ◌∙◌, subst, append_assoc, add-zero, arith, length-drop}
use Rattle.std.specs.List.{between, AllByRecursion}
use Rattle.std.proofs.ByRecursion.{All-take, All-drop}
use Rattle.std.proofs.lemmas.List.{take-append-drop, drop-drop, drop_all, length-take-le}
use Rattle.model.specs.Tree.{Entry}
use Rattle.lent_bytes.specs.Numbers.{be32, be64, be4, be8}
use Rattle.lent_bytes.specs.Paths.{path_bytes, path_of}
use Rattle.lent_bytes.proofs.Places.{be32_take, be64_take, be32_drop, be64_drop}
use Rattle.calls.specs.Format.{many_written}
use Rattle.calls.specs.Laws.{Bytes}
use Rattle.calls.proofs.WrittenAgain.{four, eight}
use Rattle.cells.specs.Layout.{begins_at, cut, last_of, head_of, head_bytes, cell_bytes, path_part, entry_of, entries_of, prelude_of, state_from, numbers_at, sessions_in, Formed}
use Rattle.cells.proofs.Preludes.{length_numbers, prelude_long}
use Rattle.scan.specs.Scans.{places_of}
use Rattle.wire.specs.Trees.{entry_head, entry_bytes, prelude_bytes, tree_bytes}
use Rattle.wire.specs.Laws.{TreeBack}

-- NUMBERS in the midst of bytes
module _ (bs : List ℕ) (small : Bytes bs) (i : ℕ) where
  eight_at : i + 8 ≤ length bs → be8 (be64 bs i) ++ drop (i + 8) bs ≡ drop i bs
  eight_at h =
      let part = take 8 (drop i bs) in
      let long : length part ≡ 8 = length-take-le 8 (drop i bs) (omega (arith, length-drop i bs)) in
      let is : be64 part 0 ≡ be64 bs i = be64_take 8 (drop i bs) 0 (omega arith) ∙ be64_drop i bs 0 ∙ ap (be64 bs) (add-zero i) in
      let bytes : be8 (be64 bs i) ≡ part = ap be8 (sym is) ∙ eight part long (All-take (λ b. b < 256) 8 (drop i bs) (All-drop (λ b. b < 256) i bs small)) in
      (λ j. bytes j ++ sym (drop-drop 8 i bs) j) ∙ take-append-drop 8 (drop i bs)

  four_at : i + 4 ≤ length bs → be4 (be32 bs i) ++ drop (i + 4) bs ≡ drop i bs
  four_at h =
      let part = take 4 (drop i bs) in
      let long : length part ≡ 4 = length-take-le 4 (drop i bs) (omega (arith, length-drop i bs)) in
      let is : be32 part 0 ≡ be32 bs i = be32_take 4 (drop i bs) 0 (omega arith) ∙ be32_drop i bs 0 ∙ ap (be32 bs) (add-zero i) in
      let bytes : be4 (be32 bs i) ≡ part = ap be4 (sym is) ∙ four part long (All-take (λ b. b < 256) 4 (drop i bs) (All-drop (λ b. b < 256) i bs small)) in
      (λ j. bytes j ++ sym (drop-drop 4 i bs) j) ∙ take-append-drop 4 (drop i bs)

numbers_back : (n : ℕ) (bs : List ℕ) (i : ℕ) → Bytes bs → length bs ≡ i + 8 * n → many_written be8 (numbers_at n bs i) ≡ drop i bs
unfolding numbers_at many_written
numbers_back zero bs i small l = sym (drop_all i bs (omega arith))
numbers_back (suc n) bs i small l = ap (λ (ws : List ℕ). be8 (be64 bs i) ++ ws) (numbers_back n bs (i + 8) small (omega arith)) ∙ eight_at bs small i (omega arith)

-- THE PRELUDE
prelude_back : (pre : List ℕ) (es : List Entry) → Bytes pre → length pre ≡ begins_at pre → prelude_bytes (state_from pre es) ≡ pre
unfolding prelude_bytes
prelude_back pre es small long =
    let ws = many_written be8 (sessions_in pre) in
    let count : be4 (length (sessions_in pre)) ++ ws ≡ drop 24 pre = (λ i. be4 (length_numbers (be32 pre 24) pre 28 i) ++ numbers_back (be32 pre 24) pre 28 small long i) ∙ four_at pre small 24 (omega arith) in
    let last : be8 (be64 pre 16) ++ (be4 (length (sessions_in pre)) ++ ws) ≡ drop 16 pre = ap (λ (l : List ℕ). be8 (be64 pre 16) ++ l) count ∙ eight_at pre small 16 (omega arith) in
    let top : be8 (be64 pre 8) ++ (be8 (be64 pre 16) ++ (be4 (length (sessions_in pre)) ++ ws)) ≡ drop 8 pre = ap (λ (l : List ℕ). be8 (be64 pre 8) ++ l) last ∙ eight_at pre small 8 (omega arith) in
    ap (λ (l : List ℕ). be8 (be64 pre 0) ++ l) top ∙ eight_at pre small 0 (omega arith)

-- CELLS
module _ (c : List ℕ) (f : Formed c) (small : Bytes c) where
  counts_back : be8 (be64 c 16) ++ (be8 (be64 c 24) ++ (be8 (be64 c 32) ++ (be8 (be64 c 40) ++ drop 48 c))) ≡ drop 16 c
  counts_back =
      let owner = eight_at c small 40 (omega (arith, f.long)) in
      let kids : be8 (be64 c 32) ++ (be8 (be64 c 40) ++ drop 48 c) ≡ drop 32 c = ap (λ (l : List ℕ). be8 (be64 c 32) ++ l) owner ∙ eight_at c small 32 (omega (arith, f.long)) in
      let changed : be8 (be64 c 24) ++ (be8 (be64 c 32) ++ (be8 (be64 c 40) ++ drop 48 c)) ≡ drop 24 c = ap (λ (l : List ℕ). be8 (be64 c 24) ++ l) kids ∙ eight_at c small 24 (omega (arith, f.long)) in
      ap (λ (l : List ℕ). be8 (be64 c 16) ++ l) changed ∙ eight_at c small 16 (omega (arith, f.long))

  widths_back : be4 (be32 c 0) ++ (be4 (be32 c 4) ++ (be8 (be64 c 8) ++ drop 16 c)) ≡ c
  widths_back =
      let version : be8 (be64 c 8) ++ drop 16 c ≡ drop 8 c = eight_at c small 8 (omega (arith, f.long)) in
      let path : be4 (be32 c 4) ++ (be8 (be64 c 8) ++ drop 16 c) ≡ drop 4 c = ap (λ (l : List ℕ). be4 (be32 c 4) ++ l) version ∙ four_at c small 4 (omega (arith, f.long)) in
      ap (λ (l : List ℕ). be4 (be32 c 0) ++ l) path ∙ four_at c small 0 (omega (arith, f.long))

  head_split : (rest : List ℕ) → head_bytes (head_of c) ++ rest ≡ be4 (be32 c 0) ++ (be4 (be32 c 4) ++ (be8 (be64 c 8) ++ (be8 (be64 c 16) ++ (be8 (be64 c 24) ++ (be8 (be64 c 32) ++ (be8 (be64 c 40) ++ rest))))))
  unfolding head_bytes be4 be8
  head_split rest = refl

  head_back : head_bytes (head_of c) ++ drop 48 c ≡ c
  head_back = head_split (drop 48 c) ∙ ap (λ (l : List ℕ). be4 (be32 c 0) ++ (be4 (be32 c 4) ++ (be8 (be64 c 8) ++ l))) counts_back ∙ widths_back

  -- path and value are what stands behind the head, and as long as it says
  body_back : path_part c ++ drop (48 + be32 c 4) c ≡ drop 48 c
  body_back =
      let n = 48 + be32 c 4 - 48 in
      let e : 48 + n ≡ 48 + be32 c 4 = omega arith in
      ap (λ (l : List ℕ). take n (drop 48 c) ++ l) (sym (drop-drop n 48 c ∙ ap (λ (k : ℕ). drop k c) e)) ∙ take-append-drop n (drop 48 c)

  head_is : entry_head (entry_of c) ≡ head_of c
  unfolding entry_of
  head_is =
      let value : length (drop (48 + be32 c 4) c) ≡ be32 c 0 = omega (arith, length-drop (48 + be32 c 4) c, f.long) in
      let path : length (path_bytes (path_of (path_part c))) ≡ be32 c 4 = ap length f.spells ∙ length-take-le (48 + be32 c 4 - 48) (drop 48 c) (omega (arith, length-drop 48 c, f.long)) ∙ omega arith in
      λ i. record {
        value_len = value i;
        path_len = path i;
        version = record { 0 = be64 c 8 };
        made = record { 0 = be64 c 16 };
        changed = record { 0 = be64 c 24 };
        kids = record { 0 = be64 c 32 };
        owner = record { 0 = be64 c 40 };
      }

  cell_back : entry_bytes (entry_of c) ≡ c
  unfolding entry_of cell_bytes
  cell_back =
      (λ i. (head_bytes (head_is i) ++ f.spells i) ++ drop (48 + be32 c 4) c) ∙ append_assoc (head_bytes (head_of c)) (path_part c) (drop (48 + be32 c 4) c) ∙
      ap (λ (l : List ℕ). head_bytes (head_of c) ++ l) body_back ∙ head_back

between_back : (mem : List ℕ) (o n : ℕ) → o ≤ n → between o n mem ++ drop n mem ≡ drop o mem
between_back mem o n h =
    let e : o + (n - o) ≡ n = omega arith in
    ap (λ (l : List ℕ). take (n - o) (drop o mem) ++ l) (sym (drop-drop (n - o) o mem ∙ ap (λ (k : ℕ). drop k mem) e)) ∙ take-append-drop (n - o) (drop o mem)

cells_back : (mem ps : List ℕ) → Bytes mem → 0 < length ps → last_of ps ≡ length mem → ((i : ℕ) → i + 1 < length ps → get_or ps i 0 ≤ get_or ps (i + 1) 0) → AllByRecursion Formed (cut mem ps) →
    many_written entry_bytes (map entry_of (cut mem ps)) ≡ drop (get_or ps 0 0) mem
unfolding cut last_of many_written
cells_back mem [] small s e r g = absurd (omega arith)
cells_back mem (o ∷ []) small s e r g = sym (drop_all o mem (omega arith))
cells_back mem (o ∷ n ∷ ps) small s e r g =
    let cell = between o n mem in
    let first = cell_back cell g.0 (All-take (λ b. b < 256) (n - o) (drop o mem) (All-drop (λ b. b < 256) o mem small)) in
    let more = cells_back mem (n ∷ ps) small (omega arith) e
    (λ i l. let a : suc (i + 1) ≡ suc i + 1 = omega arith in subst (λ (m : ℕ). get_or (n ∷ ps) i 0 ≤ get_or (o ∷ n ∷ ps) m 0) (sym a) (r (suc i) (omega arith))) g.1 in
    (λ i. first i ++ more i) ∙ between_back mem o n (r 0 (omega arith))

pub tree_back : TreeBack
unfolding tree_bytes
tree_back room bytes small t =
    let ps = places_of bytes in
    let h = t.holds in
    let pre = prelude_of bytes ps in
    let front = prelude_back pre (entries_of bytes ps) (All-take (λ b. b < 256) (get_or ps 0 0) bytes small) (prelude_long bytes ps h) in
    (λ i. front i ++ cells_back bytes ps small h.some h.ends h.rises h.good i) ∙ take-append-drop (get_or ps 0 0) bytes
