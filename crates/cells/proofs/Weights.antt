-- A tree takes no more bytes than it weighs, behind its prelude. Assumes nothing.
use Rattle.std.proofs.Common.{◌≡◌, ℕ, suc, ◌+◌, ◌*◌, ◌<◌, ◌≤◌, List, [], ◌∷◌, map, length, get_or, sum_by, sym, refl, ap, ◌∙◌, subst, arith, length-drop}
use Rattle.std.specs.List.{between, AllByRecursion}
use Rattle.std.proofs.lemmas.List.Sums.{sum_by-cons}
use Rattle.std.proofs.lemmas.List.Edits.{length-between}
use Rattle.model.specs.Tree.{weight_of}
use Rattle.lent_bytes.specs.Numbers.{be32}
use Rattle.lent_bytes.specs.Paths.{path_of}
use Rattle.lent_bytes.proofs.PathBytes.{path_long}
use Rattle.cells.specs.Layout.{path_part, Formed, Holds, cut, last_of, entry_of, entries_of}

pub cell_long : (c : List ℕ) → Formed c → length c ≤ 1280 + length (entry_of c).value
unfolding entry_of
cell_long c f =
    let part = length-between c 48 (48 + be32 c 4) (omega (arith, f.long)) in
    let same = ap length f.spells in
    omega (arith, f.long, path_long (path_of (path_part c)) f.names, length-drop (48 + be32 c 4) c)

weighs : (mem ps : List ℕ) → 0 < length ps → ((i : ℕ) → i + 1 < length ps → get_or ps i 0 ≤ get_or ps (i + 1) 0) → ((i : ℕ) → i < length ps → get_or ps i 0 ≤ length mem) → AllByRecursion Formed (cut mem ps) →
    last_of ps ≤ get_or ps 0 0 + weight_of (entries_of mem ps)
unfolding cut last_of weight_of
weighs mem [] s r w g = absurd (omega arith)
weighs mem (o ∷ []) s r w g = omega arith
weighs mem (o ∷ e ∷ ps) s r w g =
    let rest = weighs mem (e ∷ ps) (omega arith) (λ i l. let a : suc (i + 1) ≡ suc i + 1 = omega arith in subst (λ (k : ℕ). get_or (e ∷ ps) i 0 ≤ get_or (o ∷ e ∷ ps) k 0) (sym a) (r (suc i) (omega arith))) (λ i l. w (suc i) (omega arith)) g.1 in
    omega (arith, rest, cell_long (between o e mem) g.0, length-between mem o e (w 1 (omega arith)), r 0 (omega arith))

-- a cell has 48 bytes at least, so what entries weigh is bounded by their bytes
value_long : (c : List ℕ) → Formed c → 48 + length (entry_of c).value ≤ length c
unfolding entry_of
value_long c f = omega (arith, f.long, length-drop (48 + be32 c 4) c)

weighs_least : (mem ps : List ℕ) → 0 < length ps → ((i : ℕ) → i + 1 < length ps → get_or ps i 0 ≤ get_or ps (i + 1) 0) → ((i : ℕ) → i < length ps → get_or ps i 0 ≤ length mem) → AllByRecursion Formed (cut mem ps) →
    weight_of (entries_of mem ps) + 28 * get_or ps 0 0 ≤ 28 * last_of ps
unfolding cut last_of weight_of
weighs_least mem [] s r w g = absurd (omega arith)
weighs_least mem (o ∷ []) s r w g = omega arith
weighs_least mem (o ∷ e ∷ ps) s r w g =
    let rest = weighs_least mem (e ∷ ps) (omega arith) (λ i l. let a : suc (i + 1) ≡ suc i + 1 = omega arith in subst (λ (k : ℕ). get_or (e ∷ ps) i 0 ≤ get_or (o ∷ e ∷ ps) k 0) (sym a) (r (suc i) (omega arith))) (λ i l. w (suc i) (omega arith)) g.1 in
    omega (arith, rest, value_long (between o e mem) g.0, length-between mem o e (w 1 (omega arith)), r 0 (omega arith))

pub weighs_few : (mem ps : List ℕ) → Holds mem ps → weight_of (entries_of mem ps) ≤ 28 * length mem
weighs_few mem ps h = omega (arith, h.ends, weighs_least mem ps h.some h.rises h.within h.good)

abbrev pub cell_weight : List ℕ → ℕ
cell_weight c = 1280 + length (entry_of c).value

pub weight_sum : (cs : List (List ℕ)) → weight_of (map entry_of cs) ≡ sum_by cell_weight cs
unfolding weight_of
weight_sum [] = refl
weight_sum (c ∷ cs) = ap (λ n. cell_weight c + n) (weight_sum cs) ∙ sym (sum_by-cons cell_weight c cs)

-- what a tree takes
pub bytes_weigh : (mem ps : List ℕ) → Holds mem ps → length mem ≤ get_or ps 0 0 + weight_of (entries_of mem ps)
bytes_weigh mem ps h = omega (arith, h.ends, weighs mem ps h.some h.rises h.within h.good)
