-- The computed test is the same as being a tree that fits. Assumes nothing.
use Rattle.std.proofs.Common.{◌≡◌, ℕ, zero, suc, ◌+◌, ◌*◌, ◌<◌, ◌≤◌, Bool, leb, List, [], ◌∷◌, length, get_or, drop, Decides, refl, add-one, arith}
use Rattle.std.specs.List.{AllByRecursion}
use Rattle.std.proofs.lemmas.Bool.{and_parts, and_from, leb-true, le-leb}
use Rattle.std.proofs.lemmas.Bool.Decides.{Decides-and, Decides-eqb, Decides-like}
use Rattle.model.specs.Tree.{Entry, State, every, weight_of}
use Rattle.lent_bytes.specs.Numbers.{be32}
use Rattle.lent_bytes.specs.Paths.{path_bytes, path_of}
use Rattle.lent_bytes.proofs.Same.{same_name_decides}
use Rattle.cells.specs.Layout.{Formed, Holds, begins_at, cut, last_of, path_part}
use Rattle.cells.specs.Fits.{CountsTo, Fits}
use Rattle.scan.specs.Scans.{cell_long, walked, places_of, meaning}
use Rattle.content.specs.Content.{is_cell, is_held, counts_fit, does_fit, is_tree, TreeDecided}

every_decides : {A : Type 0} (p : A → Bool) (P : A → Type 0) → ((x : A) → Decides (p x) (P x)) → (xs : List A) → Decides (every p xs) (AllByRecursion P xs)
unfolding every
every_decides p P each [] = (λ _. tt, λ _. refl)
every_decides p P each (x ∷ xs) = (
  λ e. let both = and_parts (p x) (every p xs) e in ((each x).0 both.0, (every_decides p P each xs).0 both.1),
  λ h. and_from (p x) (every p xs) ((each x).1 h.0) ((every_decides p P each xs).1 h.1),
)

leb_decides : (a b : ℕ) → Decides (leb a b) (a ≤ b)
leb_decides a b = (leb-true a b, le-leb a b)

-- CELLS
cell_decides : (c : List ℕ) → Decides (is_cell c) (Formed c)
unfolding is_cell
cell_decides c =
    let both = Decides-and _ _ (Decides-eqb (length c) (48 + be32 c 4 + be32 c 0)) (Decides-and _ _ (leb_decides (be32 c 0) 65536) (Decides-and _ _ (same_name_decides (path_bytes (path_of (path_part c))) (path_part c)) (λ e. e, λ e. e))) in
    Decides-like (is_cell c) (λ h. record { long = h.0; short = h.1.0; spells = h.1.1.0; names = h.1.1.1 }) (λ f. (f.long, (f.short, (f.spells, f.names)))) both

-- PLACES: those that bytes have begin where they should, and rise
walked_first : (k at : ℕ) (rest : List ℕ) → (0 < length (walked k at rest)) × (get_or (walked k at rest) 0 0 ≡ at)
unfolding walked
walked_first zero at rest = (omega arith, refl)
walked_first (suc k) at [] = (omega arith, refl)
walked_first (suc k) at (b ∷ bs) = (omega arith, refl)

walked_rises : (k at : ℕ) (rest : List ℕ) (i : ℕ) → suc i < length (walked k at rest) → get_or (walked k at rest) i 0 ≤ get_or (walked k at rest) (suc i) 0
unfolding walked
walked_rises zero at rest i l = absurd (omega arith)
walked_rises (suc k) at [] i l = absurd (omega arith)
walked_rises (suc k) at (b ∷ bs) zero l = omega (arith, (walked_first k (at + cell_long (b ∷ bs)) (drop (cell_long (b ∷ bs)) (b ∷ bs))).1)
walked_rises (suc k) at (b ∷ bs) (suc i) l = walked_rises k (at + cell_long (b ∷ bs)) (drop (cell_long (b ∷ bs)) (b ∷ bs)) i (omega arith)

-- none is behind the last
below_last : (ps : List ℕ) → ((i : ℕ) → suc i < length ps → get_or ps i 0 ≤ get_or ps (suc i) 0) → (i : ℕ) → i < length ps → get_or ps i 0 ≤ last_of ps
unfolding last_of
below_last [] r i l = absurd (omega arith)
below_last (o ∷ []) r zero l = omega arith
below_last (o ∷ []) r (suc i) l = absurd (omega arith)
below_last (o ∷ e ∷ ps) r zero l = omega (arith, r 0 (omega arith), below_last (e ∷ ps) (λ i m. r (suc i) (omega arith)) 0 (omega arith))
below_last (o ∷ e ∷ ps) r (suc i) l = below_last (e ∷ ps) (λ i m. r (suc i) (omega arith)) i (omega arith)

held_decides : (bytes : List ℕ) → Decides (is_held bytes) (Holds bytes (places_of bytes))
unfolding is_held places_of
held_decides bytes =
    let ps = places_of bytes in
    let first = walked_first (length bytes) (begins_at bytes) (drop (begins_at bytes) bytes) in
    let rises = walked_rises (length bytes) (begins_at bytes) (drop (begins_at bytes) bytes) in
    let both = Decides-and _ _ (Decides-eqb (last_of ps) (length bytes)) (every_decides is_cell Formed cell_decides (cut bytes ps)) in
    Decides-like (is_held bytes)
    (λ h. record {
      some = first.0;
      begins = first.1;
      ends = h.0;
      rises = λ i l. rw (add-one i) (rises i (omega arith));
      within = λ i l. omega (arith, below_last ps rises i l, h.0);
      good = h.1;
    })
    (λ h. (h.ends, h.good)) both

-- FITTING
counts_decides : (limit : ℕ) (e : Entry) → Decides (counts_fit limit e) (CountsTo limit e)
counts_decides limit e =
    Decides-like (counts_fit limit e) (λ h. record { version = h.0; kids = h.1 }) (λ c. (c.version, c.kids)) (Decides-and _ _ (leb_decides e.version limit) (leb_decides e.kids limit))

fit_decides : (room : ℕ) (s : State) → Decides (does_fit room s) (Fits room s)
unfolding does_fit
fit_decides room s =
    let all = Decides-and _ _ (leb_decides (weight_of s.entries) room) (Decides-and _ _ (leb_decides (length s.sessions) 4096) (Decides-and _ _ (λ e. e, λ e. e) (Decides-and _ _ (leb_decides s.last_session s.changes)
    (Decides-and _ _ (leb_decides s.changes 72057594037927936) (Decides-and _ _ (leb_decides s.top (64 * s.changes)) (every_decides (counts_fit (64 * s.changes)) (CountsTo (64 * s.changes)) (counts_decides (64 * s.changes)) s.entries)))))) in
    Decides-like (does_fit room s)
    (λ h. record {
      weighs = h.0;
      few = h.1.0;
      rises = h.1.1.0;
      opened = h.1.1.1.0;
      early = h.1.1.1.1.0;
      counts = record { top = h.1.1.1.1.1.0; entries = h.1.1.1.1.1.1 };
    })
    (λ f. (f.weighs, (f.few, (f.rises, (f.opened, (f.early, (f.counts.top, f.counts.entries)))))))
    all

pub tree_decided : TreeDecided
unfolding is_tree
tree_decided room bytes =
    Decides-like (is_tree room bytes) (λ h. record { holds = h.0; fits = h.1 }) (λ t. (t.holds, t.fits)) (Decides-and (is_held bytes) (does_fit room (meaning bytes)) (held_decides bytes) (fit_decides room (meaning bytes)))
