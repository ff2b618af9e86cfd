-- Places that hold bytes are those that the bytes have: so bytes have one meaning. Assumes nothing.
use Rattle.std.proofs.Common.{◌≡◌, ℕ, zero, suc, ◌+◌, ◌-◌, ◌<◌, ◌≤◌, List, [], ◌∷◌, length, get_or, drop, sym, refl, ap, ◌∙◌, subst, arith, length-drop}
use Rattle.std.specs.List.{AllByRecursion}
use Rattle.std.proofs.lemmas.List.{drop_all, drop-drop}
use Rattle.cells.specs.Layout.{Formed, Holds, cut, last_of, state_of}
use Rattle.cells.specs.Fits.{Fits}
use Rattle.scan.specs.Scans.{cell_long, walked, places_of, IsTree, HoldsUnique}
use Rattle.scan.proofs.Ends.{only}

walked_end : (k at : ℕ) → walked k at [] ≡ at ∷ []
unfolding walked
walked_end zero at = refl
walked_end (suc k) at = refl

walked_step : (k at : ℕ) (rest : List ℕ) → 0 < length rest → walked (suc k) at rest ≡ at ∷ walked k (at + cell_long rest) (drop (cell_long rest) rest)
unfolding walked
walked_step k at [] s = absurd (omega arith)
walked_step k at (b ∷ bs) s = refl

walked_is : (mem ps : List ℕ) (k : ℕ) → 0 < length ps → last_of ps ≡ length mem → ((i : ℕ) → i + 1 < length ps → get_or ps i 0 ≤ get_or ps (i + 1) 0) → ((i : ℕ) → i < length ps → get_or ps i 0 ≤ length mem) → AllByRecursion Formed (cut mem ps) →
    length mem ≤ k + get_or ps 0 0 → ps ≡ walked k (get_or ps 0 0) (drop (get_or ps 0 0) mem)
unfolding cut last_of
walked_is mem [] k s e r w g far = absurd (omega arith)
walked_is mem (o ∷ []) k s e r w g far = sym (ap (walked k o) (drop_all o mem (omega arith)) ∙ walked_end k o)
walked_is mem (o ∷ n ∷ ps) zero s e r w g far =
    let long = length-drop o mem in
    absurd (omega (arith, (only (drop o mem) (n - o) (omega (arith, w 1 (omega arith))) g.0).0, w 1 (omega arith), r 0 (omega arith)))
walked_is mem (o ∷ n ∷ ps) (suc k) s e r w g far =
    let rest = drop o mem in
    let long = length-drop o mem in
    let up = r 0 (omega arith) in
    let high = w 1 (omega arith) in
    let cell = (only (drop o mem) (n - o) (omega arith) g.0).0 in
    let at : o + cell_long (drop o mem) ≡ n = omega arith in
    let on : drop (cell_long (drop o mem)) (drop o mem) ≡ drop n mem = drop-drop (cell_long (drop o mem)) o mem ∙ ap (λ (m : ℕ). drop m mem) at in
    let more = walked_is mem (n ∷ ps) k (omega arith) e
    (λ i l. let a : suc (i + 1) ≡ suc i + 1 = omega arith in subst (λ (m : ℕ). get_or (n ∷ ps) i 0 ≤ get_or (o ∷ n ∷ ps) m 0) (sym a) (r (suc i) (omega arith)))
    (λ i l. w (suc i) (omega arith)) g.1 (omega arith) in
    ap (λ (l : List ℕ). o ∷ l) (more ∙ (λ i. walked k (sym at i) (sym on i))) ∙ sym (walked_step k o (drop o mem) (omega arith))

pub holds_unique : HoldsUnique
unfolding places_of
holds_unique bytes ps h =
    walked_is bytes ps (length bytes) h.some h.ends h.rises h.within h.good (omega arith) ∙ ap (λ (o : ℕ). walked (length bytes) o (drop o bytes)) h.begins

-- places that hold bytes which fit make them a tree, and the places of a tree fit
pub is_tree_lem : (room : ℕ) (bytes ps : List ℕ) → Holds bytes ps → Fits room (state_of bytes ps) → IsTree room bytes
is_tree_lem room bytes ps h f =
    let e = holds_unique bytes ps h in
    record { holds = subst (Holds bytes) e h; fits = subst (λ (qs : List ℕ). Fits room (state_of bytes qs)) e f }

pub tree_fits : (room : ℕ) (bytes ps : List ℕ) → Holds bytes ps → IsTree room bytes → Fits room (state_of bytes ps)
tree_fits room bytes ps h t = subst (λ (qs : List ℕ). Fits room (state_of bytes qs)) (sym (holds_unique bytes ps h)) t.fits
