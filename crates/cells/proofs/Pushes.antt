-- Memory that holds a tree still does with one cell more behind it; and how the places of its cells lie. Assumes nothing.
use Rattle.std.proofs.Common.{◌≡◌, ℕ, zero, suc, ◌+◌, ◌-◌, ◌*◌, ◌<◌, ◌≤◌, List, [], ◌∷◌, ◌++◌, length, get_or, take, drop, sym, refl, ap, ◌∙◌, subst, ⊎_elim, add-zero, arith, length-append}
use Rattle.std.specs.List.{between, AllByRecursion}
use Rattle.std.proofs.lemmas.Slice.{between_is}
use Rattle.std.proofs.lemmas.List.{take-append-le, drop_at, take_all, get_or_append_left, get_or_at}
use Rattle.std.proofs.lemmas.Bool.{cases_lt}
use Rattle.std.proofs.ByRecursion.{All-push}
use Rattle.std.proofs.lemmas.List.Edits.{length-between}
use Rattle.cells.proofs.Cells.{length_entries}
use Rattle.cells.specs.Layout.{begins_at, cut, last_of, Formed, Holds, entries_of, prelude_of}
use Rattle.lent_bytes.proofs.Places.{be32_front}

-- what lies in the front stays
pub between_front : (m c : List ℕ) (o e : ℕ) → e ≤ length m → between o e (m ++ c) ≡ between o e m
between_front m c o e h = between_is (m ++ c) o e ∙ ap (drop o) (take-append-le e m c h) ∙ sym (between_is m o e)

between_back : (m c : List ℕ) (o : ℕ) → o ≡ length m → between o (length m + length c) (m ++ c) ≡ c
between_back m c o e =
    let n : length m + length c - o ≡ length c = omega arith in
    ap (λ l. take (length m + length c - o) l) (drop_at m c o (sym e)) ∙ take_all (length m + length c - o) c (omega arith)

pub cut_push : (m c ps : List ℕ) → 0 < length ps → last_of ps ≡ length m → ((i : ℕ) → i < length ps → get_or ps i 0 ≤ length m) →
    cut (m ++ c) (ps ++ (length m + length c) ∷ []) ≡ cut m ps ++ c ∷ []
unfolding cut last_of
cut_push m c [] s e w = absurd (omega arith)
cut_push m c (o ∷ []) s e w = ap (λ x. x ∷ []) (between_back m c o e)
cut_push m c (o ∷ n ∷ ps) s e w =
    let rest = cut_push m c (n ∷ ps) (omega arith) e (λ i l. w (suc i) (omega arith)) in
    let one = between_front m c o n (w 1 (omega arith)) in
    cc

last_push : (ps : List ℕ) (x : ℕ) → last_of (ps ++ x ∷ []) ≡ x
unfolding last_of
last_push [] x = refl
last_push (o ∷ []) x = refl
last_push (o ∷ e ∷ ps) x = last_push (e ∷ ps) x

pub holds_push : (m c ps : List ℕ) → Holds m ps → Formed c → Holds (m ++ c) (ps ++ (length m + length c) ∷ [])
holds_push m c ps h g =
    let x = length m + length c in
    let long = length-append m c in
    let more = length-append ps (x ∷ []) in
    let old = λ (i : ℕ) (l : i < length ps). get_or_append_left ps (x ∷ []) 0 i l in
    let same = be32_front m c 24 (omega (arith, h.begins, h.within 0 h.some)) in
    record {
      some = omega arith;
      begins = old 0 h.some ∙ h.begins ∙ ap (λ (k : ℕ). 28 + 8 * k) (sym same);
      ends = last_push ps x ∙ sym long;
      rises = λ i l.
          ⊎_elim
          (λ lt. let a = old i (omega arith) in let b = old (i + 1) lt in omega (arith, h.rises i lt))
          (λ ge. let a = old i (omega arith) in let b = get_or_at ps x [] 0 (i + 1) (omega arith) in omega (arith, h.within i (omega arith)))
          (cases_lt (i + 1) (length ps));
      within = λ i l.
          ⊎_elim
          (λ lt. let a = old i lt in omega (arith, h.within i lt))
          (λ ge. let b = get_or_at ps x [] 0 i (omega arith) in omega arith)
          (cases_lt i (length ps));
      good = subst (λ cs. AllByRecursion Formed cs) (sym (cut_push m c ps h.some h.ends h.within)) (All-push Formed (cut m ps) c h.good g);
    }

pub prelude_push : (m c ps : List ℕ) → Holds m ps → prelude_of (m ++ c) (ps ++ (length m + length c) ∷ []) ≡ prelude_of m ps
prelude_push m c ps h =
    ap (λ n. take n (m ++ c)) (get_or_append_left ps ((length m + length c) ∷ []) 0 0 h.some) ∙ take-append-le (get_or ps 0 0) m c (h.within 0 h.some)

pub climbs : (m ps : List ℕ) → Holds m ps → (i k : ℕ) → i + k < length ps → get_or ps i 0 ≤ get_or ps (i + k) 0
climbs m ps h i zero l = rw (add-zero i) (omega arith)
climbs m ps h i (suc k) l =
    let at : i + suc k ≡ i + k + 1 = omega arith in
    rw at (omega (arith, climbs m ps h i k (omega arith), h.rises (i + k) (omega arith)))

pub climb : (m ps : List ℕ) → Holds m ps → (i j : ℕ) → i ≤ j → j < length ps → get_or ps i 0 ≤ get_or ps j 0
climb m ps h i j le l =
    let at : i + (j - i) ≡ j = omega arith in
    rw at at (climbs m ps h i (j - i) (omega arith))

pub holds_none : (m : List ℕ) → length m ≡ begins_at m → Holds m (length m ∷ [])
unfolding last_of cut
holds_none m b = record {
  some = omega arith;
  begins = b;
  ends = refl;
  rises = λ i l. absurd (omega arith);
  within = λ i l. let z : i ≡ 0 = omega arith in rw z (omega arith);
  good = tt;
}

-- the last place is where the bytes end
pub last_place : (ps : List ℕ) → last_of ps ≡ get_or ps (length ps - 1) 0
unfolding last_of
last_place [] = refl
last_place (o ∷ []) = refl
last_place (o ∷ e ∷ ps) =
    let a : length (o ∷ e ∷ ps) - 1 ≡ suc (length ps) = omega arith in
    let b : length (e ∷ ps) - 1 ≡ length ps = omega arith in
    last_place (e ∷ ps) ∙ ap (λ n. get_or (e ∷ ps) n 0) b ∙ sym (ap (λ n. get_or (o ∷ e ∷ ps) n 0) a)

pub ends_at : (m ps : List ℕ) (k : ℕ) → Holds m ps → k + 1 ≡ length ps → get_or ps k 0 ≡ length m
ends_at m ps k h e =
    let last : k ≡ length ps - 1 = omega arith in
    rw last (sym (last_place ps) ∙ h.ends)

-- how the places around an entry lie
pub record Spans (m ps : List ℕ) (i : ℕ) : Type 0 where
  pub first : get_or ps 0 0 ≤ get_or ps i 0
  pub own : get_or ps i 0 ≤ get_or ps (i + 1) 0
  pub last : get_or ps (i + 1) 0 ≤ get_or ps (length ps - 1) 0
  pub end : get_or ps (length ps - 1) 0 ≡ length m

pub spans : (m ps : List ℕ) (i : ℕ) → Holds m ps → i + 1 < length ps → Spans m ps i
spans m ps i h l = record {
  first = climb m ps h 0 i (omega arith) (omega arith);
  own = h.rises i l;
  last = climb m ps h (i + 1) (length ps - 1) (omega arith) (omega arith);
  end = sym (last_place ps) ∙ h.ends;
}

pub length_span : (m ps : List ℕ) (i j : ℕ) → j < length ps → length (between i j (entries_of m ps)) ≡ j - i
length_span m ps i j l = length-between (entries_of m ps) i j (omega (arith, length_entries m ps))
