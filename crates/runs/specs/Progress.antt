-- What it is for enough replicas to answer every call that waits, and to bring the others up again.
-- Assumes nothing.
use Rattle.std.specs.Prelude.{◌≡◌, ℕ, ◌*◌, ◌<◌, ◌≤◌, false, not, ◌&&◌, List, [], ◌++◌}
use mathlib.Core.List.{Memᴰ}
use Rattle.runs.specs.Replicas.{Said, Beat, Code, Scene, Letter, gone, there, Waits, Seen, gave, given, turned, woken, New, is_in, how_many, Goes}

-- What the replicas of a group can do from the scene s on by themselves: messages said since s within the group come (talk), ticks (beat), and replicas of the group that are down come up (wake).
-- No message from before s, none from outside, no new call, no crash. es: what clients see meanwhile.
pub data Among {M O R : Type 0} (c : Code M O R) (all : ℕ) (group : List ℕ) (s : Scene c.Mind M) : List (Seen O R) → Scene c.Mind M → Type 0 where
  stay : Among c all group s [] s
  talk : {es : List (Seen O R)} {t : Scene c.Mind M} (i : ℕ) (m : c.Mind) (l : Letter M) (new : List (Letter M)) → i < all → Memᴰ i group → Memᴰ l.by group → Among c all group s es t → t.house i ≡ there m → t.letters ≡ new ++ s.letters → Memᴰ l new → l.to ≡ i →
      Among c all group s (given i (c.turns (Said l.by l.word) m).does ++ es) (turned c i (c.turns (Said l.by l.word) m) t)
  beat : {es : List (Seen O R)} {t : Scene c.Mind M} (i : ℕ) (m : c.Mind) → i < all → Memᴰ i group → Among c all group s es t → t.house i ≡ there m → Among c all group s (given i (c.turns Beat m).does ++ es) (turned c i (c.turns Beat m) t)
  wake : {es : List (Seen O R)} {t : Scene c.Mind M} (i r : ℕ) → i < all → Memᴰ i group → New r t → Among c all group s es t → t.house i ≡ gone → Among c all group s es (woken c all i r t)

-- more than half of all replicas are in the group and not frail
abbrev pub Enough : {Mind M : Type 0} → (all : ℕ) → List ℕ → Scene Mind M → Type 0
Enough all group s = all < 2 * how_many all (λ i. is_in i group && not (s.frail i))

-- PROGRESS AND HEALING: from every scene that a run can reach, such a group has a way by which every call that waits with it is answered, and every replica of it has recovered.
abbrev pub AnswersAndHeals : {M O R : Type 0} → Code M O R → Type 0
AnswersAndHeals {M} {O} {R} c =
    (all n : ℕ) → 1 ≤ all → all ≤ 7 → n < 72057594037927936 → (es : List (Seen O R)) (s : Scene c.Mind M) → Goes c all n es s → (group : List ℕ) → Enough all group s →
    (fs : List (Seen O R)) × (t : Scene c.Mind M) × Among c all group s fs t × ((a : Waits) → Memᴰ a s.waits → Memᴰ a.house group → (r : R) × Memᴰ (gave a.house a.number r) fs) ×
    ((i : ℕ) → i < all → Memᴰ i group → t.frail i ≡ false)

-- The same from every scene that a run of fewer than `most` steps reaches
abbrev pub AnswersAndHealsWithin : {M O R : Type 0} → (most : ℕ) → Code M O R → Type 0
AnswersAndHealsWithin {M} {O} {R} most c =
    (all n : ℕ) → 1 ≤ all → all ≤ 7 → n < most → (es : List (Seen O R)) (s : Scene c.Mind M) → Goes c all n es s → (group : List ℕ) → Enough all group s →
    (fs : List (Seen O R)) × (t : Scene c.Mind M) × Among c all group s fs t × ((a : Waits) → Memᴰ a s.waits → Memᴰ a.house group → (r : R) × Memᴰ (gave a.house a.number r) fs) ×
    ((i : ℕ) → i < all → Memᴰ i group → t.frail i ≡ false)
