-- What clients of the replicas can rely on, in their own words, over every run with crashes, forgetting and waking. Each is a type; a proof of the type is the theorem.
-- Assumes nothing.
use Rattle.std.specs.Prelude.{◌≡◌, ℕ, ◌≤◌, false, ◌⊎◌, List, [], ◌∷◌, ◌++◌}
use mathlib.Core.List.{Memᴰ}
use Rattle.model.specs.Tree.{Path, State, Expect, Make, Drop, Call, Do, Reply, No, Done, core}
use Rattle.runs.specs.Replicas.{Scene, Seen, asked, gave, Goes}
use Rattle.runs.specs.Order.{Deed, Line, Ordered, done_often, asked_often}
use Rattle.promise.specs.Promise.{tree}
use Rattle.agreement.specs.Machine.{Msg, Mind, code}
use Rattle.service.specs.Service.{calls}

-- whatever clients see in a run of the replicas, however long
abbrev pub InEveryRun : ℕ → (List (Seen Call Reply) → Type 0) → Type 0
InEveryRun room P = (all n : ℕ) → 1 ≤ all → all ≤ 7 → (es : List (Seen Call Reply)) (s : Scene (Mind (calls room)) (Msg (calls room))) → Goes (code (calls room)) all n es s → P es

-- in a line of calls that were done: one that was refused left the tree as it was
abbrev pub RefusedKeeps : ℕ → List (Deed Call Reply) → Type 0
RefusedKeeps room ds = (newer older : List (Deed Call Reply)) (d : Deed Call Reply) (n k : ℕ) → ds ≡ newer ++ d ∷ older → d.reply ≡ No n k → (u : State) × Line (tree room core) older u × Line (tree room core) (d ∷ older) u

-- AN ORDER. There is an order in which one clerk with one tree did the calls that were done, each once at most, also those of replicas that crashed; every answer that was given is the one that the clerk gave, or the call was handed back (11), and then it is none of those that were done; what the clerk refused, by whichever number, left the tree as it was; and a call that came in after an answer was seen is done after the call of that answer
abbrev pub OneAfterTheOther : ℕ → Type 0
OneAfterTheOther room = InEveryRun room (λ es. (t : State) × (o : Ordered (tree room core) es t) × ((k : ℕ) → done_often k o.deeds ≤ 1) × ((i k : ℕ) → Memᴰ (gave i k (No 0 11)) es → done_often k o.deeds ≡ 0) × RefusedKeeps room o.deeds)

-- NEVER BACK. Who looks after an answer was seen, at whichever replica, is answered by a tree that comes from the one of that answer by calls that were done since: what was done up to the first is the older part of all that was done, a call not yet asked by then is none of it, and every answer, also of later, is of a call in the whole: so a later call's answer is of the newer part
abbrev pub NeverBack : ℕ → Type 0
NeverBack room =
    InEveryRun room (λ es. (xs ys : List (Seen Call Reply)) → es ≡ xs ++ ys →
    (newer older : List (Deed Call Reply)) × (t u : State) × Line (tree room core) (newer ++ older) t × Line (tree room core) older u ×
    ((i k : ℕ) (r : Reply) → Memᴰ (gave i k r) ys → (r ≡ No 0 11) ⊎ ((d : Deed Call Reply) × Memᴰ d older × (d.number ≡ k) × (d.reply ≡ r))) × ((k : ℕ) → asked_often k ys ≡ 0 → done_often k older ≡ 0) ×
    ((i k : ℕ) (r : Reply) → Memᴰ (gave i k r) es → (r ≡ No 0 11) ⊎ ((d : Deed Call Reply) × Memᴰ d (newer ++ older) × (d.number ≡ k) × (d.reply ≡ r))))

-- ONE MAKER. Of several that make the same path, while nobody asks to drop it, one at most is told that it was made
abbrev pub OneMaker : ℕ → Type 0
OneMaker room =
    InEveryRun room (λ es. (p : Path) (i j k q : ℕ) (v w : List ℕ) → Memᴰ (asked i k (Do (Make p v false 0 ∷ []))) es → Memᴰ (asked j q (Do (Make p w false 0 ∷ []))) es →
    ((a b : ℕ) (x : Expect) → Memᴰ (asked a b (Do (Drop p x ∷ []))) es → ⊥) → Memᴰ (gave i k (Done (p ∷ []))) es → Memᴰ (gave j q (Done (p ∷ []))) es → k ≡ q)
