-- A TABLE OF SHORT RUNS: each row is a run, mostly of three replicas, with what clients see (newest first) and what is so in the end.
use Rattle.std.specs.Prelude.{◌≡◌, ℕ, true, false, List, [], ◌∷◌, length}
use mathlib.Core.List.{Memᴰ}
use Rattle.runs.specs.Replicas.{Scene, Seen, asked, gave, Said, Goes, there}
use Rattle.agreement.specs.declared.Role.TheVariants.{Follower, Leader}
use Rattle.agreement.specs.Content.{roster}
use Rattle.agreement.specs.Machine.{Msg, Join, Mind, accepted, still, turn, code}
use Rattle.agreement.specs.Sums.{sums}

-- there is a run of so many replicas in which clients see es, and in the end P
abbrev pub Shows : (all : ℕ) → List (Seen ℕ ℕ) → (Scene (Mind sums) (Msg sums) → Type 0) → Type 0
Shows all es P = (n : ℕ) × (s : Scene (Mind sums) (Msg sums)) × Goes (code sums) all n es s × P s

-- the replica i is there, and P of its mind
abbrev pub Has : ℕ → (Mind sums → Type 0) → Scene (Mind sums) (Msg sums) → Type 0
Has i P s = (m : Mind sums) × (s.house i ≡ there m) × P m

-- 1. Replica 1 is asked to add 5, and answers 2 more than the sum.
abbrev pub CallAnswered : Type 0
CallAnswered = Shows 3 (gave 1 10 7 ∷ asked 1 10 5 ∷ []) (λ s. Has 1 (λ m. m.waiting ≡ []) s)

-- 2. Then replica 1 crashes and comes up as incarnation 77, joins, is whole and in its place; and the sum is seen at replica 2, and at replica 1 itself.
abbrev pub CrashAndBack : Type 0
CrashAndBack =
    Shows 3 (gave 1 12 7 ∷ asked 1 12 0 ∷ gave 2 11 7 ∷ asked 2 11 0 ∷ gave 1 10 7 ∷ asked 1 10 5 ∷ [])
    (λ s. (s.frail 1 ≡ false) × Has 1 (λ m. (m.agreement.incarnation ≡ 77) × (roster (accepted m) 1 ≡ 77)) s)

-- 3. Replica 1 comes up as 77, asks to be written in, crashes again, comes up as 88 and is written in; the Join of 77 is still under way. When it comes, nothing happens.
abbrev pub join77 : Msg sums
join77 = Join (record { incarnation = 77; replaces = 0 })

abbrev pub LateJoin : Type 0
LateJoin =
    Shows 3 [] (λ s. (s.frail 1 ≡ false) × Memᴰ (record { by = 1; to = 0; word = join77 }) s.letters × Has 0 (λ m. (m.agreement.role ≡ Leader) × (roster (accepted m) 1 ≡ 88) × (turn (Said 1 join77) m ≡ still m)) s)

-- 4. Replica 1 loses patience, and leads with replica 2. Replica 0 does not know, leads still, is asked to add 9, and proposes that in its old view. It gets no vote but the new view, follows, and has its call done there.
abbrev pub StaleLeader : Type 0
StaleLeader = Shows 3 (gave 0 12 11 ∷ asked 0 12 9 ∷ []) (λ s. Has 0 (λ m. (m.agreement.role ≡ Follower) × (m.agreement.promised.leader ≡ 1)) s)

-- 5. Replica 1 came up again and is not whole. It is asked what can be refused whatever the sum is, and does so at once.
abbrev pub QuickAnswer : Type 0
QuickAnswer = Shows 3 (gave 1 13 1 ∷ asked 1 13 1 ∷ []) (λ s. s.frail 1 ≡ true)

-- 6. Eight calls wait at replica 1; the ninth is handed back.
abbrev pub NinthCall : Type 0
NinthCall =
    Shows 3 (gave 1 28 0 ∷ asked 1 28 5 ∷ asked 1 27 5 ∷ asked 1 26 5 ∷ asked 1 25 5 ∷ asked 1 24 5 ∷ asked 1 23 5 ∷ asked 1 22 5 ∷ asked 1 21 5 ∷ asked 1 20 5 ∷ [])
    (λ s. Has 1 (λ m. length m.waiting ≡ 8) s)

-- 7. One replica alone answers each call in its turn.
abbrev pub Alone : Type 0
Alone = Shows 1 (gave 0 2 7 ∷ asked 0 2 0 ∷ gave 0 1 7 ∷ asked 0 1 5 ∷ []) (λ s. s.letters ≡ [])

abbrev pub ShortRuns : Type 0
ShortRuns = CallAnswered × CrashAndBack × LateJoin × StaleLeader × QuickAnswer × NinthCall × Alone
