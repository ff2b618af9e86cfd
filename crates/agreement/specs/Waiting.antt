-- What clients see: which calls are answered, how often and when; that clients can't tell the replicas from one clerk; and which replicas are whole.
use Rattle.std.specs.Prelude.{◌≡◌, ℕ, ◌+◌, ◌≤◌, true, false, cond, List, [], ◌∷◌, ◌==◌}
use Rattle.runs.specs.Replicas.{Scene, Seen, asked, gave, Goes, there}
use Rattle.runs.specs.Room.{LikeARoom, OnlyWaiting, BusyAtNine}
use Rattle.agreement.specs.Content.{Service}
use Rattle.agreement.specs.Machine.{Msg, Mind, is_member, code}

-- a call is answered only while it waits
abbrev pub AnswersWaiting : Service → Type 0
AnswersWaiting sv = OnlyWaiting (code sv)

-- a call is handed back only at once, and only where eight wait
abbrev pub HandsBack : Service → Type 0
HandsBack sv = BusyAtNine sv.clerk (code sv)

-- a replica that is not frail is there, and is a member; one that is frail and there is not
abbrev pub WholeIsMember : Service → Type 0
WholeIsMember sv =
    (all n : ℕ) (es : List (Seen sv.O sv.R)) (s : Scene (Mind sv) (Msg sv)) → Goes (code sv) all n es s → (i : ℕ) →
    (s.frail i ≡ false → (m : Mind sv) × (s.house i ≡ there m) × (is_member m.agreement.role ≡ true)) × ((m : Mind sv) → s.frail i ≡ true → s.house i ≡ there m → is_member m.agreement.role ≡ false)

-- how often the call of this number was answered
unfoldable pub times_given : {O R : Type 0} → ℕ → List (Seen O R) → ℕ
times_given k [] = 0
times_given k (asked i n o ∷ es) = times_given k es
times_given k (gave i n r ∷ es) = cond (k == n) (1 + times_given k es) (times_given k es)

-- a call is answered at most once
abbrev pub AnsweredOnce : Service → Type 0
AnsweredOnce sv = (all n : ℕ) (es : List (Seen sv.O sv.R)) (s : Scene (Mind sv) (Msg sv)) → Goes (code sv) all n es s → (k : ℕ) → times_given k es ≤ 1

-- clients can't tell the replicas from one clerk in one room
abbrev pub Linearizable : Service → Type 0
Linearizable sv = LikeARoom sv.clerk (code sv)
