-- What replicas say: to whom, that every number fits its letter, and which proposal goes with it.
use Rattle.std.specs.Prelude.{◌≡◌, ℕ, ◌<◌, ◌≤◌, ◌⊎◌, List, ◌≢◌}
use mathlib.Core.List.{Memᴰ}
use Rattle.runs.specs.Replicas.{Comes, Said, Call', Beat, Says, Letter, Scene, Seen, Goes}
use Rattle.agreement.specs.declared.ProposalId.{ProposalId}
use Rattle.agreement.specs.Content.{Service, Content, Proposal, Change, limit, FitView, FitProposal}
use Rattle.agreement.specs.Machine.{Msg, Prepare, Promise, Propose, Alive, Accepted, Join, Forward, Mind, content_of, accepted, turn, code}

-- every message is from one replica to another
abbrev pub ToOthers : Service → Type 0
ToOthers sv =
    (all n : ℕ) → all ≤ 7 → (es : List (Seen sv.O sv.R)) (s : Scene (Mind sv) (Msg sv)) → Goes (code sv) all n es s → (l : Letter (Msg sv)) → Memᴰ l s.letters → (l.by < all) × (l.to < all) × (l.to ≢ l.by)

abbrev pub FitId : (all : ℕ) → ProposalId → Type 0
FitId all d = FitView all d.view × (d.seq < limit)

-- the numbers of a message: of 64 bits, and leaders that there are
abbrev pub FitWord : {sv : Service} → (all : ℕ) → Msg sv → Type 0
FitWord all (Prepare v) = FitView all v
FitWord all (Promise v x p) = FitView all v × (x < limit) × FitProposal all p
FitWord all (Propose p c) = FitProposal all p
FitWord all (Alive d c x) = FitId all d × (x < limit)
FitWord all (Accepted d x) = FitId all d × (x < limit)
FitWord all (Join q) = (q.incarnation < limit) × (q.replaces < limit)
FitWord all (Forward a) = (a.incarnation < limit) × (a.no < limit) × (a.number < limit)

abbrev pub SaidFits : Service → Type 0
SaidFits sv = (all n : ℕ) → all ≤ 7 → (es : List (Seen sv.O sv.R)) (s : Scene (Mind sv) (Msg sv)) → Goes (code sv) all n es s → (l : Letter (Msg sv)) → Memᴰ l s.letters → FitWord all l.word

-- the proposal that a message carries
abbrev pub Carries : {sv : Service} → Proposal sv → Msg sv → Type 0
Carries p (Prepare v) = Unit {0}
Carries p (Promise v x q) = q ≡ p
Carries p (Propose q c) = q ≡ p
Carries p (Alive d c x) = Unit {0}
Carries p (Accepted d x) = Unit {0}
Carries p (Join q) = Unit {0}
Carries p (Forward a) = Unit {0}

-- Whatever comes, and whatever the replica has: each proposal that it says in a turn is the one that it holds after that turn. So what is said can be written out when the turn is over.
abbrev pub CarriesAccepted : Service → Type 0
CarriesAccepted sv = (x : Comes (Msg sv) sv.O) (m : Mind sv) (j : ℕ) (w : Msg sv) → Memᴰ (Says j w) (turn x m).does → Carries (accepted (turn x m).mind) w

-- the content that comes with what comes
abbrev pub Brings : {sv : Service} → Comes (Msg sv) sv.O → Content sv → Type 0
Brings (Said j (Prepare v)) c = ⊥
Brings (Said j (Promise v x p)) c = c ≡ p.content
Brings (Said j (Propose p d)) c = c ≡ p.content
Brings (Said j (Alive d e x)) c = ⊥
Brings (Said j (Accepted d x)) c = ⊥
Brings (Said j (Join q)) c = ⊥
Brings (Said j (Forward a)) c = ⊥
Brings (Call' n o) c = ⊥
Brings Beat c = ⊥

-- Whatever comes, and whatever the replica has: after a turn it has the content that it had, with at most one job more, or the content of the letter that came. So two places for contents are enough.
abbrev pub OneContent : Service → Type 0
OneContent sv = (x : Comes (Msg sv) sv.O) (m : Mind sv) → Change (content_of m) (content_of (turn x m).mind) ⊎ Brings x (content_of (turn x m).mind)
