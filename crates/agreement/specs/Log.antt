-- A history of what proposers and voters did, each thing with what had to hold when it was done.
use Rattle.std.specs.Prelude.{◌≡◌, ℕ, suc, ◌+◌, ◌<◌, ◌≤◌, max, Bool, false, cond, ◌&&◌, ◌||◌, ◌⊎◌, List, [], ◌∷◌, length, ◌==◌}
use Rattle.agreement.specs.Facts.{World, Chosen, Origin, Welcome, ChosenInLine}
use Rattle.agreement.specs.Content.{Service, Proposal, id_of, view_of, leader_of, inc_of, root, place_at, roster, Content, Change, copied, by_call, by_join, FitProposal}

-- draws: the replica s comes up as the incarnation x. asks: a call of the client's number n comes in at x of s, as its k-th. makes: a leader makes a proposal. votes: x of s accepts it. pledges: x of s promises the view v, and reports the proposal
pub data Event (sv : Service) : Type 0 where
  draws : (s x : ℕ) → Event sv
  asks : (s x k n : ℕ) → sv.O → Event sv
  makes : Proposal sv → Event sv
  votes : (s x : ℕ) → Proposal sv → Event sv
  pledges : (s x v : ℕ) → Proposal sv → Event sv

-- when x was drawn at the replica s; 0 for not at all. All replicas are 0 at the beginning
abbrev pub age_in : {sv : Service} → List (Event sv) → ℕ → ℕ → ℕ
age_in [] s x = cond (x == 0) 1 0
age_in (draws j y ∷ h) s x = cond (j == s && y == x) (2 + length h) (age_in h s x)
age_in (asks j y k n o ∷ h) s x = age_in h s x
age_in (makes p ∷ h) s x = age_in h s x
age_in (votes j y p ∷ h) s x = age_in h s x
age_in (pledges j y v p ∷ h) s x = age_in h s x

-- the highest of what the things of a history count for
abbrev pub top : {sv : Service} → (Event sv → ℕ) → List (Event sv) → ℕ
top f [] = 0
top f (e ∷ h) = max (f e) (top f h)

-- the view that x of the replica s promises in a thing; the id that it votes for; one more than the id that it makes in a view of its own
abbrev pub pledge_of : {sv : Service} → (s x : ℕ) → Event sv → ℕ
pledge_of s x (draws j y) = 0
pledge_of s x (asks j y k n o) = 0
pledge_of s x (makes p) = 0
pledge_of s x (votes j y p) = 0
pledge_of s x (pledges j y v p) = cond (j == s && y == x) v 0

abbrev pub vote_of : {sv : Service} → (s x : ℕ) → Event sv → ℕ
vote_of s x (draws j y) = 0
vote_of s x (asks j y k n o) = 0
vote_of s x (makes p) = 0
vote_of s x (votes j y p) = cond (j == s && y == x) (id_of p) 0
vote_of s x (pledges j y v p) = 0

abbrev pub made_of : {sv : Service} → (s x : ℕ) → Event sv → ℕ
made_of s x (draws j y) = 0
made_of s x (asks j y k n o) = 0
made_of s x (makes p) = cond (leader_of (view_of p) == s && inc_of (view_of p) == x) (suc (id_of p)) 0
made_of s x (votes j y p) = 0
made_of s x (pledges j y v p) = 0

-- which of the calls of x at s it is
abbrev pub ask_of : {sv : Service} → (s x : ℕ) → Event sv → ℕ
ask_of s x (draws j y) = 0
ask_of s x (asks j y k n o) = cond (j == s && y == x) k 0
ask_of s x (makes p) = 0
ask_of s x (votes j y p) = 0
ask_of s x (pledges j y v p) = 0

-- was the client's number n used
abbrev pub is_used : {sv : Service} → ℕ → List (Event sv) → Bool
is_used n [] = false
is_used n (draws j y ∷ h) = is_used n h
is_used n (asks j y k q o ∷ h) = n == q || is_used n h
is_used n (makes p ∷ h) = is_used n h
is_used n (votes j y p ∷ h) = is_used n h
is_used n (pledges j y v p ∷ h) = is_used n h

-- At h t e: e is in the history h, and t things were before it
abbrev pub At : {sv : Service} → List (Event sv) → ℕ → Event sv → Type 0
At [] t e = ⊥
At (x ∷ h) t e = ((t ≡ length h) × (e ≡ x)) ⊎ At h t e

-- the call that is done is the next one of the incarnation in its place
abbrev pub CallAsked : {sv : Service} → List (Event sv) → (q : Proposal sv) → {c : Content sv} → Change q.content c → Type 0
CallAsked h q copied = Unit {0}
CallAsked h q (by_call j n o) = (j < 7) × (t : ℕ) × At h t (asks j (roster q j) (suc (place_at q j).no) n o)
CallAsked h q (by_join j x) = Unit {0}

-- the step from a proposal to the next: one job is done, or none; each place keeps its incarnation or gets a younger one; and as long as it keeps it, the number of its calls that were done does not fall
pub record Step {sv : Service} (h : List (Event sv)) (q p : Proposal sv) : Type 0 where
  pub change : Change q.content p.content
  pub asked : CallAsked h q change
  pub drawn : (s : ℕ) → 0 < age_in h s (roster q s)
  pub younger : (s : ℕ) → age_in h s (roster q s) ≤ age_in h s (roster p s)
  pub rises : (s : ℕ) → roster q s ≡ roster p s → (place_at q s).no ≤ (place_at p s).no

abbrev pub world : {sv : Service} → (all : ℕ) → List (Event sv) → World
world {sv} all h =
    record {
      P = Proposal sv;
      all = all;
      root = root sv;
      id = λ (p : Proposal sv). id_of p;
      view = λ (p : Proposal sv). view_of p;
      roster = λ (p : Proposal sv). roster p;
      age = age_in h;
      From = Step h;
      Made = λ p. (p ≡ root sv) ⊎ ((t : ℕ) × At h t (makes p));
      Vote = λ t s x p. At h t (votes s x p);
      Pledge = λ s x v p. (t : ℕ) × At h t (pledges s x v p);
    }

-- a chosen proposal, and by at most one job on its content that of p
abbrev pub Base : {sv : Service} → (all : ℕ) → List (Event sv) → Proposal sv → Type 0
Base {sv} all h p = (q : Proposal sv) × Chosen (world all h) (length h) q × Change q.content p.content

-- WHAT HAS TO HOLD before each. Asked: as the next call of its replica, under a new number
pub record AsksOk {sv : Service} (h : List (Event sv)) (s x k n : ℕ) : Type 0 where
  pub drawn : 0 < age_in h s x
  pub next : top (ask_of s x) h < k
  pub new : is_used n h ≡ false

-- made: it came about in one of three ways, and its id is new
pub record MakesOk {sv : Service} (all : ℕ) (h : List (Event sv)) (p : Proposal sv) : Type 0 where
  pub origin : Origin (world all h) p
  pub base : Base all h p
  pub new : top (made_of (leader_of (view_of p)) (inc_of (view_of p))) h ≤ id_of p
  pub not_root : 0 < id_of p
  pub fits : FitProposal all p
  pub drawn : (s : ℕ) → 0 < age_in h s (roster p s)
  pub leader : 0 < age_in h (leader_of (view_of p)) (inc_of (view_of p))

-- voted for: by one that was welcomed, and not below a view that it promised
pub record VotesOk {sv : Service} (all : ℕ) (h : List (Event sv)) (s x : ℕ) (p : Proposal sv) : Type 0 where
  pub made : (world all h).Made p
  pub welcome : Welcome (world all h) (length h) s x p
  pub not_below : top (pledge_of s x) h ≤ view_of p

-- promised: by one that was welcomed, and it reports as much as it voted for
pub record PledgesOk {sv : Service} (all : ℕ) (h : List (Event sv)) (s x v : ℕ) (p : Proposal sv) : Type 0 where
  pub made : (world all h).Made p
  pub welcome : Welcome (world all h) (length h) s x p
  pub reports : top (vote_of s x) h ≤ id_of p
  pub later : view_of p < v

-- drawn: never before
abbrev pub Ok : {sv : Service} → (all : ℕ) → List (Event sv) → Event sv → Type 0
Ok all h (draws s x) = age_in h s x ≡ 0
Ok all h (asks s x k n o) = AsksOk h s x k n
Ok all h (makes p) = MakesOk all h p
Ok all h (votes s x p) = VotesOk all h s x p
Ok all h (pledges s x v p) = PledgesOk all h s x v p

-- a history, newest first, in which each thing had what it needed
pub data Log {sv : Service} (all : ℕ) : List (Event sv) → Type 0 where
  begins : Log all []
  goes_on : {h : List (Event sv)} {e : Event sv} → Log all h → Ok all h e → Log all (e ∷ h)

-- AGREEMENT over histories: whatever was chosen is in the line of every later proposal
abbrev pub AllAgree : Service → Type 0
AllAgree sv = (all : ℕ) (h : List (Event sv)) → Log all h → ChosenInLine (world all h)
