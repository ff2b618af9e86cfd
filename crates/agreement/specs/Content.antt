-- What is agreed on, step by step: the state of a service, and for each replica a place. The service is any: nothing of it is opened here.
use Rattle.std.specs.Prelude.{◌≡◌, ℕ, suc, ◌+◌, ◌*◌, ◌/◌, ◌%◌, ◌<◌, Bool, true, false, cond, List, [], ◌∷◌, length, Some, None, Option, ◌≢◌, slice_index_or, slice_set}
use Rattle.runs.specs.Room.{Clerk}
use Rattle.agreement.specs.declared.View.{View}
use Rattle.agreement.specs.declared.ProposalId.{ProposalId}
use Rattle.agreement.specs.declared.Place.{Place}

-- THE SERVICE. Calls O, replies R, the clerk who does them; which calls only read; which can be answered whatever the state is (quick).
-- K: what is kept of a write that was done, until its replica has answered it (keep); from that and the call that waits the reply is made (say).
-- calm: may one more call be done, that is, do the state's own counts stay within 64 bits; tested before a call is proposed, so that nothing has to be counted.
pub record Service : Type 1 where
  pub O : Type 0
  pub R : Type 0
  pub K : Type 0
  pub clerk : Clerk O R
  pub is_read : O → Bool
  pub quick : O → Option R
  pub keep : O → clerk.State → K
  pub say : O → K → R
  pub calm : clerk.State → Bool

-- What makes a service one that replicas can keep. No reply that is ever made says busy, whatever was kept: so a letter, even a forged one, makes no replica hand a call back.
pub record Lawful (sv : Service) : Type 0 where
  pub kept : (o : sv.O) (s : sv.clerk.State) → sv.is_read o ≡ false → sv.say o (sv.keep o s) ≡ sv.clerk.reply o s
  pub reads : (o : sv.O) (s : sv.clerk.State) → sv.is_read o ≡ true → sv.clerk.next o s ≡ s
  pub quickly : (o : sv.O) (r : sv.R) (s : sv.clerk.State) → sv.quick o ≡ Some r → sv.clerk.reply o s ≡ r
  pub stays : (o : sv.O) (r : sv.R) (s : sv.clerk.State) → sv.quick o ≡ Some r → sv.clerk.next o s ≡ s
  pub replies : (o : sv.O) (s : sv.clerk.State) → sv.clerk.reply o s ≢ sv.clerk.busy
  pub says : (o : sv.O) (k : sv.K) → sv.say o k ≢ sv.clerk.busy

-- ORDER. Numbers of letters have 64 bits; a view is one number, and an id is one number
abbrev pub limit : ℕ
limit = 18446744073709551616

unfoldable pub rank : View → ℕ
rank v = (v.number * 8 + v.leader) * 18446744073709551616 + v.incarnation

abbrev pub rank_id : ProposalId → ℕ
rank_id d = rank d.view * 18446744073709551616 + d.seq

-- read off such numbers
abbrev pub view_in : (id : ℕ) → ℕ
view_in d = d / 18446744073709551616

abbrev pub leader_of : ℕ → ℕ
leader_of v = v / 18446744073709551616 % 8

abbrev pub inc_of : ℕ → ℕ
inc_of v = v % 18446744073709551616

-- CONTENT. outcomes: what is kept of the last write of each replica
pub record Content (sv : Service) : Type 0 where
  pub places : List Place
  pub state : sv.clerk.State
  pub outcomes : List (Option sv.K)

pub record Proposal (sv : Service) : Type 0 where
  pub id : ProposalId
  pub content : Content sv

abbrev pub id_of : {sv : Service} → Proposal sv → ℕ
id_of p = rank_id p.id

abbrev pub view_of : {sv : Service} → Proposal sv → ℕ
view_of p = view_in (id_of p)

-- there are at most seven replicas
abbrev pub seven : {A : Type 0} → A → List A
seven x = x ∷ x ∷ x ∷ x ∷ x ∷ x ∷ x ∷ []

abbrev pub fresh_place : ℕ → Place
fresh_place x = record { incarnation = x; no = 0 }

abbrev pub place_in : {sv : Service} → Content sv → ℕ → Place
place_in c s = slice_index_or c.places s (fresh_place 0)

abbrev pub place_at : {sv : Service} → Proposal sv → ℕ → Place
place_at p s = place_in p.content s

-- the incarnation that votes for a replica
abbrev pub roster : {sv : Service} → Proposal sv → ℕ → ℕ
roster p s = (place_at p s).incarnation

-- the first of all: the state at the beginning, and every replica is incarnation 0
abbrev pub first_view : View
first_view = record { number = 0; leader = 0; incarnation = 0 }

abbrev pub first_id : ProposalId
first_id = record { view = first_view; seq = 0 }

abbrev pub first_content : (sv : Service) → Content sv
first_content sv = record { places = seven (fresh_place 0); state = sv.clerk.start; outcomes = seven None }

abbrev pub root : (sv : Service) → Proposal sv
root sv = record { id = first_id; content = first_content sv }

-- JOBS. The next call of the replica j is counted; a write changes the state, and its outcome is kept
abbrev pub counted_at : {sv : Service} → (j : ℕ) → Content sv → List Place
counted_at j c = slice_set c.places j (record { incarnation = (place_in c j).incarnation; no = suc (place_in c j).no })

abbrev pub called : {sv : Service} → (j : ℕ) → sv.O → Content sv → Content sv
called {sv} j o c =
    cond (sv.is_read o) (record { places = counted_at j c; state = c.state; outcomes = c.outcomes })
    (record { places = counted_at j c; state = sv.clerk.next o c.state; outcomes = slice_set c.outcomes j (Some (sv.keep o c.state)) })

-- the replica j comes in as x; no call of x was done, and nothing is kept for it
abbrev pub joined : {sv : Service} → (j x : ℕ) → Content sv → Content sv
joined j x c = record { places = slice_set c.places j (fresh_place x); state = c.state; outcomes = slice_set c.outcomes j None }

-- one content from another, by one job or none. n: the client's number of the call
pub data Change {sv : Service} (c : Content sv) : Content sv → Type 0 where
  copied : Change c c
  by_call : (j n : ℕ) (o : sv.O) → Change c (called j o c)
  by_join : (j x : ℕ) → Change c (joined j x c)

-- NUMBERS THAT FIT a letter
pub record FitView (all : ℕ) (v : View) : Type 0 where
  pub number : v.number < limit
  pub leader : v.leader < all
  pub incarnation : v.incarnation < limit

pub record FitPlace (q : Place) : Type 0 where
  pub incarnation : q.incarnation < limit
  pub no : q.no < limit

pub record FitProposal {sv : Service} (all : ℕ) (p : Proposal sv) : Type 0 where
  pub view : FitView all p.id.view
  pub seq : p.id.seq < limit
  pub places : (s : ℕ) → FitPlace (place_at p s)
  pub arrays : (length p.content.places ≡ 7) × (length p.content.outcomes ≡ 7)
