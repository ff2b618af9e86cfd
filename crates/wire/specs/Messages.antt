-- Messages of replicas as bytes, high byte first: what is written, and what bytes are read as. Assumes nothing.
--   message: form (1: 0), number of the beginning (8: 0), kind (1), fields
--   view: number (8), leader (1), incarnation (8)          id: view, seq (8)
--   seat: incarnation (8), number of the last call (8), outcome (1: 0 none, 1 done, 2 and more: refused by the reason with that number less 1)
--   proposal: id, seven seats, the tree's bytes to the end
--   kinds: 1 prepare: view;  2 promise: view, incarnation (8), proposal;  3 propose: chosen (1: 0 or 1), proposal;  4 alive: id, chosen (1), incarnation (8)
--          5 accepted: id, incarnation (8);  6 join: incarnation, replaced incarnation (8 each);  7 forward: incarnation, number, client's number (8 each), the call's bytes to the end
use Rattle.std.specs.Prelude.{ℕ, zero, suc, ◌+◌, cond, List, [], ◌∷◌, ◌++◌, Some, None, Option, Ok, Err, ◌==◌, nat_lt}
use Rattle.model.specs.Tree.{State}
use Rattle.lent_bytes.specs.Numbers.{be8}
use Rattle.calls.specs.Format.{and_then, byte_at, number_at, flag_at, flag_written, wholly}
use Rattle.tree.specs.declared.refusal.Refusal.{Refusal}
use Rattle.tree.specs.declared.refusal.Refusal.TheVariants.{OutOfRange, NotThere, AlreadyThere, OtherVersion, HasKids, NoSession, UnderSession, UsedUp, Full}
use Rattle.tree.specs.Answers.{reason}
use Rattle.content.specs.Content.{tree_at}
use Rattle.service.specs.Service.{Outcome, lines}
use Rattle.agreement.specs.declared.View.{View}
use Rattle.agreement.specs.declared.ProposalId.{ProposalId}
use Rattle.agreement.specs.declared.Place.{Place}
use Rattle.agreement.specs.Content.{Proposal}
use Rattle.agreement.specs.Machine.{Msg, Prepare, Promise, Propose, Alive, Accepted, Join, Forward}
use Rattle.wire.specs.declared.types.Seats.{Seats}
use Rattle.wire.specs.Trees.{tree_bytes}

-- WRITING
abbrev pub front : (kind : ℕ) → List ℕ → List ℕ
front k bs = 0 ∷ (be8 0 ++ (k ∷ bs))

abbrev pub view_bytes : View → List ℕ
view_bytes v = be8 v.number ++ (v.leader ∷ be8 v.incarnation)

abbrev pub id_bytes : ProposalId → List ℕ
id_bytes d = view_bytes d.view ++ be8 d.seq

abbrev pub outcome_byte : Option Outcome → ℕ
outcome_byte None = 0
outcome_byte (Some (Ok u)) = 1
outcome_byte (Some (Err k)) = 1 + reason k

-- the place of a replica, and the outcome of its last write
abbrev pub seat_bytes : Place → Option Outcome → List ℕ
seat_bytes q k = be8 q.incarnation ++ (be8 q.no ++ (outcome_byte k ∷ []))

unfoldable pub seats_bytes : List Place → List (Option Outcome) → List ℕ
seats_bytes [] ks = []
seats_bytes (q ∷ qs) [] = []
seats_bytes (q ∷ qs) (k ∷ ks) = seat_bytes q k ++ seats_bytes qs ks

-- what stands before the tree of a proposal
abbrev pub agreed_bytes : ProposalId → List Place → List (Option Outcome) → List ℕ
agreed_bytes d qs ks = id_bytes d ++ seats_bytes qs ks

abbrev pub proposal_bytes : (room : ℕ) → Proposal (lines room) → List ℕ
proposal_bytes room p = agreed_bytes p.id p.content.places p.content.outcomes ++ tree_bytes p.content.state

-- THE BYTES OF A MESSAGE
unfoldable pub word_bytes : (room : ℕ) → Msg (lines room) → List ℕ
word_bytes room (Prepare v) = front 1 (view_bytes v)
word_bytes room (Promise v x p) = front 2 (view_bytes v ++ (be8 x ++ proposal_bytes room p))
word_bytes room (Propose p c) = front 3 (flag_written c ∷ proposal_bytes room p)
word_bytes room (Alive d c x) = front 4 (id_bytes d ++ (flag_written c ∷ be8 x))
word_bytes room (Accepted d x) = front 5 (id_bytes d ++ be8 x)
word_bytes room (Join q) = front 6 (be8 q.incarnation ++ be8 q.replaces)
word_bytes room (Forward a) = front 7 (be8 a.incarnation ++ (be8 a.no ++ (be8 a.number ++ a.call)))

-- READING. What stands at the front of bytes, and the bytes behind it
abbrev pub leader_at : (all number : ℕ) → List ℕ → Option (View × List ℕ)
leader_at all n bs =
    and_then (byte_at bs) (λ l. cond (nat_lt l.0 all) (and_then (number_at l.1) (λ x. Some (record { number = n; leader = l.0; incarnation = x.0 }, x.1))) None)

abbrev pub view_at : (all : ℕ) → List ℕ → Option (View × List ℕ)
view_at all bs = and_then (number_at bs) (λ n. leader_at all n.0 n.1)

abbrev pub id_at : (all : ℕ) → List ℕ → Option (ProposalId × List ℕ)
id_at all bs = and_then (view_at all bs) (λ v. and_then (number_at v.1) (λ n. Some (record { view = v.0; seq = n.0 }, n.1)))

-- the refusal of a byte, and the outcome
abbrev pub refused_by : ℕ → Option Refusal
refused_by b =
    cond (b == 2) (Some OutOfRange) (cond (b == 3) (Some NotThere) (cond (b == 4) (Some AlreadyThere) (cond (b == 5) (Some OtherVersion) (cond (b == 6) (Some HasKids)
    (cond (b == 7) (Some NoSession) (cond (b == 8) (Some UnderSession) (cond (b == 9) (Some UsedUp) (cond (b == 10) (Some Full) None))))))))

abbrev pub outcome_by : ℕ → Option (Option Outcome)
outcome_by b = cond (b == 0) (Some None) (cond (b == 1) (Some (Some (Ok tt))) (and_then (refused_by b) (λ k. Some (Some (Err k)))))

abbrev pub outcome_at : List ℕ → Option (Option Outcome × List ℕ)
outcome_at bs = and_then (byte_at bs) (λ b. and_then (outcome_by b.0) (λ k. Some (k, b.1)))

abbrev pub place_at : List ℕ → Option (Place × List ℕ)
place_at bs = and_then (number_at bs) (λ x. and_then (number_at x.1) (λ n. Some (record { incarnation = x.0; no = n.0 }, n.1)))

abbrev pub seated : Place → Option Outcome → Seats → Seats
seated q k s = record { places = q ∷ s.places; outcomes = k ∷ s.outcomes }

unfoldable pub seats_at : ℕ → List ℕ → Option (Seats × List ℕ)
seats_at zero bs = Some (record { places = []; outcomes = [] }, bs)
seats_at (suc n) bs = and_then (place_at bs) (λ q. and_then (outcome_at q.1) (λ k. and_then (seats_at n k.1) (λ s. Some (seated q.0 k.0 s.0, s.1))))

abbrev pub proposed : (room : ℕ) → ProposalId → Seats → State → Proposal (lines room)
proposed room d s t = record { id = d; content = record { places = s.places; state = t; outcomes = s.outcomes } }

abbrev pub proposal_at : (room all : ℕ) → List ℕ → Option (Proposal (lines room))
proposal_at room all bs = and_then (id_at all bs) (λ d. and_then (seats_at 7 d.1) (λ s. and_then (tree_at room s.1) (λ t. Some (proposed room d.0 s.0 t))))

-- each kind
abbrev pub prepare_at : (room all : ℕ) → List ℕ → Option (Msg (lines room))
prepare_at room all bs = and_then (and_then (view_at all bs) wholly) (λ v. Some (Prepare v))

abbrev pub promise_at : (room all : ℕ) → List ℕ → Option (Msg (lines room))
promise_at room all bs = and_then (view_at all bs) (λ v. and_then (number_at v.1) (λ x. and_then (proposal_at room all x.1) (λ p. Some (Promise v.0 x.0 p))))

abbrev pub propose_at : (room all : ℕ) → List ℕ → Option (Msg (lines room))
propose_at room all bs = and_then (flag_at bs) (λ c. and_then (proposal_at room all c.1) (λ p. Some (Propose p c.0)))

abbrev pub alive_at : (room all : ℕ) → List ℕ → Option (Msg (lines room))
alive_at room all bs = and_then (id_at all bs) (λ d. and_then (flag_at d.1) (λ c. and_then (and_then (number_at c.1) wholly) (λ x. Some (Alive d.0 c.0 x))))

abbrev pub accepted_at : (room all : ℕ) → List ℕ → Option (Msg (lines room))
accepted_at room all bs = and_then (id_at all bs) (λ d. and_then (and_then (number_at d.1) wholly) (λ x. Some (Accepted d.0 x)))

abbrev pub join_at : (room : ℕ) → List ℕ → Option (Msg (lines room))
join_at room bs = and_then (number_at bs) (λ x. and_then (and_then (number_at x.1) wholly) (λ y. Some (Join (record { incarnation = x.0; replaces = y }))))

abbrev pub forward_at : (room : ℕ) → List ℕ → Option (Msg (lines room))
forward_at room bs =
    and_then (number_at bs) (λ x. and_then (number_at x.1) (λ n. and_then (number_at n.1) (λ k. Some (Forward (record { incarnation = x.0; no = n.0; number = k.0; call = k.1 })))))

abbrev pub word_by : (room all kind : ℕ) → List ℕ → Option (Msg (lines room))
word_by room all k bs =
    cond (k == 1) (prepare_at room all bs) (cond (k == 2) (promise_at room all bs) (cond (k == 3) (propose_at room all bs) (cond (k == 4) (alive_at room all bs)
    (cond (k == 5) (accepted_at room all bs) (cond (k == 6) (join_at room bs) (cond (k == 7) (forward_at room bs) None))))))

-- form and number of the beginning are ours
abbrev pub ours_at : List ℕ → Option (List ℕ)
ours_at bs = and_then (byte_at bs) (λ f. cond (f.0 == 0) (and_then (number_at f.1) (λ n. cond (n.0 == 0) (Some n.1) None)) None)

abbrev pub kind_at : List ℕ → Option (ℕ × List ℕ)
kind_at bs = and_then (ours_at bs) byte_at

-- WHAT BYTES ARE READ AS
abbrev pub word_at : (room all : ℕ) → List ℕ → Option (Msg (lines room))
word_at room all bs = and_then (kind_at bs) (λ k. word_by room all k.0 k.1)
