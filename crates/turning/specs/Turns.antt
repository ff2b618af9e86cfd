-- What a replica by value and lent memory stand for: the machine's mind; and a turn under way: what was done so far, and the mind that there is now.
-- A proposal that is said is the one that is held, a call lies in its slot, an answer among those of this turn. Assumes nothing.
use Rattle.std.specs.Prelude.{◌≡◌, ℕ, suc, ◌+◌, Bool, not, ◌&&◌, List, map, ◌==◌, nat_lt, slice_index}
use Rattle.std.specs.List.{between}
use Rattle.runs.specs.Replicas.{Does, Says, Gives, Whole'}
use Rattle.agreement.specs.Content.{Proposal, limit}
use Rattle.agreement.specs.Machine.{Msg, Prepare, Promise, Propose, Alive, Accepted, Join, Forward, Mind, accepted, is_member, then_do}
use Rattle.agreement.specs.Machine as Machine
use Rattle.service.specs.Service.{lines}
use Rattle.outbox.specs.declared.Word.{Word}
use Rattle.outbox.specs.declared.Word.TheVariants as word
use Rattle.outbox.specs.declared.Deed.{Deed}
use Rattle.outbox.specs.declared.Deed.TheVariants as deed
use Rattle.outbox.specs.Deeds.{list_of}
use Rattle.memory.specs.declared.lent.Memory.{Memory}
use Rattle.memory.specs.Keeps.{state_in, slot_at, waiting_in, queued_in}
use Rattle.turning.specs.declared.House.{House}
use Rattle.turning.specs.declared.Turn.{Turn}

-- THE MIND
abbrev pub mind_of : (room : ℕ) → House → Memory → Mind (lines room)
mind_of room h m = record { agreement = h.agreement; state = state_in h.kept m; outcomes = h.kept.outcomes; waiting = waiting_in room h.kept m; calls = queued_in room h.kept m }

-- a message, from its header: with the proposal p, and calls from slots
abbrev pub word_of : (room : ℕ) → Proposal (lines room) → (ℕ → List ℕ) → Word → Msg (lines room)
word_of room p f (word.Prepare v) = Prepare v
word_of room p f (word.Promise v x) = Promise v x p
word_of room p f (word.Propose c) = Propose p c
word_of room p f (word.Alive d c x) = Alive d c x
word_of room p f (word.Accepted d x) = Accepted d x
word_of room p f (word.Join q) = Join q
word_of room p f (word.Forward x n k i) = Forward (record { incarnation = x; no = n; number = k; call = f i })

abbrev pub deed_of : (room : ℕ) → Proposal (lines room) → (ℕ → List ℕ) → (replies : List ℕ) → Deed → Does (Msg (lines room)) (List ℕ)
deed_of room p f rs (deed.Say j w) = Says j (word_of room p f w)
deed_of room p f rs (deed.Give n a b) = Gives n (between a b rs)
deed_of room p f rs deed.Whole = Whole'

abbrev pub done_in : (room : ℕ) → House → Memory → Deed → Does (Msg (lines room)) (List ℕ)
done_in room h m d = deed_of room (accepted (mind_of room h m)) (slot_at h.kept m) m.replies.now d

-- THE TURN SO FAR
abbrev pub turn_of : (room : ℕ) → Turn → Memory → Machine.Turn (lines room)
turn_of room t m = record { does = map (done_in room t.house m) (list_of t.outbox); mind = mind_of room t.house m }

-- MOVES. By value: on whatever memory there is, the machine's move is made next
abbrev pub Move : Type 0
Move = (room : ℕ) → Mind (lines room) → Machine.Turn (lines room)

abbrev pub MovesBy : Move → Turn → Turn → Type 0
MovesBy f t r = (room : ℕ) (m : Memory) → turn_of room r m ≡ then_do (turn_of room t m) (f room)

-- does it forward its oldest call
abbrev pub may_forward : House → Bool
may_forward h = not (h.kept.count == 0) && (is_member h.agreement.role && (nat_lt (suc h.agreement.no) limit && not (h.agreement.promised.leader == h.agreement.me)))

-- the header by which it does
abbrev pub oldest_said : House → Deed
oldest_said h = deed.Say h.agreement.promised.leader (word.Forward h.agreement.incarnation (h.agreement.no + 1) (slice_index h.kept.numbers h.kept.first) h.kept.first)
