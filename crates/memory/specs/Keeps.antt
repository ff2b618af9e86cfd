-- What lent memory stands for: the tree that stands, the calls that wait and those that were forwarded, as the machine's mind has them. Assumes nothing.
use Rattle.std.specs.Prelude.{◌≡◌, ℕ, zero, suc, ◌+◌, ◌*◌, ◌%◌, ◌<◌, ◌≤◌, List, [], ◌∷◌, ◌++◌, length, take, drop, Some, None, Option, slice_index}
use Rattle.std.specs.Option.{option_map}
use Rattle.model.specs.Tree.{State, blank}
use Rattle.cells.specs.declared.draft.Size.{Size}
use Rattle.cells.specs.Layout.{Holds, state_of}
use Rattle.cells.specs.Drafts.{Drafts, drafting}
use Rattle.cells.specs.Fits.{Fits, Suits}
use Rattle.content.specs.Content.{tree_at}
use Rattle.service.specs.Service.{lines}
use Rattle.agreement.specs.Content.{seven}
use Rattle.agreement.specs.Machine.{Waiting, Forwarded}
use Rattle.memory.specs.declared.lent.Memory.{Memory}
use Rattle.memory.specs.declared.lent.Queued.{Queued}
use Rattle.memory.specs.declared.lent.Kept.{Kept}
use Rattle.memory.specs.declared.lent.Side as lent
use Rattle.memory.specs.declared.lent.Side.TheVariants as on
use Rattle.memory.specs.Rooms.{other_side}

-- THE TREE THAT STANDS. A side of memory: a buffer, its places, and how much of them a tree takes
pub record Side : Type 0 where
  pub bytes : List ℕ
  pub places : List ℕ
  pub size : Size

abbrev pub left_side : Kept → Memory → Side
left_side k m = record { bytes = m.left.bytes.now; places = m.left.places.now; size = k.size }

abbrev pub right_side : Kept → Memory → Side
right_side k m = record { bytes = m.right.bytes.now; places = m.right.places.now; size = k.size }

abbrev pub side_at : lent.Side → (left right : Side) → Side
side_at on.Left l r = l
side_at on.Right l r = r

abbrev pub standing : Kept → Memory → Side
standing k m = side_at k.stands (left_side k m) (right_side k m)

abbrev pub state_at : Side → State
state_at s = drafting s.bytes s.places s.size

abbrev pub state_in : Kept → Memory → State
state_in k m = state_at (standing k m)

-- on a side stands a tree that fits the room
pub record Stands (room : ℕ) (s : Side) : Type 0 where
  pub drafts : Drafts s.bytes s.places s.size
  pub fits : Fits room (state_at s)

-- CALLS lie in fifteen slots of equal size: eight for those that wait here, then one for each replica that may forward one
abbrev pub slot_in : (size : ℕ) (ends calls : List ℕ) → ℕ → List ℕ
slot_in size ends calls i = take (slice_index ends i) (drop (size * i) calls)

abbrev pub slot_at : Kept → Memory → ℕ → List ℕ
slot_at k m i = slot_in k.slot m.ends.now m.calls.now i

-- so many of what f gives, from i on, in a ring of eight
unfoldable pub ring : {X : Type 0} → ℕ → (ℕ → X) → ℕ → List X
ring zero f i = []
ring (suc n) f i = f i ∷ ring n f ((i + 1) % 8)

abbrev pub waiting_at : (room : ℕ) → (numbers : List ℕ) → (slot : ℕ → List ℕ) → ℕ → Waiting (lines room)
waiting_at room ns f i = record { number = slice_index ns i; call = f i }

-- the calls that wait here, oldest first
abbrev pub waiting_in : (room : ℕ) → Kept → Memory → List (Waiting (lines room))
waiting_in room k m = ring k.count (waiting_at room k.numbers (slot_at k m)) k.first

abbrev pub oldest_in : (room : ℕ) → Kept → Memory → Waiting (lines room)
oldest_in room k m = waiting_at room k.numbers (slot_at k m) k.first

abbrev pub forwarded : (room : ℕ) → List ℕ → Queued → Forwarded (lines room)
forwarded room call q = record { incarnation = q.incarnation; no = q.no; number = q.number; call = call }

-- what is queued for each replica from i on, with the call in its slot
unfoldable pub queue : (room : ℕ) → (slot : ℕ → List ℕ) → ℕ → List (Option Queued) → List (Option (Forwarded (lines room)))
queue room f i [] = []
queue room f i (q ∷ qs) = option_map (forwarded room (f (8 + i))) q ∷ queue room f (i + 1) qs

-- the calls that were forwarded to this replica, at most one of each
abbrev pub queued_in : (room : ℕ) → Kept → Memory → List (Option (Forwarded (lines room)))
queued_in room k m = queue room (slot_at k m) 0 k.queue

-- MEMORY THAT SUITS. Slots of so many bytes, for calls of at most 66,606
pub record Slots (size : ℕ) (ends calls : List ℕ) : Type 0 where
  pub fifteen : 15 ≤ length ends
  pub inside : 15 * size ≤ length calls
  pub long : 66606 ≤ size
  pub small : length calls < 4294967296
  pub short : (i : ℕ) → i < 15 → slice_index ends i ≤ size

-- enough for fifteen such slots
pub record LentCalls (calls ends : List ℕ) : Type 0 where
  pub fifteen : 15 ≤ length ends
  pub long : 999090 ≤ length calls
  pub small : length calls < 4294967296

-- room for two answers
pub record Answering (room : ℕ) (replies : List ℕ) : Type 0 where
  pub two : 2 * (room + 65581) ≤ length replies
  pub small : length replies < 4294967296

-- WHAT ALWAYS HOLDS of what is kept
pub record Sound (k : Kept) (m : Memory) : Type 0 where
  pub left : Suits k.room m.left.bytes.now m.left.places.now
  pub right : Suits k.room m.right.bytes.now m.right.places.now
  pub stands : Stands k.room (standing k m)
  pub slots : Slots k.slot m.ends.now m.calls.now
  pub first : k.first < 8
  pub count : k.count ≤ 8
  pub answering : Answering k.room m.replies.now
  pub replied : k.replied ≤ length m.replies.now

-- WHAT STAYS. The answers of this turn, so far
abbrev pub replies_in : Kept → Memory → List ℕ
replies_in k m = take k.replied m.replies.now

-- what is kept beside trees and calls is the same
pub record SameBeside (k r : Kept) : Type 0 where
  pub room : r.room ≡ k.room
  pub slot : r.slot ≡ k.slot
  pub outcomes : r.outcomes ≡ k.outcomes
  pub replied : r.replied ≡ k.replied

-- so are the calls
pub record SameCalls (k : Kept) (m : Memory) (r : Kept) (n : Memory) : Type 0 where
  pub waiting : (room : ℕ) → waiting_in room r n ≡ waiting_in room k m
  pub queued : (room : ℕ) → queued_in room r n ≡ queued_in room k m
  pub slots : (i : ℕ) → slot_at r n i ≡ slot_at k m i
  pub first : r.first ≡ k.first
  pub count : r.count ≡ k.count

-- bytes and places are a tree that fits the room, and stands for a state
pub record HeldAs (room : ℕ) (s : State) (bytes places : List ℕ) : Type 0 where
  pub holds : Holds bytes places
  pub state : state_of bytes places ≡ s
  pub fits : Fits room (state_of bytes places)
  pub is : tree_at room bytes ≡ Some s

-- a Kept stands for the same in another memory
pub record Unmoved (k : Kept) (m n : Memory) : Type 0 where
  pub state : state_in k n ≡ state_in k m
  pub calls : SameCalls k m k n
  pub replies : replies_in k n ≡ replies_in k m
  pub sound : Sound k n

-- TAKING A TREE. Bytes were taken over to a side, if they are a tree that fits the room
abbrev pub TakenTo : (room : ℕ) → (body out places : List ℕ) → Option Size → Type 0
TakenTo room body out ps None = tree_at room body ≡ None
TakenTo room body out ps (Some z) = (tree_at room body ≡ Some (state_at (record { bytes = out; places = ps; size = z }))) × Stands room (record { bytes = out; places = ps; size = z })

-- another tree stands, and all else is as it was
pub record Turned (k : Kept) (m : Memory) (r : Kept) (n : Memory) : Type 0 where
  pub beside : SameBeside k r
  pub calls : SameCalls k m r n
  pub replies : replies_in r n ≡ replies_in k m
  pub sound : Sound r n

-- the tree that was written beside the one that stands, if one was, stands from now on
abbrev pub turned_to : Option Size → Kept → Kept
turned_to None k = k
turned_to (Some z) k = record { room = k.room; slot = k.slot; stands = other_side k.stands; size = z; outcomes = k.outcomes; first = k.first; count = k.count; numbers = k.numbers; queue = k.queue; replied = k.replied }

-- on the other side from the tree that stands bytes are a tree that fits the room, or they are none
abbrev pub TakenBeside : Kept → (body : List ℕ) → Memory → Option Size → Type 0
TakenBeside k body n None = tree_at k.room body ≡ None
TakenBeside k body n (Some z) = (tree_at k.room body ≡ Some (state_in (turned_to (Some z) k) n)) × Stands k.room (standing (turned_to (Some z) k) n)

abbrev pub AcceptedAs : Kept → Memory → (body : List ℕ) → Option Kept → Memory → Type 0
AcceptedAs k m body None n = tree_at k.room body ≡ None
AcceptedAs k m body (Some r) n = (tree_at k.room body ≡ Some (state_in r n)) × Turned k m r n

-- WAITING. Bytes were put at a place, and nothing else was changed
pub record PutAt (at : ℕ) (bytes was is : List ℕ) : Type 0 where
  pub here : take (length bytes) (drop at is) ≡ bytes
  pub below : (i n : ℕ) → i + n ≤ at → take n (drop i is) ≡ take n (drop i was)
  pub behind : (i n : ℕ) → at + length bytes ≤ i → take n (drop i is) ≡ take n (drop i was)
  pub long : length is ≡ length was

-- a call waits behind the others
abbrev pub behind_all : (room : ℕ) → List (Waiting (lines room)) → (number : ℕ) → (call : List ℕ) → List (Waiting (lines room))
behind_all room ws n call = ws ++ record { number = n; call = call } ∷ []

-- whatever memory there is, it stands for the same, but for what waits
pub record SameButCalls (k r : Kept) : Type 0 where
  pub beside : SameBeside k r
  pub state : (m : Memory) → state_in r m ≡ state_in k m
  pub sound : (m : Memory) → Sound k m → Sound r m

pub record OldestDropped (k r : Kept) : Type 0 where
  pub waiting : (room : ℕ) (m : Memory) → waiting_in room k m ≡ oldest_in room k m ∷ waiting_in room r m
  pub queued : (room : ℕ) (m : Memory) → queued_in room r m ≡ queued_in room k m
  pub same : SameButCalls k r

pub record QueueChanged (to : (room : ℕ) → List (Option (Forwarded (lines room))) → List (Option (Forwarded (lines room)))) (k r : Kept) : Type 0 where
  pub waiting : (room : ℕ) (m : Memory) → waiting_in room r m ≡ waiting_in room k m
  pub queued : (room : ℕ) (m : Memory) → queued_in room r m ≡ to room (queued_in room k m)
  pub same : SameButCalls k r

-- BEGINNING. Memory that is long enough for a room
pub record Lent (room : ℕ) (m : Memory) : Type 0 where
  pub left : Suits room m.left.bytes.now m.left.places.now
  pub right : Suits room m.right.bytes.now m.right.places.now
  pub calls : LentCalls m.calls.now m.ends.now
  pub answering : Answering room m.replies.now

-- the first tree stands, and nothing waits
pub record FirstIn (size : ℕ) (k : Kept) (m : Memory) : Type 0 where
  pub room : k.room ≡ size
  pub state : state_in k m ≡ blank
  pub outcomes : k.outcomes ≡ seven None
  pub waiting : (room : ℕ) → waiting_in room k m ≡ []
  pub queued : (room : ℕ) → queued_in room k m ≡ seven None
  pub replied : k.replied ≡ 0
  pub count : k.count ≡ 0
  pub sound : Sound k m

abbrev pub BegunAs : (room : ℕ) → Memory → Option Kept → Memory → Type 0
BegunAs room m None n = Lent room m → ⊥
BegunAs room m (Some k) n = FirstIn room k n
