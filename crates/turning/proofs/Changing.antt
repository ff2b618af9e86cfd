-- A move that changes agreement and says nothing: the deeds before it mean what they meant, since what is held, the slots and the answers are the same.
use Rattle.std.proofs.Common.{◌≡◌, ℕ, map, ap, ◌∙◌}
use Rattle.agreement.specs.declared.Agreement.{Agreement}
use Rattle.agreement.specs.Machine as Machine
use Rattle.agreement.specs.Machine.{Mind, still, then_do}
use Rattle.service.specs.Service.{lines}
use Rattle.outbox.specs.Deeds.{list_of}
use Rattle.memory.specs.declared.lent.Memory.{Memory}
use Rattle.memory.specs.Keeps.{state_in, slot_at}
use Rattle.turning.specs.declared.Turn.{Turn}
use Rattle.turning.specs.Turns.{mind_of, deed_of, turn_of, MovesBy}
use Rattle.turning.proofs.Chains.{then_change}

-- what is held is the same
pub record Keeps (a b : Agreement) : Type 0 where
  pub id : b.accepted ≡ a.accepted
  pub places : b.places ≡ a.places

abbrev with' : Turn → Agreement → Turn
with' t a = record { house = record { agreement = a; kept = t.house.kept }; outbox = t.outbox }

-- b: what the change gives, by the machine
pub changed_turn : (g : (room : ℕ) → Mind (lines room) → Mind (lines room)) (t : Turn) (a b : Agreement) → a ≡ b → Keeps t.house.agreement b → ((room : ℕ) (m : Memory) → mind_of room (record { agreement = b; kept = t.house.kept }) m ≡ g room (mind_of room t.house m)) → MovesBy (λ room n. still (g room n)) t (with' t a)
changed_turn g t a b c k e room m = ap (λ (x : Agreement). turn_of room (with' t x) m) c ∙ (same ∙ added)
  where
    same : ◌≡◌ {A = Machine.Turn (lines room)} (turn_of room (with' t b) m) (record { does = (turn_of room t m).does; mind = g room (mind_of room t.house m) })
    same = λ i. record { does = map (deed_of room (record { id = k.id i; content = record { places = k.places i; state = state_in t.house.kept m; outcomes = t.house.kept.outcomes } }) (slot_at t.house.kept m) m.replies.now) (list_of t.outbox); mind = e room m i }

    added : ◌≡◌ {A = Machine.Turn (lines room)} (record { does = (turn_of room t m).does; mind = g room (mind_of room t.house m) }) (then_do (turn_of room t m) (λ n. still (g room n)))
    added = then_change room (turn_of room t m) (g room)
