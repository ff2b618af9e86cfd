-- Forwarding the oldest call, from what is by value: the machine's forward is one message, or nothing.
use Rattle.std.proofs.Common.{◌≡◌, ℕ, zero, suc, ◌+◌, Bool, true, false, cond, not, ◌&&◌, eqb, ltb, [], ◌∷◌, ◌++◌, get_or, sym, refl, ap, ◌∙◌, arith}
use Rattle.std.proofs.lemmas.Bool.{cond-false, cond-true, ne_eqb}
use Rattle.runs.specs.Replicas.{Says}
use Rattle.agreement.specs.declared.Agreement.{Agreement}
use Rattle.agreement.specs.Content.{limit}
use Rattle.agreement.specs.Machine as Machine
use Rattle.agreement.specs.Machine.{Forward, Mind, Waiting, is_member, still, says, then_do, own_call, sends, forward_head, forward}
use Rattle.service.specs.Service.{lines}
use Rattle.outbox.specs.declared.Outbox.{Outbox}
use Rattle.outbox.specs.Deeds.{list_of}
use Rattle.memory.specs.declared.lent.Memory.{Memory}
use Rattle.memory.specs.Keeps.{ring, waiting_at, slot_at, oldest_in}
use Rattle.turning.specs.declared.House.{House}
use Rattle.turning.specs.declared.Turn.{Turn}
use Rattle.turning.specs.Turns.{mind_of, turn_of, may_forward, oldest_said}
use Rattle.turning.proofs.Chains.{then_still}
use Rattle.turning.proofs.Saying.{added_turn}

nest : {A : Type 0} (p q e : Bool) (x y : A) → cond (p && q) (cond e y x) y ≡ cond (p && (q && not e)) x y
nest true true true x y = refl
nest true true false x y = refl
nest true false e x y = refl
nest false q e x y = refl

module _ (room : ℕ) (f : ℕ → Waiting (lines room)) (i : ℕ) (n : Mind (lines room)) where
  abbrev goes : Machine.Turn (lines room)
  goes = says n.agreement.promised.leader (Forward (own_call (f i) n)) n

  forward_ring : (k : ℕ) → forward_head (ring k f i) n ≡ cond (not (eqb k 0) && (is_member n.agreement.role && (ltb (suc n.agreement.no) limit && not (eqb n.agreement.promised.leader n.agreement.me)))) goes (still n)
  unfolding ring forward_head
  forward_ring zero = refl
  forward_ring (suc k) =
      nest (is_member n.agreement.role) (ltb (suc n.agreement.no) limit) (eqb n.agreement.promised.leader n.agreement.me) goes (still n)
      ∙ ap (λ (b : Bool). cond (not b && (is_member n.agreement.role && (ltb (suc n.agreement.no) limit && not (eqb n.agreement.promised.leader n.agreement.me)))) goes (still n)) (sym (ne_eqb (suc k) 0 (λ e. absurd (omega (arith, e)))))

module _ (room : ℕ) (m : Memory) (h : House) where
  pub forward_is : forward (mind_of room h m) ≡ cond (may_forward h) (says h.agreement.promised.leader (Forward (own_call (oldest_in room h.kept m) (mind_of room h m))) (mind_of room h m)) (still (mind_of room h m))
  forward_is = forward_ring room (waiting_at room h.kept.numbers (slot_at h.kept m)) h.kept.first (mind_of room h m) h.kept.count

-- the oldest call was said to the leader
pub forwarded_turn : (room : ℕ) (m : Memory) (t : Turn) (o : Outbox) → may_forward t.house ≡ true → list_of o ≡ list_of t.outbox ++ (oldest_said t.house ∷ []) → ◌≡◌ {A = Machine.Turn (lines room)} (turn_of room (record { house = t.house; outbox = o }) m) (then_do (turn_of room t m) forward)
unfolding then_do
forwarded_turn room m t o e s =
    ◌∙◌ {A = Machine.Turn (lines room)} (added_turn room m t o (oldest_said t.house ∷ []) s)
    (◌∙◌ {A = Machine.Turn (lines room)} (λ i. record { does = (turn_of room t m).does ++ (Says a.promised.leader (Forward (record { incarnation = a.incarnation; no = next i; number = get_or t.house.kept.numbers t.house.kept.first 0; call = slot_at t.house.kept m t.house.kept.first })) ∷ []); mind = mind_of room t.house m })
    (λ i. record { does = (turn_of room t m).does ++ (sym is i).does; mind = (sym is i).mind }))
  where
    a : Agreement
    a = t.house.agreement

    next : a.no + 1 ≡ suc a.no
    next = omega arith

    is : forward (mind_of room t.house m) ≡ says a.promised.leader (Forward (own_call (oldest_in room t.house.kept m) (mind_of room t.house m))) (mind_of room t.house m)
    is = forward_is room m t.house ∙ cond-true (may_forward t.house) _ (still (mind_of room t.house m)) e

pub not_forwarded : (room : ℕ) (m : Memory) (t : Turn) → may_forward t.house ≡ false → ◌≡◌ {A = Machine.Turn (lines room)} (turn_of room t m) (then_do (turn_of room t m) forward)
not_forwarded room m t e = then_still room (turn_of room t m) forward (forward_is room m t.house ∙ cond-false (may_forward t.house) _ (still (mind_of room t.house m)) e)
