-- A call that was done beside the tree that stands: what it leaves stands, and all else is as it was. Assumes nothing.
use Rattle.std.proofs.Common.{◌≡◌, ℕ, List, IfSome, Some, None, Option, Ok, Err, Result, sym, refl, ap, ◌∙◌, subst}
use Rattle.std.specs.Result.{IsErrAnd}
use Rattle.model.specs.Tree.{State, No}
use Rattle.cells.specs.declared.draft.Size.{Size}
use Rattle.cells.specs.Drafts.{drafting}
use Rattle.calls.specs.Screening.{screened}
use Rattle.tree.specs.declared.refusal.Refusal.{Refusal}
use Rattle.service.specs.declared.asking.AtOnce.{AtOnce}
use Rattle.service.specs.Asking.{told_at_once}
use Rattle.service.specs.Service.{Outcome, at_once, refusal_of, outcome_of}
use Rattle.service.specs.Answering.{left_by, kept_of, next_of}
use Rattle.service.proofs.Lawfulness.{at_once_lem}
use Rattle.memory.specs.declared.lent.Memory.{Memory}
use Rattle.memory.specs.declared.lent.Kept.{Kept}
use Rattle.memory.specs.declared.lent.Side as lent
use Rattle.memory.specs.declared.lent.Side.TheVariants as on
use Rattle.memory.specs.Rooms.{other_side}
use Rattle.memory.specs.Keeps.{Side, side_at, left_side, right_side, Stands, Turned, Unmoved, state_in, turned_to}
use Rattle.serving.specs.Doing.{WroteCall, WroteBeside, DidCall, beside}

-- what is answered at once leaves the tree as it is
refused_at_once : (room : ℕ) (call : List ℕ) (s : State) (out ps : List ℕ) (k : ℕ) (r : Refusal) → at_once (screened call) ≡ Some (No 0 k) → r ≡ refusal_of k → WroteCall room call s (Err r) out ps
refused_at_once room call s out ps k r e o =
    let told = at_once_lem room (screened call) s (No 0 k) e in
    record { outcome = ap (λ (x : Refusal). Err x) o ∙ ap outcome_of (sym told.0); state = sym told.1; stands = tt }

pub refused_as : (room : ℕ) (call : List ℕ) (s : State) (out ps : List ℕ) (why : AtOnce) (w : Result Size Refusal) → at_once (screened call) ≡ Some (No 0 (told_at_once why)) → IsErrAnd w (λ k. k ≡ refusal_of (told_at_once why)) → WroteCall room call s w out ps
refused_as room call s out ps why (Ok z) e h = absurd h
refused_as room call s out ps why (Err r) e h = refused_at_once room call s out ps (told_at_once why) r e h

module _ (k : Kept) (m n : Memory) (u : Unmoved k m n) where
  -- the room beside, with a tree of this size
  abbrev side_with : Size → lent.Side → Side
  side_with z s = side_at s (record { bytes = n.left.bytes.now; places = n.left.places.now; size = z }) (record { bytes = n.right.bytes.now; places = n.right.places.now; size = z })

  resized : (z : Size) (s : lent.Side) → side_with z s ≡ record { bytes = (side_at s (left_side k n) (right_side k n)).bytes; places = (side_at s (left_side k n) (right_side k n)).places; size = z }
  resized z on.Left = refl
  resized z on.Right = refl

  turned_state : (o : Option Size) → state_in (turned_to o k) n ≡ left_by o (beside k n).bytes (beside k n).places (state_in k m)
  turned_state None = u.state
  turned_state (Some z) = ap (λ (s : Side). drafting s.bytes s.places s.size) (resized z (other_side k.stands))

  turned_on : (o : Option Size) → IfSome o (λ z. Stands k.room (record { bytes = (beside k n).bytes; places = (beside k n).places; size = z })) → Turned k m (turned_to o k) n
  turned_on None t = record { beside = record { room = refl; slot = refl; outcomes = refl; replied = refl }; calls = u.calls; replies = u.replies; sound = u.sound }
  turned_on (Some z) t =
      let s = u.sound in
      record {
        beside = record { room = refl; slot = refl; outcomes = refl; replied = refl };
        calls = record { waiting = u.calls.waiting; queued = u.calls.queued; slots = u.calls.slots; first = refl; count = refl };
        replies = u.replies;
        sound = record { left = s.left; right = s.right; stands = subst (Stands k.room) (sym (resized z (other_side k.stands))) t; slots = s.slots; first = s.first; count = s.count; answering = s.answering; replied = s.replied };
      }

  pub did : (call : List ℕ) (w : Result Size Refusal) → WroteBeside k m call w n → DidCall k m call (record { kept = turned_to (next_of w) k; outcome = kept_of w }) n
  did call w d = record { state = turned_state (next_of w) ∙ d.state; outcome = d.outcome; turned = turned_on (next_of w) d.stands; before = u }

-- the same, of what the code hands back
pub did_as : (k : Kept) (m n : Memory) (r : Kept) (o : Outcome) (call : List ℕ) (w : Result Size Refusal) → Unmoved k m n → r ≡ turned_to (next_of w) k → o ≡ kept_of w → WroteBeside k m call w n → DidCall k m call (record { kept = r; outcome = o }) n
did_as k m n r o call w u e f d = subst (λ (x : Kept). DidCall k m call (record { kept = x; outcome = o }) n) (sym e) (subst (λ (y : Outcome). DidCall k m call (record { kept = turned_to (next_of w) k; outcome = y }) n) (sym f) (did k m n u call w d))
