-- A side on which a tree stands, read as a tree; and bytes taken over to a side. Assumes nothing.
use Rattle.std.proofs.Common.{◌≡◌, ℕ, ◌+◌, ◌≤◌, Bool, cond, List, length, take, Some, None, sym, refl, ap, ◌∙◌, subst, arith}
use Rattle.cells.specs.declared.draft.Size.{Size}
use Rattle.cells.specs.Layout.{Holds, state_of}
use Rattle.cells.specs.Drafts.{drafting, bytes_in, places_in}
use Rattle.cells.specs.Fits.{Fits, Suits}
use Rattle.scan.specs.Scans.{places_of, meaning, IsTree}
use Rattle.scan.proofs.Uniques.{holds_unique, is_tree_lem}
use Rattle.tree.proofs.Weighs.{space}
use Rattle.content.specs.Content.{tree_at}
use Rattle.content.proofs.Decided.{tree_decided}
use Rattle.memory.specs.declared.lent.Memory.{Memory}
use Rattle.memory.specs.declared.lent.Kept.{Kept}
use Rattle.memory.specs.declared.lent.Side as lent
use Rattle.memory.specs.declared.lent.Side.TheVariants as on
use Rattle.memory.specs.Keeps.{Side, side_at, left_side, right_side, standing, state_at, Stands, HeldAs, TakenTo}

-- bytes and places that hold a tree that fits are one by the test, too
pub is_tree_at : (room : ℕ) (bytes ps : List ℕ) → Holds bytes ps → Fits room (state_of bytes ps) → tree_at room bytes ≡ Some (state_of bytes ps)
is_tree_at room bytes ps h f =
    ap (λ (b : Bool). cond b (Some (meaning bytes)) None) ((tree_decided room bytes).1 (is_tree_lem room bytes ps h f))
    ∙ ap (λ (qs : List ℕ). Some (state_of bytes qs)) (sym (holds_unique bytes ps h))

held_front : (room : ℕ) (s : Side) → Stands room s → HeldAs room (state_at s) (bytes_in s.bytes s.size) (places_in s.places s.size)
held_front room s h = record { holds = h.drafts.holds; state = refl; fits = h.fits; is = is_tree_at room _ _ h.drafts.holds h.fits }

pub held_as : (room : ℕ) (s : Side) (bytes ps : List ℕ) → Stands room s → bytes ≡ bytes_in s.bytes s.size → ps ≡ places_in s.places s.size → HeldAs room (state_at s) bytes ps
held_as room s bytes ps h p q =
    subst (λ (x : List ℕ). HeldAs room (state_at s) x ps) (sym p)
    (subst (λ (y : List ℕ). HeldAs room (state_at s) (bytes_in s.bytes s.size) y) (sym q) (held_front room s h))

-- a tree that fits the room is no longer than its memory
pub tree_long : (room : ℕ) (bytes : List ℕ) → IsTree room bytes → length bytes ≤ room + 32796
tree_long room bytes t = let takes = space bytes (places_of bytes) t.holds t.fits.few in let weighs = t.fits.weighs in omega arith

pub taken : (room : ℕ) (body out ps : List ℕ) (z : Size) → IsTree room body → z.used ≤ length out → z.count + 1 ≤ length ps → take z.used out ≡ body → take (z.count + 1) ps ≡ places_of body → TakenTo room body out ps (Some z)
taken room body out ps z t u c p q =
    let h : Holds (take z.used out) (take (z.count + 1) ps) = subst (λ (x : List ℕ). Holds x (take (z.count + 1) ps)) (sym p) (subst (λ (y : List ℕ). Holds body y) (sym q) t.holds) in
    let e : meaning body ≡ drafting out ps z = λ i. state_of (sym p i) (sym q i) in
    (ap (λ (b : Bool). cond b (Some (meaning body)) None) ((tree_decided room body).1 t) ∙ ap Some e, record { drafts = record { holds = h; inside = u; counted = c }; fits = subst (Fits room) e t.fits })

-- WHICH SIDE STANDS
pub right_stands : (k : Kept) (m : Memory) → k.stands ≡ on.Right → standing k m ≡ right_side k m
right_stands k m e = ap (λ (s : lent.Side). side_at s (left_side k m) (right_side k m)) e

pub left_stands : (k : Kept) (m : Memory) → k.stands ≡ on.Left → standing k m ≡ left_side k m
left_stands k m e = ap (λ (s : lent.Side). side_at s (left_side k m) (right_side k m)) e

pub held_side : (room : ℕ) (s t : Side) (bytes ps : List ℕ) → s ≡ t → Stands room s → bytes ≡ bytes_in t.bytes t.size → ps ≡ places_in t.places t.size → HeldAs room (state_at s) bytes ps
held_side room s t bytes ps e h p q = subst (λ (x : Side). HeldAs room (state_at x) bytes ps) (sym e) (held_as room t bytes ps (subst (Stands room) e h) p q)

pub suits_long : (room : ℕ) (out ps out' ps' : List ℕ) → Suits room out ps → length out' ≡ length out → length ps' ≡ length ps → Suits room out' ps'
suits_long room out ps out' ps' s p q = record { bytes = omega (arith, s.bytes); small = omega (arith, s.small); words = omega (arith, s.words) }
