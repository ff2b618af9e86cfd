-- What a call leaves in the memory of one replica alone: silence only where no more changes can be counted, the tree that was there, or the tree that was written beside it. Assumes nothing.
use Rattle.std.proofs.Common.{◌≡◌, ℕ, ◌+◌, ◌/◌, ◌<◌, ◌≤◌, true, List, length, take, IfSome, Some, None, Option, Vec, sym, refl, ap, ◌∙◌, subst, arith}
use Rattle.std.specs.Vec.{with_items}
use Rattle.model.specs.Tree.{State}
use Rattle.cells.specs.declared.draft.Size.{Size}
use Rattle.cells.specs.Layout.{Holds, state_of}
use Rattle.cells.specs.Drafts.{Drafts, bytes_in, places_in, drafting}
use Rattle.cells.specs.Fits.{Fits, Calm}
use Rattle.scan.specs.Scans.{places_of, meaning}
use Rattle.scan.proofs.Uniques.{holds_unique}
use Rattle.tree.proofs.Weighs.{space}
use Rattle.content.specs.Content.{is_tree}
use Rattle.content.proofs.Decided.{tree_decided}
use Rattle.service.specs.declared.clerk.Answered.{Answered}
use Rattle.service.specs.Answering.{Answers, AnsweredBy, left_by}
use Rattle.alone.specs.Standing.{stands_for, Roomy, Told}
use Rattle.alone.specs.Turning.{used_by, pick}

-- memory that was lent as a slice is as long as it was
pub same_length : {X Z : Type 0} (v : Vec X Z) (ws : List X) → length (with_items v ws).items ≡ length v.items
same_length v ws = sym (with_items v ws).ok.0 ∙ v.ok.0

-- no answer: there can be no more changes
pub silent : (room : ℕ) (bytes call last out ps reply : List ℕ) → is_tree room bytes ≡ true → Roomy room out ps → room / 1280 + 1 ≤ length last → room + 65581 ≤ length reply → length reply < 4294967296 →
    AnsweredBy room bytes call None last out ps reply → Calm (meaning bytes) → ⊥
silent room bytes call last out ps reply t roomy words answer small h calm =
    let tree = (tree_decided room bytes).0 t in
    let takes = space bytes (places_of bytes) tree.holds tree.fits.few in
    let weighs = tree.fits.weighs in
    h tree (omega arith) calm (record { last = omega arith; next = record { bytes = roomy.0; small = roomy.1; words = roomy.2 }; answer = answer; small = small })

-- a tree that was written is one, and stands for the state that it was written of
pub written : (room : ℕ) (out ps : List ℕ) (z : Size) → Drafts out ps z → Fits room (drafting out ps z) → (is_tree room (take z.used out) ≡ true) × (stands_for out z.used ≡ drafting out ps z)
written room out ps z d f =
    let same : places_in ps z ≡ places_of (bytes_in out z) = holds_unique (bytes_in out z) (places_in ps z) d.holds in (
      (tree_decided room (bytes_in out z)).1 (record { holds = subst (Holds (bytes_in out z)) same d.holds; fits = subst (λ (qs : List ℕ). Fits room (state_of (bytes_in out z) qs)) same f }),
      ap (state_of (bytes_in out z)) (sym same),
    )

-- a tree that was written lies within the buffer
pub lies : (room : ℕ) (call : List ℕ) (before : State) (a : Answered) (out out' ps reply : List ℕ) → out' ≡ out → Answers room call before a out ps reply →
    IfSome a.next (λ z. (is_tree room (take z.used out') ≡ true) × (z.used ≤ length out'))
lies room call before a out out' ps reply e h = subst (λ (l : List ℕ). IfSome a.next (λ z. (is_tree room (take z.used l) ≡ true) × (z.used ≤ length l))) (sym e) (go a.next h.tree)
  where
    go : (n : Option Size) → IfSome n (λ z. Drafts out ps z × Fits room (drafting out ps z)) → IfSome n (λ z. (is_tree room (take z.used out) ≡ true) × (z.used ≤ length out))
    go None t = tt
    go (Some z) t = ((written room out ps z t.0 t.1).0, t.0.inside)

-- the buffer that is picked stands for what is left
pub stood : (room used : ℕ) (tree out ps : List ℕ) (n : Option Size) → IfSome n (λ z. Drafts out ps z × Fits room (drafting out ps z)) → stands_for (pick tree out n) (used_by used n) ≡ left_by n out ps (stands_for tree used)
stood room used tree out ps None t = refl
stood room used tree out ps (Some z) t = (written room out ps z t.0 t.1).1

-- the same bytes by another name
pub seen_as : (room used : ℕ) (call seen tree : List ℕ) (done : Option Answered) (last out ps reply : List ℕ) → seen ≡ tree → AnsweredBy room (take used seen) call done last out ps reply →
    AnsweredBy room (take used tree) call done last out ps reply
seen_as room used call seen tree done last out ps reply e = subst (λ (l : List ℕ). AnsweredBy room (take used l) call done last out ps reply) e

-- an answer is told, and the tree afterwards is the one that was picked
pub answer_told : (room used : ℕ) (call tree out out' ps reply : List ℕ) (a : Answered) (tree' : List ℕ) (used' : ℕ) (said : List ℕ) → out' ≡ out → tree' ≡ pick tree out' a.next → used' ≡ used_by used a.next → said ≡ take a.reply reply →
    Answers room call (stands_for tree used) a out ps reply → Told room call (stands_for tree used) true (stands_for tree' used') said
answer_told room used call tree out out' ps reply a tree' used' said e f g s h =
    (s ∙ h.bytes, (λ i. stands_for (f i) (g i)) ∙ (ap (λ (l : List ℕ). stands_for (pick tree l a.next) (used_by used a.next)) e ∙ (stood room used tree out ps a.next h.tree ∙ h.state)))
