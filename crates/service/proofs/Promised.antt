-- From linearizability to what clients can rely on. Assumes nothing.
use Rattle.std.proofs.Common.{◌≡◌, ℕ, ◌+◌, ◌≤◌, false, List, [], ◌∷◌, sym, refl, ap, ◌∙◌, subst, inl, inr, ⊎_elim, arith}
use mathlib.Core.List.Memᴰ
use mathlib.Core.List.{Memᴰ}
use Rattle.model.specs.Tree.{Path, State, Make, Drop, Call, Do, Reply, No, Done, core}
use Rattle.model.proofs.Same.{same_path_decides}
use Rattle.runs.specs.Replicas.{Seen, Scene, asked, gave, Goes}
use Rattle.runs.specs.Order.{Deed, Line, Ordered, done_often, times_in}
use Rattle.runs.proofs.Orders.{ordered, asked_once, asked_same, line_older, not_done, line_reply, line_last, times_in_some}
use Rattle.promise.specs.Promise.{tree}
use Rattle.promise.proofs.Refused.{refused_changes_nothing}
use Rattle.agreement.specs.Machine.{Msg, Mind, code}
use Rattle.agreement.proofs.Linear.{in_the_room}
use Rattle.service.specs.Service.{calls}
use Rattle.service.specs.Users.{RefusedKeeps, OneAfterTheOther, NeverBack, OneMaker}
use Rattle.service.proofs.Makers.{NoDrop, MadeIt, made_once}
use Rattle.service.proofs.Lawfulness.{calls_lawful}

-- one that was refused left what was before it
refused_keeps : (room : ℕ) (ds : List (Deed Call Reply)) (t : State) → Line (tree room core) ds t → RefusedKeeps room ds
refused_keeps room ds t l newer older d n k e is =
    let r = line_older (tree room core) ds newer (d ∷ older) t l e in
    let w = line_last (tree room core) d older r.0 r.1 in
    let same = refused_changes_nothing room core d.call w.0 n k (sym w.2 ∙ is) in
    (w.0, w.1, subst (Line (tree room core) (d ∷ older)) (w.3 ∙ same) r.1)

pub one_after_the_other : (room : ℕ) → OneAfterTheOther room
one_after_the_other room all n some seven es s g =
    let r = in_the_room (calls room) (calls_lawful room) all n seven es s g in
    let o = ordered (tree room core) es r.0 r.1 r.2 r.3 in
    let once : (k : ℕ) → done_often k o.deeds + times_in k o.handed ≤ 1 = λ k. omega (arith, o.once k, asked_once (code (calls room)) all n es s g k) in (
      r.0,
      o,
      (λ k. omega (arith, once k)),
      (λ i k m. ⊎_elim (λ d. let w = line_reply (tree room core) o.deeds r.0 o.line d.0 d.1 in absurd ((calls_lawful room).replies d.0.call w.0 (sym w.1 ∙ d.4))) (λ h. omega (arith, once k, times_in_some k o.handed h.1)) (o.settled i k (No 0 11) m)),
      refused_keeps room o.deeds r.0 o.line,
    )

pub never_back : (room : ℕ) → NeverBack room
never_back room all n some seven es s g xs ys e =
    let r = one_after_the_other room all n some seven es s g in
    let o = r.1 in
    let w = o.real_time xs ys e in
    let u = line_older (tree room core) o.deeds w.newer w.older r.0 o.line w.split in (
      w.newer,
      w.older,
      r.0,
      u.0,
      subst (λ (l : List (Deed Call Reply)). Line (tree room core) l r.0) w.split o.line,
      u.1,
      (λ i k a m. ⊎_elim (λ d. inr (d.0, d.1, d.3, d.4)) inl (w.given i k a m)),
      (λ k z. not_done ys w.older k w.asked' z),
      (λ i k a m. ⊎_elim (λ d. inr (d.0, subst (Memᴰ d.0) w.split d.1, d.3, d.4)) (λ h. inl h.0) (o.settled i k a m)),
    )

-- an answer that tells a making, as the call that was done
maker : (room all n : ℕ) (es : List (Seen Call Reply)) (s : Scene (Mind (calls room)) (Msg (calls room))) → Goes (code (calls room)) all n es s → (t : State) (o : Ordered (tree room core) es t) (p : Path) (i k : ℕ) (v : List ℕ) → Memᴰ (asked i k (Do (Make p v false 0 ∷ []))) es → Memᴰ (gave i k (Done (p ∷ []))) es → (d : Deed Call Reply) × Memᴰ d o.deeds × (d.number ≡ k) × MadeIt p d
maker room all n es s g t o p i k v m a =
    let w = o.real_time [] es refl in
    let once = asked_once (code (calls room)) all n es s g k in
    ⊎_elim
    (λ d.
    let came = subst (λ (y : ℕ). Memᴰ (asked d.0.house y d.0.call) es) d.3 (w.asked' d.0 d.1) in
    (d.0, subst (Memᴰ d.0) (sym w.split) (Memᴰ.append_right w.newer d.1), d.3, record { value = v; owner = 0; call = asked_same es d.0.house i k d.0.call (Do (Make p v false 0 ∷ [])) once came m; reply = d.4 }))
    (λ z. absurd (let y : ◌≡◌ {A = ℕ} 0 1 = cc in omega arith))
    (w.given i k (Done (p ∷ [])) a)

pub one_maker : (room : ℕ) → OneMaker room
one_maker room all n some seven es s g p i j k q v w mi mj nd gi gj =
    let r = one_after_the_other room all n some seven es s g in
    let o = r.1 in
    let d = maker room all n es s g r.0 o p i k v mi gi in
    let e = maker room all n es s g r.0 o p j q w mj gj in
    let none_dropped : (x : Deed Call Reply) → Memᴰ x o.deeds → NoDrop p x.call =
    λ x m y same ex is. nd x.house x.number ex (subst (λ (c : Call). Memᴰ (asked x.house x.number c) es) (is ∙ ap (λ (z : Path). Do (Drop z ex ∷ [])) ((same_path_decides y p).0 same)) (o.came x m)) in
    sym d.2 ∙ ap (λ (x : Deed Call Reply). x.number) (made_once p room o.deeds r.0 o.line none_dropped d.0 e.0 d.1 e.1 d.3 e.3) ∙ e.2
