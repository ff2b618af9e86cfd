-- The four promises, kept over messages that are written and read: from those of the program itself, by `carry`; and for progress, what a group can do is done with written messages too. Assumes nothing.
use Rattle.std.proofs.Common.{◌≡◌, ℕ, suc, ◌≤◌, List, ◌++◌, map, Some, None, Option, sym, refl, ap, ◌∙◌, subst, inl, inr, ⊎_elim, append_assoc, arith}
use mathlib.Core.List.Memᴰ
use mathlib.Core.List.{Memᴰ}
use Rattle.runs.specs.Replicas.{Comes, Said, Call', Beat, Gives, Code, Scene, Seen, given, turned, count_of, Goes, hears, beats, wakes}
use Rattle.runs.specs.Room.{Clerk, LikeARoom, BusyAtNine, OnlyWaiting}
use Rattle.runs.specs.Progress.{Among, stay, talk, beat, wake, Enough, AnswersAndHealsWithin}
use Rattle.runs.specs.Carrying.{Writing, hears_written, turns_written, over_writing, ReadsAgainOfSeven}
use Rattle.runs.proofs.Carrying.{sent_letter, sent, gives_written, map_append, mapped_member, said_again, beat_again, scene_again, seen_again, carry}

-- what a group does is part of a run
pub among_goes : {M O R : Type 0} (c : Code M O R) (all : ℕ) (group : List ℕ) (n : ℕ) (es : List (Seen O R)) (s : Scene c.Mind M) → Goes c all n es s → (fs : List (Seen O R)) (u : Scene c.Mind M) → Among c all group s fs u → (k : ℕ) × Goes c all k (fs ++ es) u
among_goes c all group n es s g _ _ stay = (n, g)
among_goes {M} {O} {R} c all group n es s g _ _ (talk {es = fs} {t = t} i m l new lt gi gb a h eq mem to) =
    let r = among_goes c all group n es s g fs t a in
    let d = given i (c.turns (Said l.by l.word) m).does in
    let u = turned c i (c.turns (Said l.by l.word) m) t in
    (suc r.0, subst (λ (z : List (Seen O R)). Goes c all (suc r.0) z u) (sym (append_assoc d fs es)) (hears i m l lt r.1 h (subst (Memᴰ l) (sym eq) (Memᴰ.append_left s.letters mem)) to))
among_goes {M} {O} {R} c all group n es s g _ _ (beat {es = fs} {t = t} i m lt gi a h) =
    let r = among_goes c all group n es s g fs t a in
    (suc r.0, subst (λ (z : List (Seen O R)). Goes c all (suc r.0) z (turned c i (c.turns Beat m) t)) (sym (append_assoc (given i (c.turns Beat m).does) fs es)) (beats i m lt r.1 h))
among_goes c all group n es s g _ _ (wake {es = fs} {t = t} i x lt gi new a h) =
    let r = among_goes c all group n es s g fs t a in
    (suc r.0, wakes i x lt new r.1 h)

module _ {M O R N : Type 0} (c : Code M O R) (e : Writing c N) (again : ReadsAgainOfSeven c e) where
  pub room_kept : (k : Clerk O R) → LikeARoom k c → LikeARoom k (over_writing c e)
  room_kept k like all n some seven few es t g = let r = carry c e again all seven n es t g in like all n some seven few es r.scene r.goes

  -- a call is not a message
  no_call : {B : Type 0} (j q : ℕ) (w : M) (o : O) → ◌≡◌ {A = Comes M O} (Said j w) (Call' q o) → B
  no_call j q w o h = absurd (let z : ◌≡◌ {A = ℕ} 0 1 = cc in omega arith)

  no_tick : {B : Type 0} (q : ℕ) (o : O) → ◌≡◌ {A = Comes M O} Beat (Call' q o) → B
  no_tick q o h = absurd (let z : ◌≡◌ {A = ℕ} 0 1 = cc in omega arith)

  -- an answer in a turn with written messages is one in a turn of the program, at a message that can be read, a call or a tick
  given_by : (x : Comes N O) (m : c.Mind) (q : ℕ) (r : R) → Memᴰ (Gives q r) (turns_written c e x m).does →
      ((y : Comes M O) × Memᴰ (Gives q r) (c.turns y m).does × ((o : O) → y ≡ Call' q o → x ≡ Call' q o))
  unfolding turns_written hears_written
  given_by (Said j bs) m q r h = go (e.read m bs) h
    where
      go : (o : Option M) → Memᴰ (Gives q r) (hears_written c e.write j o m).does → (y : Comes M O) × Memᴰ (Gives q r) (c.turns y m).does × ((p : O) → y ≡ Call' q p → Said j bs ≡ Call' q p)
      go None k = absurd (Memᴰ.not-nil k)
      go (Some w) k = (Said j w, gives_written e.write q r (c.turns (Said j w) m).does k, λ p z. no_call j q w p z)
  given_by (Call' k o) m q r h = (Call' k o, gives_written e.write q r (c.turns (Call' k o) m).does h, λ p z. let a : k ≡ q = cc in let b : o ≡ p = cc in λ i. Call' (a i) (b i))
  given_by Beat m q r h = (Beat, gives_written e.write q r (c.turns Beat m).does h, λ p z. no_tick q p z)

  pub busy_kept : (k : Clerk O R) → BusyAtNine k c → BusyAtNine k (over_writing c e)
  busy_kept k busy all n some seven few es t g i q m x h mem =
      let r = carry c e again all seven n es t g in
      let y = given_by x m q k.busy mem in
      let b = busy all n some seven few es r.scene r.goes i q m y.0 (ap (λ (z : Scene c.Mind N). z.house i) (sym r.is) ∙ h) y.1 in
      (b.0, y.2 b.0 b.1, subst (λ (z : Scene c.Mind N). 8 ≤ count_of i z.waits) (sym r.is) b.2)

  pub waiting_kept : OnlyWaiting c → OnlyWaiting (over_writing c e)
  waiting_kept only all n some seven few es t g i q a m x h mem =
      let r = carry c e again all seven n es t g in
      let y = given_by x m q a mem in
      ⊎_elim (λ b. inl (b.0, y.2 b.0 b.1)) (λ b. inr (subst (λ (z : Scene c.Mind N). Memᴰ (record { house = i; number = q }) z.waits) (sym r.is) b))
      (only all n some seven few es r.scene r.goes i q a m y.0 (ap (λ (z : Scene c.Mind N). z.house i) (sym r.is) ∙ h) y.1)

  -- what a group does, with its messages written
  module _ (all : ℕ) (few : all ≤ 7) (group : List ℕ) (n : ℕ) (es : List (Seen O R)) (s : Scene c.Mind M) (g : Goes c all n es s) where
    moved : (fs gs : List (Seen O R)) (t u : Scene c.Mind N) → fs ≡ gs → t ≡ u → Among (over_writing c e) all group (sent c e s) fs t → Among (over_writing c e) all group (sent c e s) gs u
    moved fs gs t u p q a = subst (λ (z : Scene c.Mind N). Among (over_writing c e) all group (sent c e s) gs z) q (subst (λ (z : List (Seen O R)). Among (over_writing c e) all group (sent c e s) z t) p a)

    pub among_sent : (fs : List (Seen O R)) (u : Scene c.Mind M) → Among c all group s fs u → Among (over_writing c e) all group (sent c e s) fs (sent c e u)
    among_sent _ _ stay = stay
    among_sent _ _ (talk {es = fs} {t = t} i m l new lt gi gb a h eq mem to) =
        let r = among_goes c all group n es s g fs t a in
        let k = sent_letter e.write l in
        let reads = again all r.0 few (fs ++ es) t r.1 i m lt h l (subst (Memᴰ l) (sym eq) (Memᴰ.append_left s.letters mem)) in
        let y = turns_written c e (Said k.by k.word) m in
        let x = c.turns (Said l.by l.word) m in
        let is = said_again c e l.by l.word k.word m reads in
        moved (given i y.does ++ fs) (given i x.does ++ fs) (turned (over_writing c e) i y (sent c e t)) (sent c e (turned c i x t)) (sym (seen_again c e i y x fs is)) (scene_again c e i y x (sent c e t) t is refl)
        (talk i m k (map (sent_letter e.write) new) lt gi gb (among_sent fs t a) h (ap (map (sent_letter e.write)) eq ∙ map_append (sent_letter e.write) new s.letters) (mapped_member (sent_letter e.write) new l mem) to)
    among_sent _ _ (beat {es = fs} {t = t} i m lt gi a h) =
        let y = turns_written c e Beat m in
        let x = c.turns Beat m in
        let is = beat_again c e m in
        moved (given i y.does ++ fs) (given i x.does ++ fs) (turned (over_writing c e) i y (sent c e t)) (sent c e (turned c i x t)) (sym (seen_again c e i y x fs is)) (scene_again c e i y x (sent c e t) t is refl)
        (beat i m lt gi (among_sent fs t a) h)
    among_sent _ _ (wake {es = fs} {t = t} i x lt gi new a h) = wake i x lt gi new (among_sent fs t a) h

  pub heals_kept : (most : ℕ) → AnswersAndHealsWithin most c → AnswersAndHealsWithin most (over_writing c e)
  heals_kept most heals all n some seven few es t g group enough =
      let r = carry c e again all seven n es t g in
      let s = r.scene in
      let a = heals all n some seven few es s r.goes group (subst (λ (z : Scene c.Mind N). Enough all group z) r.is enough) in (
        a.0,
        sent c e a.1,
        subst (λ (z : Scene c.Mind N). Among (over_writing c e) all group z a.0 (sent c e a.1)) (sym r.is) (among_sent all seven group n es s r.goes a.0 a.1 a.2),
        (λ w m k. a.3 w (subst (λ (z : Scene c.Mind N). Memᴰ w z.waits) r.is m) k),
        a.4,
      )
