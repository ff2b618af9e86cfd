-- One step of a group at a time: from a scene s the group came to t, and a beat, or a letter said since, takes it further. What was said since s stays said; a turn changes only the replica whose it is.
use Rattle.std.proofs.Common.{◌≡◌, ℕ, zero, suc, ◌<◌, ◌≤◌, false, not, ◌&&◌, ◌⊎◌, List, [], ◌∷◌, ◌++◌, sym, refl, ap, ◌∙◌, subst, inl, inr, ⊎_elim, append_assoc, arith}
use mathlib.Core.List.Memᴰ
use mathlib.Core.List.{Memᴰ}
use Rattle.std.proofs.lemmas.Bool.{cases_eq, and_left}
use Rattle.runs.specs.Replicas.{Letter, Does, Says, Gives, Whole', Scene, Seen, Said, Beat, there, posted, turned, whole, Goes}
use Rattle.runs.specs.Progress.{Among, stay, talk, beat, wake}
use Rattle.agreement.specs.Content.{Service}
use Rattle.agreement.specs.Log.{Event}
use Rattle.agreement.specs.Machine.{Msg, Mind, Turn, turn, to_each, code}
use Rattle.agreement.proofs.Scenes.{at_same, at_other}
use Rattle.agreement.proofs.Runs.{Rel, run}
use Rattle.agreement.proofs.Among.{among_goes_here}

abbrev pub letter : {sv : Service} → (by to : ℕ) → Msg sv → Letter (Msg sv)
letter i j w = record { by = i; to = j; word = w }

pub pushed : {A : Type 0} (a b c l : List A) → l ≡ b ++ c → a ++ l ≡ (a ++ b) ++ c
pushed a b c l e = ap (λ k. a ++ k) e ∙ sym (append_assoc a b c)

-- what is said is posted
pub said_posted : {sv : Service} (i j : ℕ) (w : Msg sv) (ds : List (Does (Msg sv) sv.R)) → Memᴰ (Says j w) ds → Memᴰ (letter i j w) (posted i ds)
unfolding posted
said_posted i j w [] d = absurd (Memᴰ.not-nil d)
said_posted {sv} i j w (Says k x ∷ ds) d = ⊎_elim (λ e. Memᴰ.head (let a : j ≡ k = cc in let b : w ≡ x = cc in rw (a, b) refl)) (λ z. Memᴰ.tail (said_posted {sv = sv} i j w ds z)) (Memᴰ.cases_cons d)
said_posted {sv} i j w (Gives n r ∷ ds) d = ⊎_elim (λ e. absurd (let z : ◌≡◌ {A = ℕ} 0 1 = cc in omega arith)) (λ z. said_posted {sv = sv} i j w ds z) (Memᴰ.cases_cons d)
said_posted {sv} i j w (Whole' ∷ ds) d = ⊎_elim (λ e. absurd (let z : ◌≡◌ {A = ℕ} 0 1 = cc in omega arith)) (λ z. said_posted {sv = sv} i j w ds z) (Memᴰ.cases_cons d)

-- what is said to each of n is said to the replica j
pub to_each_says : {sv : Service} (f : ℕ → List (Does (Msg sv) sv.R)) (j : ℕ) (e : Does (Msg sv) sv.R) → Memᴰ e (f j) → (n : ℕ) → j < n → Memᴰ e (to_each {sv = sv} n f)
unfolding to_each
to_each_says f j e d zero lt = absurd (omega arith)
to_each_says {sv} f j e d (suc n) lt = go (cases_eq j n) (to_each_says {sv = sv} f j e d n)
  where
    go : (j ≡ n) ⊎ (j ≡ n → ⊥) → (j < n → Memᴰ e (to_each {sv = sv} n f)) → Memᴰ e (to_each {sv = sv} n f ++ f n)
    go (inl q) ih = Memᴰ.append_right (to_each {sv = sv} n f) (subst (λ (k : ℕ). Memᴰ e (f k)) q d)
    go (inr q) ih = Memᴰ.append_left (f n) (ih (omega arith))

module _ {sv : Service} (all : ℕ) (group : List ℕ) (s : Scene (Mind sv) (Msg sv)) where
  -- the group can come from s to t
  abbrev pub Reaches : Scene (Mind sv) (Msg sv) → Type 0
  Reaches t = (fs : List (Seen sv.O sv.R)) × Among (code sv) all group s fs t

  -- it was said since s
  abbrev pub Since : Scene (Mind sv) (Msg sv) → Letter (Msg sv) → Type 0
  Since t l = (new : List (Letter (Msg sv))) × (t.letters ≡ new ++ s.letters) × Memᴰ l new

  pub new_of : {fs : List (Seen sv.O sv.R)} {t : Scene (Mind sv) (Msg sv)} → Among (code sv) all group s fs t → (new : List (Letter (Msg sv))) × (t.letters ≡ new ++ s.letters)
  new_of stay = ([], refl)
  new_of (talk i m l new lt a b w e q d f) = let k = new_of w in (posted i (turn (Said l.by l.word) m).does ++ k.0, pushed (posted i (turn (Said l.by l.word) m).does) k.0 s.letters _ k.1)
  new_of (beat i m lt a w e) = let k = new_of w in (posted i (turn Beat m).does ++ k.0, pushed (posted i (turn Beat m).does) k.0 s.letters _ k.1)
  new_of (wake i r lt a q w e) = new_of w

  -- what holds of runs holds of t
  pub rel_at : all ≤ 7 → {n : ℕ} {es : List (Seen sv.O sv.R)} → Goes (code sv) all n es s → (t : Scene (Mind sv) (Msg sv)) → (w : Reaches t) → (h : List (Event sv)) × Rel all h (w.0 ++ es) t
  rel_at small g t w = run all small (among_goes_here g w.1).1

  pub beat_to : (t : Scene (Mind sv) (Msg sv)) (i : ℕ) (m : Mind sv) (x : Turn sv) → i < all → Memᴰ i group → Reaches t → t.house i ≡ there m → turn Beat m ≡ x → Reaches (turned (code sv) i x t)
  beat_to t i m x lt a w e q = (_, rw q at (beat i m lt a w.1 e))

  pub talk_to : (t : Scene (Mind sv) (Msg sv)) (i : ℕ) (m : Mind sv) (l : Letter (Msg sv)) (x : Turn sv) → i < all → Memᴰ i group → Memᴰ l.by group → Reaches t → t.house i ≡ there m → Since t l → l.to ≡ i → turn (Said l.by l.word) m ≡ x → Reaches (turned (code sv) i x t)
  talk_to t i m l x lt a b w e d f q = (_, rw q at (talk i m l d.0 lt a b w.1 e d.1 d.2 f))

  -- a turn of i: what was said since stays so, and what it says is said since
  pub since_stays : (t : Scene (Mind sv) (Msg sv)) (i : ℕ) (x : Turn sv) (l : Letter (Msg sv)) → Since t l → Since (turned (code sv) i x t) l
  since_stays t i x l d = (posted i x.does ++ d.0, pushed (posted i x.does) d.0 s.letters t.letters d.1, Memᴰ.append_right (posted i x.does) d.2)

  pub since_said : (t : Scene (Mind sv) (Msg sv)) (i j : ℕ) (w : Msg sv) (x : Turn sv) → Reaches t → Memᴰ (Says j w) x.does → Since (turned (code sv) i x t) (letter i j w)
  since_said t i j w x r d = let k = new_of r.1 in (posted i x.does ++ k.0, pushed (posted i x.does) k.0 s.letters t.letters k.1, Memᴰ.append_left k.0 (said_posted {sv = sv} i j w x.does d))

  -- a turn of i changes no other, and who is whole stays so
  pub house_here : (t : Scene (Mind sv) (Msg sv)) (i : ℕ) (x : Turn sv) → (turned (code sv) i x t).house i ≡ there x.mind
  house_here t i x = at_same i (there x.mind) t.house i refl

  pub house_there : (t : Scene (Mind sv) (Msg sv)) (i : ℕ) (x : Turn sv) (j : ℕ) → (j ≡ i → ⊥) → (turned (code sv) i x t).house j ≡ t.house j
  house_there t i x j n = at_other i (there x.mind) t.house j n

  pub frail_there : (t : Scene (Mind sv) (Msg sv)) (i : ℕ) (x : Turn sv) (j : ℕ) → (j ≡ i → ⊥) → (turned (code sv) i x t).frail j ≡ t.frail j
  frail_there t i x j n = at_other i (t.frail i && not (whole x.does)) t.frail j n

  pub whole_stays : (t : Scene (Mind sv) (Msg sv)) (i : ℕ) (x : Turn sv) → t.frail i ≡ false → (j : ℕ) → (turned (code sv) i x t).frail j ≡ t.frail j
  whole_stays t i x e j = ⊎_elim (λ q. at_same i (t.frail i && not (whole x.does)) t.frail j q ∙ (and_left _ _ e ∙ (sym e ∙ ap t.frail (sym q)))) (λ n. frail_there t i x j n) (cases_eq j i)
