-- What a group does by itself is a run: so all that holds of runs holds on the way. One stretch after another is one stretch. Nobody becomes frail; what waits goes on waiting, or is answered; no replica has more calls waiting than before.
use Rattle.std.proofs.Common.{◌≡◌, ℕ, Bool, false, ◌&&◌, eqb, ◌⊎◌, List, [], ◌∷◌, ◌++◌, sym, refl, ap, ◌∙◌, subst, inl, inr, ⊎_elim, append_assoc}
use mathlib.Core.List.Memᴰ
use mathlib.Core.List.{Memᴰ}
use Rattle.std.proofs.lemmas.Bool.{cond_both, and_parts, eqb-true, cases_eq}
use Rattle.runs.specs.Replicas.{Said, Beat, Code, Letter, Does, Says, Gives, Whole', Scene, Seen, gave, Waits, at, posted, given, without, answered_off, Goes}
use Rattle.runs.specs.Progress.{Among, stay, talk, beat, wake}
use Rattle.runs.proofs.Kept.{among_goes}
use Rattle.agreement.proofs.Scenes.{at_same, at_other}

-- a turn of i
frail_turn : {A M : Type 0} (s : Scene A M) (i j : ℕ) (b : Bool) → s.frail j ≡ false → (j ≡ i) ⊎ (j ≡ i → ⊥) → at i (s.frail i && b) s.frail j ≡ false
frail_turn s i j b e (inl q) = at_same i (s.frail i && b) s.frail j q ∙ ap (λ (z : Bool). z && b) (ap s.frail (sym q) ∙ e)
frail_turn s i j b e (inr ne) = at_other i (s.frail i && b) s.frail j ne ∙ e

-- answers to a call that waits
abbrev Given : {O R : Type 0} → Waits → List (Seen O R) → Type 0
Given {O} {R} a fs = (r : R) × Memᴰ (gave a.house a.number r) fs

without_or : (i k : ℕ) (a : Waits) (ws : List Waits) → Memᴰ a ws → Memᴰ a (without i k ws) ⊎ ((i ≡ a.house) × (k ≡ a.number))
unfolding without
without_or i k a [] d = absurd (Memᴰ.not-nil d)
without_or i k a (b ∷ ws) d =
    cond_both (eqb i b.house && eqb k b.number) (without i k ws) (b ∷ without i k ws) (λ l. Memᴰ a l ⊎ ((i ≡ a.house) × (k ≡ a.number)))
    (λ f. ⊎_elim (λ e. let z = and_parts (eqb i b.house) (eqb k b.number) f in inr (eqb-true i b.house z.0 ∙ ap (λ (w : Waits). w.house) (sym e), eqb-true k b.number z.1 ∙ ap (λ (w : Waits). w.number) (sym e))) (λ z. without_or i k a ws z) (Memᴰ.cases_cons d))
    (λ _. ⊎_elim (λ e. inl (Memᴰ.head e)) (λ z. ⊎_elim (λ y. inl (Memᴰ.tail y)) (λ y. inr y) (without_or i k a ws z)) (Memᴰ.cases_cons d))

off_or : {M O R : Type 0} (i : ℕ) (a : Waits) (ds : List (Does M R)) (ws : List Waits) → Memᴰ a ws → Memᴰ a (answered_off i ds ws) ⊎ Given {O = O} a (given i ds)
unfolding answered_off given
off_or i a [] ws d = inl d
off_or i a (Says j w ∷ ds) ws d = off_or i a ds ws d
off_or i a (Gives k r ∷ ds) ws d =
    ⊎_elim (λ z. ⊎_elim (λ y. inl y) (λ (q, y). inr (q, Memᴰ.tail y)) (off_or i a ds (without i k ws) z)) (λ (e, f). inr (r, Memᴰ.head (λ j. gave (sym e j) (sym f j) r))) (without_or i k a ws d)
off_or i a (Whole' ∷ ds) ws d = off_or i a ds ws d

module _ {M O R : Type 0} {c : Code M O R} {all : ℕ} {group : List ℕ} where
  reseen : {s t : Scene c.Mind M} {es fs : List (Seen O R)} → es ≡ fs → Among c all group s es t → Among c all group s fs t
  reseen {s = s} {t = t} f g = subst (λ (z : List (Seen O R)). Among c all group s z t) f g

  pub among_goes_here : {n : ℕ} {es : List (Seen O R)} {s : Scene c.Mind M} {fs : List (Seen O R)} {t : Scene c.Mind M} → Goes c all n es s → Among c all group s fs t → (k : ℕ) × Goes c all k (fs ++ es) t
  among_goes_here {n} {es} {s} {fs} {t} g a = among_goes c all group n es s g fs t a

  pub among_letters : {s : Scene c.Mind M} {fs : List (Seen O R)} {t : Scene c.Mind M} → Among c all group s fs t → (new : List (Letter M)) × (t.letters ≡ new ++ s.letters)
  among_letters stay = ([], refl)
  among_letters {s = s} (talk i m l new lt in' by' a here posts d to) =
      let (old, e) = among_letters a in (posted i (c.turns (Said l.by l.word) m).does ++ old, ap (λ (z : List (Letter M)). posted i (c.turns (Said l.by l.word) m).does ++ z) e ∙ sym (append_assoc (posted i (c.turns (Said l.by l.word) m).does) old s.letters))
  among_letters {s = s} (beat i m lt in' a here) =
      let (old, e) = among_letters a in (posted i (c.turns Beat m).does ++ old, ap (λ (z : List (Letter M)). posted i (c.turns Beat m).does ++ z) e ∙ sym (append_assoc (posted i (c.turns Beat m).does) old s.letters))
  among_letters (wake i r lt in' new a here) = among_letters a

  -- one stretch after another
  pub among_then : {es : List (Seen O R)} {s t : Scene c.Mind M} {fs : List (Seen O R)} {u : Scene c.Mind M} → Among c all group s es t → Among c all group t fs u → Among c all group s (fs ++ es) u
  among_then a stay = a
  among_then {es} {s = s} a (talk {es = fs} i m l new lt in' by' b here posts d to) =
      let (old, e) = among_letters a in
      reseen (sym (append_assoc (given i (c.turns (Said l.by l.word) m).does) fs es))
      (talk i m l (new ++ old) lt in' by' (among_then a b) here (posts ∙ (ap (λ (z : List (Letter M)). new ++ z) e ∙ sym (append_assoc new old s.letters))) (Memᴰ.append_left old d) to)
  among_then {es} {s = s} a (beat {es = fs} i m lt in' b here) = reseen (sym (append_assoc (given i (c.turns Beat m).does) fs es)) (beat i m lt in' (among_then a b) here)
  among_then a (wake i r lt in' new b here) = wake i r lt in' new (among_then a b) here

  -- who is not frail does not become so
  pub among_whole : {s : Scene c.Mind M} {fs : List (Seen O R)} {t : Scene c.Mind M} → Among c all group s fs t → (j : ℕ) → s.frail j ≡ false → t.frail j ≡ false
  among_whole stay j e = e
  among_whole (talk {t = t} i m l new lt in' by' a here posts d to) j e = frail_turn t i j _ (among_whole a j e) (cases_eq j i)
  among_whole (beat {t = t} i m lt in' a here) j e = frail_turn t i j _ (among_whole a j e) (cases_eq j i)
  among_whole (wake i r lt in' new a here) j e = among_whole a j e

  -- what waits goes on waiting, or is answered
  pub among_waits : {s : Scene c.Mind M} {fs : List (Seen O R)} {t : Scene c.Mind M} → Among c all group s fs t → (a : Waits) → Memᴰ a s.waits → Memᴰ a t.waits ⊎ Given a fs
  among_waits stay a d = inl d
  among_waits (talk {es = fs} {t = t} i m l new lt in' by' b here posts e to) a d =
      ⊎_elim (λ z. ⊎_elim (λ y. inl y) (λ (r, y). inr (r, Memᴰ.append_left fs y)) (off_or i a (c.turns (Said l.by l.word) m).does t.waits z)) (λ (r, y). inr (r, Memᴰ.append_right (given i (c.turns (Said l.by l.word) m).does) y)) (among_waits b a d)
  among_waits (beat {es = fs} {t = t} i m lt in' b here) a d =
      ⊎_elim (λ z. ⊎_elim (λ y. inl y) (λ (r, y). inr (r, Memᴰ.append_left fs y)) (off_or i a (c.turns Beat m).does t.waits z)) (λ (r, y). inr (r, Memᴰ.append_right (given i (c.turns Beat m).does) y)) (among_waits b a d)
  among_waits (wake i r lt in' new b here) a d = among_waits b a d
