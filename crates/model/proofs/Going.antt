-- What a whole call does: several acts one after the other, looking, kids, opening and ending. From what each act does, to what a call leaves. Assumes nothing.
use Rattle.std.proofs.Common.{◌≡◌, ℕ, suc, ◌+◌, ◌<◌, ◌≤◌, Bool, true, not, ◌||◌, eqb, ltb, leb, ◌⊎◌, List, [], ◌∷◌, ◌++◌, length, sym, refl, ap, ◌∙◌, subst, inl, inr, ⊎_elim, arith}
use mathlib.Core.List.Memᴰ
use mathlib.Core.List.{Memᴰ}
use Rattle.std.proofs.lemmas.Bool.{cond_both, not_from_false, eqb-true, ltb-true, lt-ltb, ne_eqb}
use Rattle.model.specs.Tree.{Entry, State, some, keep, Act, Step, Bad, Good, acts, Going, Failed, Fine, stepped, goes, all_of, closed, Out, Call, Do, Look, Kids, Open, End, does, onward, values_in}
use Rattle.model.specs.Laws.{Sound}
use Rattle.model.proofs.Members.{every_member, every_from, some_member, some_from, kept_member, member_kept}
use Rattle.model.proofs.Proper.{Proper, sound_proper, proper_sound}
use Rattle.model.proofs.Deeds.{Later, later_same, later_then, Did, act_did, proper-kept}

-- two acts, one after the other
did_then : (s t u : State) → Did s t → Did t u → Did s u
did_then s t u a b =
    let n : t.changes + 1 ≡ s.changes + 1 = ap (λ (k : ℕ). k + 1) a.changes in
    record {
      changes = b.changes ∙ a.changes;
      sessions = b.sessions ∙ a.sessions;
      last_session = b.last_session ∙ a.last_session;
      top = omega (arith, a.top, b.top);
      back = λ f m. ⊎_elim
          (λ x. ⊎_elim
          (λ y. inl (y.0, y.1, later_then (s.changes + 1) y.0 x.0 f y.2 (subst (λ (k : ℕ). Later k x.0 f) n x.2)))
          (λ y. inr (sym x.2.made ∙ y))
          (a.back x.0 x.1))
          (λ x. inr (x ∙ n)) (b.back f m);
      proper = λ p. subst (λ (k : ℕ). Proper k u.entries u.sessions) n (b.proper (subst (λ (k : ℕ). Proper k t.entries t.sessions) (sym n) (a.proper p)));
    }

pub did_nothing : (s : State) → Did s s
did_nothing s = record { changes = refl; sessions = refl; last_session = refl; top = omega arith; back = λ f m. inl (f, m, later_same (s.changes + 1) f); proper = λ p. p }

-- as far as acts were done, they led here
abbrev pub Led : State → Going → Type 0
Led s (Failed n k) = Unit {0}
Led s (Fine n ps t) = Did s t

module _ (room : ℕ) (s : State) where
  step_led : (a : Act) (g : Going) → Led s g → Led s (goes room a g)
  unfolding goes stepped
  step_led a (Failed n k) h = tt
  step_led a (Fine n ps t) h = go (acts a t) refl
    where
      go : (o : Step) → acts a t ≡ o → Led s (stepped room n ps t o)
      go (Bad k) e = tt
      go (Good qs u) e = cond_both _ (Failed n 9) (Fine (suc n) (ps ++ qs) u) (Led s) (λ b. tt) (λ b. did_then s t u h (act_did a t qs u e))

  pub all_led : (as' : List Act) (g : Going) → Led s g → Led s (all_of room as' g)
  unfolding all_of
  all_led [] g h = h
  all_led (a ∷ as') g h = all_led as' (goes room a g) (step_led a g h)

-- x and f are one making of one entry, f not earlier
pub record Since (x f : Entry) : Type 0 where
  pub path : x.path ≡ f.path
  pub made : x.made ≡ f.made
  pub kids : x.kids ≤ f.kids
  pub version : x.version ≤ f.version
  pub value : x.version ≡ f.version → x.value ≡ f.value

since_same : (x : Entry) → Since x x
since_same x = record { path = refl; made = refl; kids = omega arith; version = omega arith; value = λ e. refl }

since_then : (x y z : Entry) → Since x y → Since y z → Since x z
since_then x y z a b = record {
  path = a.path ∙ b.path;
  made = a.made ∙ b.made;
  kids = omega (arith, a.kids, b.kids);
  version = omega (arith, a.version, b.version);
  value = λ e. a.value (omega (arith, a.version, b.version)) ∙ b.value (omega (arith, a.version, b.version));
}

later_since : (n : ℕ) (x f : Entry) → Later n x f → Since x f
later_since n x f a = record { path = a.path; made = a.made; kids = a.kids; version = a.version; value = a.value }

-- what calls lead to
pub record Went (s t : State) : Type 0 where
  pub changes : s.changes ≤ t.changes
  pub top : s.top ≤ t.top
  pub back : (f : Entry) → Memᴰ f t.entries → ((x : Entry) × Memᴰ x s.entries × Since x f) ⊎ (s.changes < f.made)
  pub sound : Sound s → Sound t

pub went_nothing : (s : State) → Went s s
went_nothing s = record { changes = omega arith; top = omega arith; back = λ f m. inl (f, m, since_same f); sound = λ h. h }

pub went_then : (s t u : State) → Went s t → Went t u → Went s u
went_then s t u a b = record {
  changes = omega (arith, a.changes, b.changes);
  top = omega (arith, a.top, b.top);
  back = λ f m. ⊎_elim
      (λ x. ⊎_elim (λ y. inl (y.0, y.1, since_then y.0 x.0 f y.2 x.2)) (λ y. inr (omega (arith, y, x.2.made))) (a.back x.0 x.1))
      (λ x. inr (omega (arith, x, a.changes))) (b.back f m);
  sound = λ h. b.sound (a.sound h);
}

proper_more : (m n : ℕ) (es : List Entry) (ss : List ℕ) → m ≤ n → Proper m es ss → Proper n es ss
proper_more m n es ss h p = record { once = p.once; named = p.named; under = p.under; owned = p.owned; dated = λ e k. let d = p.dated e k in (d.0, omega arith); positive = p.positive }

did_went : (s t : State) → Did s t → Went s (onward t)
did_went s t d = record {
  changes = omega (arith, d.changes);
  top = d.top;
  back = λ f m. ⊎_elim (λ x. inl (x.0, x.1, later_since (s.changes + 1) x.0 f x.2)) (λ x. inr (omega (arith, x))) (d.back f m);
  sound = λ h. proper_sound (onward t)
      (subst (λ (k : ℕ). Proper k t.entries t.sessions) (ap (λ (k : ℕ). k + 1) (sym d.changes)) (d.proper (proper_more s.changes (s.changes + 1) s.entries s.sessions (omega arith) (sound_proper s h))));
}

closed_went : (s : State) (g : Going) → Led s g → Went s (closed s g).state
unfolding closed
closed_went s (Failed n k) h = went_nothing s
closed_went s (Fine n ps t) h = did_went s t h

-- opening: one session more
abbrev opened : State → State
opened s = record { changes = s.changes + 1; top = s.top; entries = s.entries; sessions = s.sessions ++ ((s.last_session + 1) ∷ []); last_session = s.last_session + 1 }

open_went : (s : State) → Went s (opened s)
open_went s = record {
  changes = omega arith;
  top = omega arith;
  back = λ f m. inl (f, m, since_same f);
  sound = λ h. let p = sound_proper s h in proper_sound (opened s) (record {
    once = p.once;
    named = p.named;
    under = p.under;
    owned = λ e m. ⊎_elim inl (λ z. let r = some_member (eqb e.owner) s.sessions z in inr (some_from (eqb e.owner) (s.sessions ++ ((s.last_session + 1) ∷ [])) r.0 (Memᴰ.append_left ((s.last_session + 1) ∷ []) r.1) r.2)) (p.owned e m);
    dated = λ e m. let d = p.dated e m in (d.0, omega arith);
    positive = every_from (λ (x : ℕ). ltb 0 x) (s.sessions ++ ((s.last_session + 1) ∷ []))
        (λ x m. ⊎_elim (every_member (λ (y : ℕ). ltb 0 y) s.sessions x p.positive) (λ r. lt-ltb 0 x (omega (arith, Memᴰ.eq_of_singleton r))) (Memᴰ.append_cases s.sessions m));
  });
}

-- ending: a session, and all that goes with it
abbrev ended : ℕ → State → State
ended k s = record { changes = s.changes + 1; top = s.top; entries = keep (λ (e : Entry). not (eqb k e.owner)) s.entries; sessions = keep (λ (x : ℕ). not (eqb k x)) s.sessions; last_session = s.last_session }

end_went : (k : ℕ) (s : State) → some (eqb k) s.sessions ≡ true → Went s (ended k s)
end_went k s there = record {
  changes = omega arith;
  top = omega arith;
  back = λ f m. inl (f, (kept_member (λ (e : Entry). not (eqb k e.owner)) s.entries f m).0, since_same f);
  sound = λ h. let p = sound_proper s h in proper_sound (ended k s)
      (proper-kept (s.changes + 1) s.entries s.sessions (keep others s.sessions) (λ (e : Entry). not (eqb k e.owner)) (proper_more s.changes (s.changes + 1) s.entries s.sessions (omega arith) p)
      (λ e u m n f a z o. not_from_false (eqb k u.owner) (ne_eqb k u.owner (λ e'. absurd (let r = some_member (eqb k) s.sessions there in
      omega (arith, ltb-true 0 r.0 (every_member (λ (y : ℕ). ltb 0 y) s.sessions r.0 p.positive r.1), eqb-true k r.0 r.2, e', o)))))
      (λ e m f. ⊎_elim inl (λ z. let r = some_member (eqb e.owner) s.sessions z in
      inr (some_from (eqb e.owner) (keep others s.sessions) r.0 (member_kept others s.sessions r.0 r.1 (ap (λ (x : ℕ). not (eqb k x)) (sym (eqb-true e.owner r.0 r.2)) ∙ f)) r.2)) (p.owned e m))
      (every_from (λ (x : ℕ). ltb 0 x) (keep others s.sessions) (λ x m. every_member (λ (y : ℕ). ltb 0 y) s.sessions x p.positive (kept_member others s.sessions x m).0)));
}
  where
    others : ℕ → Bool
    others x = not (eqb k x)

-- every call
pub call_went : (room : ℕ) (c : Call) (s : State) → Went s (does room c s).state
unfolding does
call_went room (Do as') s =
    cond_both (ltb 64 (length as') || ltb 262144 (values_in as')) _ (closed s (all_of room as' (Fine 0 [] s))) (λ (o : Out). Went s o.state) (λ e. went_nothing s) (λ e. closed_went s (all_of room as' (Fine 0 [] s)) (all_led room s as' (Fine 0 [] s) (did_nothing s)))
call_went room (Look p) s = went_nothing s
call_went room (Kids p) s = went_nothing s
call_went room Open s = cond_both (leb 4096 (length s.sessions)) _ _ (λ (o : Out). Went s o.state) (λ e. went_nothing s) (λ e. open_went s)
call_went room (End k) s = cond_both (some (eqb k) s.sessions) _ _ (λ (o : Out). Went s o.state) (λ e. end_went k s e) (λ e. went_nothing s)

-- a call counts as one change at most
closed_steps : (s : State) (g : Going) → Led s g → (closed s g).state.changes ≤ s.changes + 1
unfolding closed
closed_steps s (Failed n k) h = omega arith
closed_steps s (Fine n ps t) h = omega (arith, h.changes)

pub call_steps : (room : ℕ) (c : Call) (s : State) → (does room c s).state.changes ≤ s.changes + 1
unfolding does
call_steps room (Do as') s =
    cond_both (ltb 64 (length as') || ltb 262144 (values_in as')) _ (closed s (all_of room as' (Fine 0 [] s))) (λ (o : Out). o.state.changes ≤ s.changes + 1) (λ e. omega arith) (λ e. closed_steps s (all_of room as' (Fine 0 [] s)) (all_led room s as' (Fine 0 [] s) (did_nothing s)))
call_steps room (Look p) s = omega arith
call_steps room (Kids p) s = omega arith
call_steps room Open s = cond_both (leb 4096 (length s.sessions)) _ _ (λ (o : Out). o.state.changes ≤ s.changes + 1) (λ e. omega arith) (λ e. omega arith)
call_steps room (End k) s = cond_both (some (eqb k) s.sessions) _ _ (λ (o : Out). o.state.changes ≤ s.changes + 1) (λ e. omega arith) (λ e. omega arith)
