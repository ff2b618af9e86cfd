-- What one act does to the entries: each that is there afterwards was there before, and went on from there, or was made just now; and a tree stays a tree. Assumes nothing.
use Rattle.std.proofs.Common.{◌≡◌, ℕ, ◌+◌, ◌<◌, ◌≤◌, Bool, true, false, cond, not, ◌&&◌, ◌||◌, eqb, ltb, leb, ◌⊎◌, List, [], ◌∷◌, ◌++◌, length, sym, refl, ap, ◌∙◌, subst, inl, inr, ⊎_elim, arith}
use mathlib.Core.List.Memᴰ
use mathlib.Core.List.{Memᴰ}
use Rattle.std.proofs.lemmas.Bool.{and_from, or_parts, cases_Bool, false≢true, not-false, not_from_false, eqb-true, ltb-false, leb-false}
use Rattle.model.specs.Tree.{Path, Entry, State, some, every, keep, change, find, none, above, last_name, digits, same_path, at, there, is_kid, has_kids, path_ok, value_ok, count_at, counted, with_entries, true_name, owner_of, put_in, Step, Good, unless, Act, Make, Put, Drop, Check, acts}
use Rattle.model.proofs.Members.{none_pass, changed_member, member_changed, some_changed, kept_member, member_kept, find_member}
use Rattle.model.proofs.Same.{same_path_decides, above_renamed, numbered_ok}
use Rattle.model.proofs.Once.{once_changed, once_push, once_kept}
use Rattle.model.specs.Laws.{paths_once}
use Rattle.model.proofs.Proper.{Proper}

-- f is x later on: the same entry of the same making, its counts not lower, and another value only by another version. n: the count that a change would now bear
pub record Later (n : ℕ) (x f : Entry) : Type 0 where
  pub path : x.path ≡ f.path
  pub owner : x.owner ≡ f.owner
  pub made : x.made ≡ f.made
  pub kids : x.kids ≤ f.kids
  pub version : x.version ≤ f.version
  pub value : x.version ≡ f.version → x.value ≡ f.value
  pub changed : x.changed ≤ n → (x.changed ≤ f.changed) × (f.changed ≤ n)

pub later_same : (n : ℕ) (x : Entry) → Later n x x
later_same n x = record { path = refl; owner = refl; made = refl; kids = omega arith; version = omega arith; value = λ e. refl; changed = λ h. (omega arith, h) }

pub later_then : (n : ℕ) (x y z : Entry) → Later n x y → Later n y z → Later n x z
later_then n x y z a b = record {
  path = a.path ∙ b.path;
  owner = a.owner ∙ b.owner;
  made = a.made ∙ b.made;
  kids = omega (arith, a.kids, b.kids);
  version = omega (arith, a.version, b.version);
  value = λ e. a.value (omega (arith, a.version, b.version)) ∙ b.value (omega (arith, a.version, b.version));
  changed = λ h. let p = a.changed h in let q = b.changed p.1 in (omega arith, q.1);
}

abbrev pub counting : Entry → Entry
counting e = record { path = e.path; value = e.value; version = e.version; made = e.made; changed = e.changed; kids = e.kids + 1; owner = e.owner }

counting_later : (n : ℕ) (x : Entry) → Later n x (counting x)
counting_later n x = record { path = refl; owner = refl; made = refl; kids = omega arith; version = omega arith; value = λ e. refl; changed = λ h. (omega arith, h) }

putting_later : (n : ℕ) (v : List ℕ) (x : Entry) → Later n x (put_in v n x)
putting_later n v x = record { path = refl; owner = refl; made = refl; kids = omega arith; version = omega arith; value = λ e. absurd (omega arith); changed = λ h. (h, omega arith) }

-- what was done to a state by an act
pub record Did (s t : State) : Type 0 where
  pub changes : t.changes ≡ s.changes
  pub sessions : t.sessions ≡ s.sessions
  pub last_session : t.last_session ≡ s.last_session
  pub top : s.top ≤ t.top
  pub back : (f : Entry) → Memᴰ f t.entries → ((x : Entry) × Memᴰ x s.entries × Later (s.changes + 1) x f) ⊎ (f.made ≡ s.changes + 1)
  pub proper : Proper (s.changes + 1) s.entries s.sessions → Proper (s.changes + 1) t.entries t.sessions

-- a test that did not refuse
pub not_refused : (k : ℕ) (b : Bool) (o : Step) (ps : List Path) (t : State) → unless k b o ≡ Good ps t → (b ≡ false) × (o ≡ Good ps t)
unfolding unless
not_refused k false o ps t e = (refl, e)
not_refused k true o ps t e = absurd (let z : ◌≡◌ {A = ℕ} 0 1 = cc in omega arith)

good_parts : (ps qs : List Path) (s t : State) → Good ps s ≡ Good qs t → (ps ≡ qs) × (s ≡ t)
good_parts ps qs s t e = (cc, cc)

-- ENTRIES THAT ALL GO ON: each that was there is there later on, and each that is there is a later one or new and in order
module _ (n : ℕ) (es fs : List Entry) (ss : List ℕ) where
  pub proper-onward :
      Proper n es ss → paths_once fs ≡ true → ((u : Entry) → Memᴰ u es → (w : Entry) × Memᴰ w fs × Later n u w) →
      ((f : Entry) → Memᴰ f fs → ((x : Entry) × Memᴰ x es × Later n x f) ⊎ ((path_ok f.path ≡ true) × ((none (above f.path) ≡ true) ⊎ ((u : Entry) × Memᴰ u es × (above f.path ≡ u.path) × (u.owner ≡ 0))) × ((f.owner ≡ 0) ⊎ (some (eqb f.owner) ss ≡ true)) × (f.made ≤ f.changed) × (f.changed ≤ n))) →
      Proper n fs ss
  proper-onward p once forth back = record {
    once = once;
    named = λ f m. ⊎_elim (λ x. ap path_ok (sym x.2.path) ∙ p.named x.0 x.1) (λ w. w.0) (back f m);
    under = λ f m. ⊎_elim
        (λ x. ⊎_elim (λ z. inl (ap (λ (q : Path). none (above q)) (sym x.2.path) ∙ z)) (λ u. inr (onto f.path u.0 u.1 (ap above (sym x.2.path) ∙ u.2) u.3)) (p.under x.0 x.1))
        (λ w. ⊎_elim inl (λ u. inr (onto f.path u.0 u.1 u.2 u.3)) w.1) (back f m);
    owned = λ f m. ⊎_elim
        (λ x. ⊎_elim (λ z. inl (sym x.2.owner ∙ z)) (λ z. inr (ap (λ (o : ℕ). some (eqb o) ss) (sym x.2.owner) ∙ z)) (p.owned x.0 x.1))
        (λ w. w.2) (back f m);
    dated = λ f m. ⊎_elim
        (λ x. let d = p.dated x.0 x.1 in let c = x.2.changed d.1 in let e = x.2.made in (omega arith, c.1))
        (λ w. (w.3, w.4)) (back f m);
    positive = p.positive;
  }
    where
      onto : (q : Path) (u : Entry) → Memᴰ u es → above q ≡ u.path → u.owner ≡ 0 → (w : Entry) × Memᴰ w fs × (above q ≡ w.path) × (w.owner ≡ 0)
      onto q u m a o = let r = forth u m in (r.0, r.1, a ∙ r.2.path, sym r.2.owner ∙ o)

-- ENTRIES OF WHICH SOME ARE LEFT OUT: what stands under none of those is a tree still
module _ (n : ℕ) (es : List Entry) (ss ts : List ℕ) (f : Entry → Bool) where
  pub proper-kept :
      Proper n es ss → ((e u : Entry) → Memᴰ e es → Memᴰ u es → f e ≡ true → above e.path ≡ u.path → none (above e.path) ≡ false → u.owner ≡ 0 → f u ≡ true) →
      ((e : Entry) → Memᴰ e es → f e ≡ true → (e.owner ≡ 0) ⊎ (some (eqb e.owner) ts ≡ true)) → every (λ (x : ℕ). ltb 0 x) ts ≡ true → Proper n (keep f es) ts
  proper-kept p stays owned positive = record {
    once = once_kept f es p.once;
    named = λ e m. p.named e (kept_member f es e m).0;
    under = λ e m. under_kept e (kept_member f es e m) (cases_Bool (none (above e.path)));
    owned = λ e m. let k = kept_member f es e m in owned e k.0 k.1;
    dated = λ e m. p.dated e (kept_member f es e m).0;
    positive = positive;
  }
    where
      under_kept : (e : Entry) → Memᴰ e es × (f e ≡ true) → (none (above e.path) ≡ true) ⊎ (none (above e.path) ≡ false) → (none (above e.path) ≡ true) ⊎ ((u : Entry) × Memᴰ u (keep f es) × (above e.path ≡ u.path) × (u.owner ≡ 0))
      under_kept e k (inl z) = inl z
      under_kept e k (inr z) = ⊎_elim inl (λ u. inr (u.0, member_kept f es u.0 u.1 (stays e u.0 k.0 u.1 k.1 u.2 z u.3), u.2, u.3)) (p.under e k.0)

-- PUT: one goes on with another value
put_did : (p : Path) (v : List ℕ) (s : State) → Did s (with_entries (change (at p) (put_in v (s.changes + 1)) s.entries) s)
put_did p v s = record {
  changes = refl;
  sessions = refl;
  last_session = refl;
  top = omega arith;
  back = back;
  proper = λ q. proper-onward n es fs s.sessions q (once_changed (at p) g (λ e. refl) es ∙ q.once)
      (λ u m. ⊎_elim (λ r. (u, r, later_same n u)) (λ r. (g u, r, putting_later n v u)) (member_changed (at p) g es u m)) (λ f m. inl (from f m));
}
  where
    n : ℕ
    n = s.changes + 1

    es : List Entry
    es = s.entries

    g : Entry → Entry
    g = put_in v n

    fs : List Entry
    fs = change (at p) g es

    from : (f : Entry) → Memᴰ f fs → (x : Entry) × Memᴰ x es × Later n x f
    from f m = ⊎_elim (λ r. (f, r, later_same n f)) (λ r. (r.0, r.1, subst (Later n r.0) (sym r.3) (putting_later n v r.0))) (changed_member (at p) g es f m)

    back : (f : Entry) → Memᴰ f fs → ((x : Entry) × Memᴰ x es × Later n x f) ⊎ (f.made ≡ n)
    back f m = inl (from f m)

check_did : (s : State) → Did s s
check_did s = record { changes = refl; sessions = refl; last_session = refl; top = omega arith; back = λ f m. inl (f, m, later_same (s.changes + 1) f); proper = λ q. q }

some_path : (q : Path) → none (above q) ≡ false → not (none q) ≡ true
unfolding none above
some_path [] h = absurd (false≢true (sym h))
some_path (m ∷ q) h = refl

-- DROP: one under which nothing stands is left out
drop_did : (p : Path) (s : State) → has_kids p s ≡ false → Did s (with_entries (keep (λ (e : Entry). not (at p e)) s.entries) s)
drop_did p s free = record {
  changes = refl;
  sessions = refl;
  last_session = refl;
  top = omega arith;
  back = λ f m. inl (f, (kept_member others s.entries f m).0, later_same (s.changes + 1) f);
  proper = λ q. proper-kept (s.changes + 1) s.entries s.sessions s.sessions others q stays (λ e m h. q.owned e m) q.positive;
}
  where
    others : Entry → Bool
    others e = not (at p e)

    stays : (e u : Entry) → Memᴰ e s.entries → Memᴰ u s.entries → others e ≡ true → above e.path ≡ u.path → none (above e.path) ≡ false → u.owner ≡ 0 → others u ≡ true
    stays e u m k h a z o =
        ⊎_elim (λ t. absurd (false≢true (sym (none_pass (is_kid p) s.entries e free m) ∙ and_from (not (none e.path)) (same_path p (above e.path)) (some_path e.path z) ((same_path_decides p (above e.path)).1 ((same_path_decides p u.path).0 t ∙ sym a))))) (λ t. not_from_false (at p u) t) (cases_Bool (at p u))

-- MAKE: the one above goes on with one more made under it, and the new one stands behind all
abbrev pub new_entry : Path → List ℕ → ℕ → State → Entry
new_entry q v o s = record { path = q; value = v; version = 0; made = s.changes + 1; changed = s.changes + 1; kids = 0; owner = o }

abbrev pub with_new : Path → List ℕ → ℕ → State → State
with_new q v o s = with_entries ((counted (above q) s).entries ++ (new_entry q v o s ∷ [])) (counted (above q) s)

-- what is above is there, and goes with no session
above_in : (up : Path) (s : State) → (none up ≡ true) ⊎ (there up s ≡ true) → owner_of (find (at up) s.entries) ≡ 0 → (none up ≡ true) ⊎ ((u : Entry) × Memᴰ u s.entries × (up ≡ u.path) × (u.owner ≡ 0))
unfolding owner_of
above_in up s (inl z) un = inl z
above_in up s (inr z) un =
    let r = find_member (at up) s.entries z in
    inr (r.0, r.3, (same_path_decides up r.0.path).0 r.2, sym (ap owner_of r.1) ∙ un)

top_rises : (b : Bool) (n : ℕ) → n ≤ cond b (n + 1) n
top_rises true n = omega arith
top_rises false n = omega arith

module _ (q : Path) (v : List ℕ) (o : ℕ) (s : State) where
  make_did : path_ok q ≡ true → there q s ≡ false → (none (above q) ≡ true) ⊎ (there (above q) s ≡ true) → owner_of (find (at (above q)) s.entries) ≡ 0 → (o ≡ 0) ⊎ (some (eqb o) s.sessions ≡ true) → Did s (with_new q v o s)
  make_did ok absent there-above unowned open' = record {
    changes = refl;
    sessions = refl;
    last_session = refl;
    top = top_rises (none (above q)) s.top;
    back = λ f m. ⊎_elim (λ r. inl (from f r)) (λ r. inr (ap (λ (x : Entry). x.made) (Memᴰ.eq_of_singleton r))) (Memᴰ.append_cases gs m);
    proper = λ p. proper-onward n es (gs ++ new ∷ []) s.sessions p
        (once_push gs new (once_changed (at up) counting (λ e. refl) es ∙ p.once) (some_changed (at up) (at q) counting (λ x. refl) es ∙ absent))
        (λ u m. ⊎_elim (λ r. (u, Memᴰ.append_left (new ∷ []) r, later_same n u)) (λ r. (counting u, Memᴰ.append_left (new ∷ []) r, counting_later n u)) (member_changed (at up) counting es u m))
        (λ f m. ⊎_elim (λ r. inl (from f r)) (λ r. inr (fresh f (Memᴰ.eq_of_singleton r))) (Memᴰ.append_cases gs m));
  }
    where
      n : ℕ
      n = s.changes + 1

      up : Path
      up = above q

      es : List Entry
      es = s.entries

      gs : List Entry
      gs = change (at up) counting es

      new : Entry
      new = new_entry q v o s

      from : (f : Entry) → Memᴰ f gs → (x : Entry) × Memᴰ x es × Later n x f
      from f m = ⊎_elim (λ r. (f, r, later_same n f)) (λ r. (r.0, r.1, subst (Later n r.0) (sym r.3) (counting_later n r.0))) (changed_member (at up) counting es f m)

      fresh : (f : Entry) → f ≡ new → (path_ok f.path ≡ true) × ((none (above f.path) ≡ true) ⊎ ((u : Entry) × Memᴰ u es × (above f.path ≡ u.path) × (u.owner ≡ 0))) × ((f.owner ≡ 0) ⊎ (some (eqb f.owner) s.sessions ≡ true)) × (f.made ≤ f.changed) × (f.changed ≤ n)
      fresh f e = subst (λ (g : Entry). (path_ok g.path ≡ true) × ((none (above g.path) ≡ true) ⊎ ((u : Entry) × Memᴰ u es × (above g.path ≡ u.path) × (u.owner ≡ 0))) × ((g.owner ≡ 0) ⊎ (some (eqb g.owner) s.sessions ≡ true)) × (g.made ≤ g.changed) × (g.changed ≤ n)) (sym e)
          (ok, above_in up s there-above unowned, open', omega arith, omega arith)

-- what is known of a making that was not refused
pub record Made (p : Path) (v : List ℕ) (numbered : Bool) (o : ℕ) (s : State) (ps : List Path) (t : State) : Type 0 where
  pub range : path_ok p ≡ true
  pub short : numbered ≡ true → length (last_name p) ≤ 54
  pub under : (none (above p) ≡ true) ⊎ (there (above p) s ≡ true)
  pub few : numbered ≡ true → count_at (above p) s < 10000000000
  pub absent : there (true_name p numbered s) s ≡ false
  pub open' : (o ≡ 0) ⊎ (some (eqb o) s.sessions ≡ true)
  pub unowned : owner_of (find (at (above p)) s.entries) ≡ 0
  pub paths : ps ≡ true_name p numbered s ∷ []
  pub state : t ≡ with_new (true_name p numbered s) v o s

not_both : (a b : Bool) → not a && not b ≡ false → (a ≡ true) ⊎ (b ≡ true)
not_both true b e = inl refl
not_both false true e = inr refl
not_both false false e = absurd (false≢true (sym e))

pub make_parts : (p : Path) (v : List ℕ) (numbered : Bool) (o : ℕ) (s : State) (ps : List Path) (t : State) → acts (Make p v numbered o) s ≡ Good ps t → Made p v numbered o s ps t
unfolding acts
make_parts p v numbered o s ps t e =
    let q = true_name p numbered s in
    let r1 = not_refused 1 _ _ ps t e in
    let r2 = not_refused 2 _ _ ps t r1.1 in
    let r8 = not_refused 8 _ _ ps t r2.1 in
    let r3 = not_refused 3 _ _ ps t r8.1 in
    let r6 = not_refused 6 _ _ ps t r3.1 in
    let r7 = not_refused 7 _ _ ps t r6.1 in
    let a = or_parts (not (path_ok p) || not (value_ok v)) (numbered && ltb 54 (length (last_name p))) r1.0 in
    let b = or_parts (not (path_ok p)) (not (value_ok v)) a.0 in
    let g = good_parts (q ∷ []) ps (with_new q v o s) t r7.1 in
    record {
      range = not-false (path_ok p) b.0;
      short = λ h. ltb-false 54 (length (last_name p)) (ap (λ (c : Bool). c && ltb 54 (length (last_name p))) (sym h) ∙ a.1);
      under = not_both (none (above p)) (there (above p) s) r2.0;
      few = λ h. leb-false 10000000000 (count_at (above p) s) (ap (λ (c : Bool). c && leb 10000000000 (count_at (above p) s)) (sym h) ∙ r8.0);
      absent = r3.0;
      open' = ⊎_elim (λ z. inl (eqb-true o 0 z)) inr (not_both (eqb o 0) (some (eqb o) s.sessions) r6.0);
      unowned = eqb-true (owner_of (find (at (above p)) s.entries)) 0 (not-false (eqb (owner_of (find (at (above p)) s.entries)) 0) r7.0);
      paths = sym g.0;
      state = sym g.1;
    }

pub true_above : (p : Path) (numbered : Bool) (s : State) → above (true_name p numbered s) ≡ above p
true_above p false s = refl
true_above p true s = above_renamed p (last_name p ++ digits 10 (count_at (above p) s))

pub true_ok : (p : Path) (numbered : Bool) (s : State) → path_ok p ≡ true → (numbered ≡ true → length (last_name p) ≤ 54) → path_ok (true_name p numbered s) ≡ true
true_ok p false s h k = h
true_ok p true s h k = numbered_ok p (count_at (above p) s) h (k refl)

pub made_did : (p : Path) (v : List ℕ) (numbered : Bool) (o : ℕ) (s : State) (ps : List Path) (t : State) → Made p v numbered o s ps t → Did s t
made_did p v numbered o s ps t m =
    let q = true_name p numbered s in
    let up = true_above p numbered s in
    subst (Did s) (sym m.state)
    (make_did q v o s (true_ok p numbered s m.range m.short) m.absent (subst (λ (u : Path). (none u ≡ true) ⊎ (there u s ≡ true)) (sym up) m.under)
    (ap (λ (u : Path). owner_of (find (at u) s.entries)) up ∙ m.unowned) m.open')

-- every act that is not refused
pub act_did : (a : Act) (s : State) (ps : List Path) (t : State) → acts a s ≡ Good ps t → Did s t
unfolding acts
act_did (Make p v numbered o) s ps t e = made_did p v numbered o s ps t (make_parts p v numbered o s ps t e)
act_did (Put p v x) s ps t e =
    let r1 = not_refused 1 _ _ ps t e in
    let r2 = not_refused 2 _ _ ps t r1.1 in
    let r4 = not_refused 4 _ _ ps t r2.1 in
    subst (Did s) (good_parts [] ps (with_entries (change (at p) (put_in v (s.changes + 1)) s.entries) s) t r4.1).1 (put_did p v s)
act_did (Drop p x) s ps t e =
    let r1 = not_refused 1 _ _ ps t e in
    let r2 = not_refused 2 _ _ ps t r1.1 in
    let r4 = not_refused 4 _ _ ps t r2.1 in
    let r5 = not_refused 5 _ _ ps t r4.1 in
    subst (Did s) (good_parts [] ps (with_entries (keep (λ (f : Entry). not (at p f)) s.entries) s) t r5.1).1 (drop_did p s r5.0)
act_did (Check p x) s ps t e =
    let r1 = not_refused 1 _ _ ps t e in
    let r2 = not_refused 2 _ _ ps t r1.1 in
    let r4 = not_refused 4 _ _ ps t r2.1 in
    subst (Did s) (good_parts [] ps s t r4.1).1 (check_did s)
