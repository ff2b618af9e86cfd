-- Of several that make one path while nobody drops it, one at most is told that it was made. Assumes nothing.
use Rattle.std.proofs.Common.{◌≡◌, ℕ, ◌+◌, Bool, true, false, cond, not, ◌&&◌, ◌||◌, ltb, List, [], ◌∷◌, ◌++◌, sym, refl, ap, ◌∙◌, subst, ⊎_elim, arith}
use mathlib.Core.List.Memᴰ
use mathlib.Core.List.{Memᴰ}
use Rattle.std.proofs.lemmas.Bool.{cond_both, cases_Bool, false≢true, not_from_false}
use Rattle.model.specs.Tree.{Path, Entry, State, Expect, some, keep, change, at, there, same_path, above, true_name, put_in, Step, Bad, Good, acts, weight, Failed, Fine, stepped, goes, all_of, closed, Out, Act, Make, Put, Drop, Check, Call, Do, Look, Kids, Open, End, Reply, No, Done, does, core, one, values_in}
use Rattle.model.proofs.Members.{some_member, some_from, member_kept, some_changed}
use Rattle.model.proofs.Same.{same_path_decides}
use Rattle.model.proofs.Deeds.{not_refused, make_parts, new_entry, counting}
use Rattle.model.proofs.Histories.{making}
use Rattle.runs.specs.Order.{Deed, Line, none, more}
use Rattle.promise.specs.Promise.{tree}

some_left : {A : Type 0} (f : A → Bool) (xs ys : List A) → some f xs ≡ true → some f (xs ++ ys) ≡ true
some_left f xs ys h = let r = some_member f xs h in some_from f (xs ++ ys) r.0 (Memᴰ.append_left ys r.1) r.2

state_of : (ps qs : List Path) (s t : State) → Good ps s ≡ Good qs t → s ≡ t
state_of ps qs s t e = cc

module _ (p : Path) where
  -- an entry stays there under every act but its drop
  act_stays : (a : Act) (s : State) (qs : List Path) (t : State) → ((q : Path) → (same_path q p ≡ true) → (x : Expect) → a ≡ Drop q x → ⊥) → acts a s ≡ Good qs t → there p s ≡ true → there p t ≡ true
  unfolding acts
  act_stays (Make q v n o) s qs t nd e h =
      let m = make_parts q v n o s qs t e in
      subst (λ (u : State). there p u ≡ true) (sym m.state)
      (some_left (at p) (change (at (above (true_name q n s))) counting s.entries) (new_entry (true_name q n s) v o s ∷ []) (some_changed (at (above (true_name q n s))) (at p) counting (λ x. refl) s.entries ∙ h))
  act_stays (Put q v x) s qs t nd e h =
      let r = not_refused 4 _ _ qs t (not_refused 2 _ _ qs t (not_refused 1 _ _ qs t e).1).1 in
      subst (λ (u : State). there p u ≡ true) (state_of [] qs _ t r.1) (some_changed (at q) (at p) (put_in v (s.changes + 1)) (λ y. refl) s.entries ∙ h)
  act_stays (Drop q x) s qs t nd e h =
      let r = not_refused 5 _ _ qs t (not_refused 4 _ _ qs t (not_refused 2 _ _ qs t (not_refused 1 _ _ qs t e).1).1).1 in
      let w = some_member (at p) s.entries h in
      let other : at q w.0 ≡ false =
      ⊎_elim (λ b. absurd (nd q ((same_path_decides q p).1 ((same_path_decides q w.0.path).0 b ∙ sym ((same_path_decides p w.0.path).0 w.2))) x refl)) (λ b. b) (cases_Bool (at q w.0)) in
      subst (λ (u : State). there p u ≡ true) (state_of [] qs _ t r.1) (some_from (at p) (keep (λ (f : Entry). not (at q f)) s.entries) w.0 (member_kept (λ (f : Entry). not (at q f)) s.entries w.0 w.1 (not_from_false (at q w.0) other)) w.2)
  act_stays (Check q x) s qs t nd e h =
      let r = not_refused 4 _ _ qs t (not_refused 2 _ _ qs t (not_refused 1 _ _ qs t e).1).1 in
      subst (λ (u : State). there p u ≡ true) (state_of [] qs s t r.1) h

  -- no act of a call is a drop of the path
  abbrev pub NoDrop : Call → Type 0
  NoDrop c = (q : Path) → same_path q p ≡ true → (x : Expect) → c ≡ Do (Drop q x ∷ []) → ⊥

  one_stays : (room : ℕ) (a : Act) (s : State) → ((q : Path) → same_path q p ≡ true → (x : Expect) → a ≡ Drop q x → ⊥) → there p s ≡ true → there p (does room (Do (a ∷ [])) s).state ≡ true
  unfolding does all_of goes stepped closed
  one_stays room a s nd h =
      cond_both (ltb 64 1 || ltb 262144 (values_in (a ∷ []))) _ (closed s (stepped room 0 [] s (acts a s))) (λ (o : Out). there p o.state ≡ true) (λ e. h) (λ e. go (acts a s) refl)
    where
      go : (o : Step) → acts a s ≡ o → there p (closed s (stepped room 0 [] s o)).state ≡ true
      go (Bad k) e = h
      go (Good qs t) e = cond_both (ltb room (weight t) && ltb (weight s) (weight t)) (Failed 0 9) (Fine 1 qs t) (λ g. there p (closed s g).state ≡ true) (λ b. h) (λ b. act_stays a s qs t nd e h)

  core_stays : (room : ℕ) (c : Call) (s : State) → core c ≡ true → NoDrop c → there p s ≡ true → there p (does room c s).state ≡ true
  unfolding core one does
  core_stays room (Do []) s k nd h = absurd (false≢true k)
  core_stays room (Do (a ∷ [])) s k nd h = one_stays room a s (λ q e x z. nd q e x (ap (λ (b : Act). Do (b ∷ [])) z)) h
  core_stays room (Do (a ∷ b ∷ as')) s k nd h = absurd (false≢true k)
  core_stays room (Look q) s k nd h = h
  core_stays room (Kids q) s k nd h = h
  core_stays room Open s k nd h = absurd (false≢true k)
  core_stays room (End e) s k nd h = absurd (false≢true k)

  clerk_stays : (room : ℕ) (c : Call) (s : State) → NoDrop c → there p s ≡ true → there p ((tree room core).next c s) ≡ true
  clerk_stays room c s nd h = cond_both (core c) (does room c s).state s (λ (u : State). there p u ≡ true) (λ b. core_stays room c s b nd h) (λ b. h)

  -- a making that was told done: the path was not there, and is there afterwards
  told_made : (room : ℕ) (v : List ℕ) (o : ℕ) (s : State) → (tree room core).reply (Do (Make p v false o ∷ [])) s ≡ Done (p ∷ []) → (there p s ≡ false) × (there p ((tree room core).next (Do (Make p v false o ∷ [])) s) ≡ true)
  told_made room v o s e = go (core c) e
    where
      c : Call
      c = Do (Make p v false o ∷ [])

      go : (b : Bool) → cond b (does room c s).reply (No 0 12) ≡ Done (p ∷ []) → (there p s ≡ false) × (there p (cond b (does room c s).state s) ≡ true)
      go true h =
          let m = making room p v false o s p h in (
            m.made.absent,
            ap (λ (l : List Entry). some (at p) l) (m.counted ∙ ap (λ (t : State). t.entries) m.made.state) ∙
                some_from (at p) (change (at (above p)) counting s.entries ++ new_entry p v o s ∷ []) (new_entry p v o s) (Memᴰ.append_right (change (at (above p)) counting s.entries) (Memᴰ.head refl)) ((same_path_decides p p).1 refl),
          )
      go false h = absurd (let z : ◌≡◌ {A = ℕ} 0 1 = cc in omega arith)

  -- a call that was done and made the path
  pub record MadeIt (d : Deed Call Reply) : Type 0 where
    pub value : List ℕ
    pub owner : ℕ
    pub call : d.call ≡ Do (Make p value false owner ∷ [])
    pub reply : d.reply ≡ Done (p ∷ [])

  module _ (room : ℕ) where
    there_since : (ds : List (Deed Call Reply)) (t : State) → Line (tree room core) ds t → ((d : Deed Call Reply) → Memᴰ d ds → NoDrop d.call) → (d : Deed Call Reply) → Memᴰ d ds → MadeIt d → there p t ≡ true
    there_since _ _ none nd d m w = absurd (Memᴰ.not-nil m)
    there_since _ _ (more {ds = ds} {s = s} i k o l) nd d m w =
        ⊎_elim
        (λ e.
        let is : o ≡ Do (Make p w.value false w.owner ∷ []) = ap (λ (x : Deed Call Reply). x.call) (sym e) ∙ w.call in
        ap (λ (c : Call). there p ((tree room core).next c s)) is ∙ (told_made room w.value w.owner s (ap (λ (c : Call). (tree room core).reply c s) (sym is) ∙ ap (λ (x : Deed Call Reply). x.reply) (sym e) ∙ w.reply)).1)
        (λ r. clerk_stays room o s (nd (record { house = i; number = k; call = o; reply = (tree room core).reply o s }) (Memᴰ.head refl)) (there_since ds s l (λ x q. nd x (Memᴰ.tail q)) d r w))
        (Memᴰ.cases_cons m)

    pub made_once : (ds : List (Deed Call Reply)) (t : State) → Line (tree room core) ds t → ((d : Deed Call Reply) → Memᴰ d ds → NoDrop d.call) → (d e : Deed Call Reply) → Memᴰ d ds → Memᴰ e ds → MadeIt d → MadeIt e → d ≡ e
    made_once _ _ none nd d e m q w u = absurd (Memᴰ.not-nil m)
    made_once _ _ (more {ds = ds} {s = s} i k o l) nd d e m q w u =
        let tails : (x : Deed Call Reply) → Memᴰ x ds → NoDrop x.call = λ x r. nd x (Memᴰ.tail r) in
        ⊎_elim
        (λ a. ⊎_elim (λ b. a ∙ sym b) (λ r. absurd (second d a w e r u)) (Memᴰ.cases_cons q))
        (λ r. ⊎_elim (λ b. absurd (second e b u d r w)) (λ z. made_once ds s l tails d e r z w u) (Memᴰ.cases_cons q))
        (Memᴰ.cases_cons m)
      where
        second : (x : Deed Call Reply) → x ≡ record { house = i; number = k; call = o; reply = (tree room core).reply o s } → MadeIt x → (y : Deed Call Reply) → Memᴰ y ds → MadeIt y → ⊥
        second x a w' y r u' =
            let is : o ≡ Do (Make p w'.value false w'.owner ∷ []) = ap (λ (z : Deed Call Reply). z.call) (sym a) ∙ w'.call in
            let told = told_made room w'.value w'.owner s (ap (λ (c : Call). (tree room core).reply c s) (sym is) ∙ ap (λ (z : Deed Call Reply). z.reply) (sym a) ∙ w'.reply) in
            false≢true (sym told.0 ∙ there_since ds s l (λ z t. nd z (Memᴰ.tail t)) y r u')
