-- What a making does, by what was found. Assumes nothing.
use Rattle.std.proofs.Common.{◌≡◌, ℕ, ◌+◌, ◌<◌, Bool, true, false, not, ◌&&◌, ◌||◌, eqb, ltb, leb, List, [], ◌∷◌, ◌++◌, map, length, get_or, take, drop, sym, refl, ap, ◌∙◌, ⊎_elim, arith, length-append, length-drop}
use Rattle.std.proofs.lemmas.List.{length-take-le}
use Rattle.std.specs.List.{AllByRecursion}
use Rattle.std.proofs.lemmas.Bool.{and_left, or_from, or_parts, lt-leb, not_from_false, not_from_true, cond-true, cond-false, cases_Bool}
use Rattle.model.specs.Tree as Tree
use Rattle.model.specs.Tree.{Path, Entry, State, Step, Bad, Make, acts, makes, unless, at, change, find, some, every, none, same_path, path_ok, value_ok, owner_of, weight, weight_of}
use Rattle.lent_bytes.specs.Paths.{path_of}
use Rattle.cells.specs.declared.cell.Head.{Head}
use Rattle.cells.specs.Layout.{head_of, entry_from, entry_of, entries_of, Formed, Holds, path_part, cut}
use Rattle.cells.specs.Searches.{First}
use Rattle.cells.specs.Drafts.{replaced}
use Rattle.cells.proofs.Firsts.{find_first, find_not, change_first}
use Rattle.making.specs.Making.{kid_made, with_made, orphan, hindered}
use Rattle.tree.specs.Steps.{at_count}
use Rattle.tree.proofs.Weighs.{weight_push}

change_not : {A : Type 0} (f : A → Bool) (g : A → A) (xs : List A) → some f xs ≡ false → change f g xs ≡ xs
unfolding change some
change_not f g [] h = refl
change_not f g (x ∷ xs) h =
    let both = or_parts (f x) (some f xs) h in
    cond-false (f x) (g x ∷ xs) (x ∷ change f g xs) both.0 ∙ ap (λ (l : List _). x ∷ l) (change_not f g xs both.1)

-- no entry is at the top itself
names_not_none : (p : Path) → path_ok p ≡ true → same_path [] p ≡ false
unfolding none same_path
names_not_none [] h = absurd (let z : ◌≡◌ {A = ℕ} 0 1 = cc in omega arith)
names_not_none (n ∷ ns) h = refl

not_at_top : (cs : List (List ℕ)) → AllByRecursion Formed cs → some (at []) (map entry_of cs) ≡ false
unfolding some entry_of
not_at_top [] h = refl
not_at_top (c ∷ cs) h = or_from (same_path [] (path_of (path_part c))) (some (at []) (map entry_of cs)) (names_not_none (path_of (path_part c)) h.0.names) (not_at_top cs h.1)

pub none_at_top : (mem ps : List ℕ) → Holds mem ps → some (at []) (entries_of mem ps) ≡ false
none_at_top mem ps h = not_at_top (cut mem ps) h.good

module _ (p : Path) (s : State) where
  pub orphan_top : Tree.above p ≡ [] → orphan p s ≡ false
  unfolding none
  orphan_top e = rw e refl

  pub orphan_found : some (at (Tree.above p)) s.entries ≡ true → orphan p s ≡ false
  orphan_found e = both_false (not (none (Tree.above p))) (not (some (at (Tree.above p)) s.entries)) (not_from_true (some (at (Tree.above p)) s.entries) e)
    where
      both_false : (a b : Bool) → b ≡ false → (a && b) ≡ false
      both_false true b e = e
      both_false false b e = refl

  pub orphan_missing : none (Tree.above p) ≡ false → some (at (Tree.above p)) s.entries ≡ false → orphan p s ≡ true
  orphan_missing e f = rw e (rw f refl)

  -- what is in the way
  module _ (o : ℕ) (x : Step) where
    pub already : some (at p) s.entries ≡ true → hindered p o s x ≡ Bad 3
    unfolding unless
    already h = rw h refl

    module _ (h : some (at p) s.entries ≡ false) where
      pub no_session : (not (eqb o 0) && not (some (eqb o) s.sessions)) ≡ true → hindered p o s x ≡ Bad 6
      unfolding unless
      no_session k = rw h (rw k refl)

      module _ (k : (not (eqb o 0) && not (some (eqb o) s.sessions)) ≡ false) where
        pub under_session : not (eqb (owner_of (find (at (Tree.above p)) s.entries)) 0) ≡ true → hindered p o s x ≡ Bad 7
        unfolding unless
        under_session q = rw h (rw k (rw q refl))

        pub free : not (eqb (owner_of (find (at (Tree.above p)) s.entries)) 0) ≡ false → hindered p o s x ≡ x
        unfolding unless
        free q = rw h (rw k (rw q refl))

  -- whose what is above is
  pub owner_none : some (at (Tree.above p)) s.entries ≡ false → owner_of (find (at (Tree.above p)) s.entries) ≡ 0
  unfolding owner_of
  owner_none h = ap owner_of (find_not (at (Tree.above p)) s.entries h)

  pub owner_found : (i : ℕ) (e : Entry) → First (at (Tree.above p)) s.entries i → get_or s.entries i e ≡ e → owner_of (find (at (Tree.above p)) s.entries) ≡ e.owner
  unfolding owner_of
  owner_found i e first is = ap owner_of (find_first (at (Tree.above p)) s.entries i e first ∙ ap (λ (y : Entry). y ∷ []) is)

  -- the state with what was made
  module _ (c : ℕ) (e : Entry) where
    pub made_top : none (Tree.above p) ≡ true → some (at (Tree.above p)) s.entries ≡ false →
        ◌≡◌ {A = State} (record { changes = c; top = s.top + 1; entries = s.entries ++ (e ∷ []); sessions = s.sessions; last_session = s.last_session }) (at_count c (with_made p e s))
    made_top n h =
        let top = sym (cond-true (none (Tree.above p)) (s.top + 1) s.top n) in
        let same = sym (change_not (at (Tree.above p)) kid_made s.entries h) in
        λ i. record { changes = c; top = top i; entries = same i ++ (e ∷ []); sessions = s.sessions; last_session = s.last_session }

    pub made_under : (i : ℕ) (d : Entry) → none (Tree.above p) ≡ false → First (at (Tree.above p)) s.entries i →
        ◌≡◌ {A = State} (record { changes = c; top = s.top; entries = replaced i (kid_made (get_or s.entries i d)) s.entries ++ (e ∷ []); sessions = s.sessions; last_session = s.last_session }) (at_count c (with_made p e s))
    made_under i d n first =
        let top = sym (cond-false (none (Tree.above p)) (s.top + 1) s.top n) in
        let same = sym (change_first (at (Tree.above p)) kid_made s.entries i d first) in
        λ j. record { changes = c; top = top j; entries = same j ++ (e ∷ []); sessions = s.sessions; last_session = s.last_session }

-- the whole act, by its parts
middle_true : (a b c : Bool) → b ≡ true → (a || b || c) ≡ true
middle_true true b c e = refl
middle_true false b c e = rw e refl

module _ (p : Path) (v : List ℕ) (o : ℕ) (s : State) where
  pub make_long : 65536 < length v → acts (Make p v false o) s ≡ Bad 1
  unfolding acts unless
  make_long h =
      let bad = not_from_false (value_ok v) (and_left (leb (length v) 65536) (every (λ (b : ℕ). ltb b 256) v) (lt-leb (length v) 65536 h)) in
      rw (middle_true (not (path_ok p)) (not (value_ok v)) (false && ltb 54 (length (Tree.last_name p))) bad) refl

  pub make_names : path_ok p ≡ false → acts (Make p v false o) s ≡ Bad 1
  unfolding acts unless
  make_names h = rw h refl

  module _ (po : path_ok p ≡ true) (vo : value_ok v ≡ true) where
    pub make_orphan : orphan p s ≡ true → acts (Make p v false o) s ≡ Bad 2
    unfolding acts unless
    make_orphan h = rw po (rw vo (rw h refl))

    pub make_is : orphan p s ≡ false → acts (Make p v false o) s ≡ hindered p o s (makes p v o s)
    unfolding acts unless
    make_is h = rw po (rw vo (rw h refl))

-- a head with one more counted under it, and the cell's own path and value
pub kid_entry : (c p v : List ℕ) (old : Head) → old ≡ head_of c → p ≡ path_part c → v ≡ (entry_of c).value →
    entry_from (record { value_len = old.value_len; path_len = old.path_len; version = old.version; made = old.made; changed = old.changed; kids = record { 0 = old.kids.0 + 1 }; owner = old.owner }) p v ≡ kid_made (entry_of c)
unfolding entry_of
kid_entry c p v old e f g = rw e (rw f (rw g refl))

pub length_replaced : (i : ℕ) (e : Entry) (es : List Entry) → i < length es → length (replaced i e es) ≡ length es
length_replaced i e es l = omega (arith, length-append (take i es) (e ∷ drop (i + 1) es), length-take-le i es (omega arith), length-drop (i + 1) es)

-- counting a kid changes no weight
pub change_weighs : (f : Entry → Bool) (es : List Entry) → weight_of (change f kid_made es) ≡ weight_of es
unfolding change weight_of
change_weighs f [] = refl
change_weighs f (e ∷ es) =
    ⊎_elim
    (λ t. ap weight_of (cond-true (f e) (kid_made e ∷ es) (e ∷ change f kid_made es) t))
    (λ t. ap weight_of (cond-false (f e) (kid_made e ∷ es) (e ∷ change f kid_made es) t) ∙ ap (λ (n : ℕ). 1280 + length e.value + n) (change_weighs f es))
    (cases_Bool (f e))

pub made_weighs : (p : Path) (e : Entry) (s : State) → weight (with_made p e s) ≡ weight s + (1280 + length e.value)
made_weighs p e s = omega (arith, weight_push (change (at (Tree.above p)) kid_made s.entries) e, change_weighs (at (Tree.above p)) s.entries)
