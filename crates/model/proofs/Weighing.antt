-- The entries never weigh more than the room; and a making adds its name behind those that were there. Assumes nothing.
use Rattle.std.proofs.Common.{◌≡◌, ℕ, suc, ◌+◌, ◌≤◌, Bool, true, cond, not, ◌&&◌, ◌||◌, eqb, ltb, leb, List, [], ◌∷◌, ◌++◌, map, length, sym, refl, ap, ◌∙◌, ⊎_elim, arith}
use Rattle.std.proofs.lemmas.Bool.{cond_both, cond-true, cond-false, and_cases, ltb-false, and_from}
use Rattle.std.proofs.lemmas.List.{map_push}
use Rattle.model.specs.Tree.{Name, Path, Entry, State, keep, change, none, above, last_name, same_path, at, is_kid, kid_names, true_name, weight_of, weight, Step, Bad, Good, acts, Act, Do, Look, Kids, Open, End, Out, does, Going, Failed, Fine, stepped, goes, all_of, closed, values_in, some}
use Rattle.model.specs.Laws.{RoomKept, KidsInOrder}
use Rattle.model.proofs.Same.{same_path_decides, path_some}
use Rattle.model.proofs.Deeds.{act_did, make_parts, counting, new_entry, true_above, true_ok}

abbrev Light : ℕ → Going → Type 0
Light room (Failed n k) = Unit {0}
Light room (Fine n ps t) = weight_of t.entries ≤ room

keep_light : (f : Entry → Bool) (es : List Entry) → weight_of (keep f es) ≤ weight_of es
unfolding keep weight_of
keep_light f [] = omega arith
keep_light f (e ∷ es) = cond_both (f e) (e ∷ keep f es) (keep f es) (λ l. weight_of l ≤ 1280 + length e.value + weight_of es) (λ b. omega (arith, keep_light f es)) (λ b. omega (arith, keep_light f es))

module _ (room : ℕ) where
  step_light : (a : Act) (g : Going) → Light room g → Light room (goes room a g)
  unfolding goes stepped
  step_light a (Failed n k) h = tt
  step_light a (Fine n ps t) h = go (acts a t) refl
    where
      go : (o : Step) → acts a t ≡ o → Light room (stepped room n ps t o)
      go (Bad k) e = tt
      go (Good qs u) e =
          let d = act_did a t qs u e in
          let l = ap length d.sessions in
          cond_both (ltb room (weight u) && ltb (weight t) (weight u)) (Failed n 9) (Fine (suc n) (ps ++ qs) u) (Light room) (λ b. tt)
          (λ b. ⊎_elim (λ z. omega (arith, ltb-false room (weight u) z)) (λ z. omega (arith, ltb-false (weight t) (weight u) z, l)) (and_cases (ltb room (weight u)) (ltb (weight t) (weight u)) b))

  all_light : (as' : List Act) (g : Going) → Light room g → Light room (all_of room as' g)
  unfolding all_of
  all_light [] g h = h
  all_light (a ∷ as') g h = all_light as' (goes room a g) (step_light a g h)

  closed_light : (s : State) (g : Going) → weight_of s.entries ≤ room → Light room g → weight_of (closed s g).state.entries ≤ room
  unfolding closed
  closed_light s (Failed n k) h l = h
  closed_light s (Fine n ps t) h l = l

pub room_kept : RoomKept
unfolding does
room_kept room (Do as') s h =
    cond_both (ltb 64 (length as') || ltb 262144 (values_in as')) _ (closed s (all_of room as' (Fine 0 [] s))) (λ (o : Out). weight_of o.state.entries ≤ room) (λ e. h) (λ e. closed_light room s (all_of room as' (Fine 0 [] s)) h (all_light room as' (Fine 0 [] s) h))
room_kept room (Look p) s h = h
room_kept room (Kids p) s h = h
room_kept room Open s h = cond_both (leb 4096 (length s.sessions)) _ _ (λ (o : Out). weight_of o.state.entries ≤ room) (λ e. h) (λ e. h)
room_kept room (End k) s h = cond_both (some (eqb k) s.sessions) _ _ (λ (o : Out). weight_of o.state.entries ≤ room) (λ e. omega (arith, keep_light (λ (f : Entry). not (eqb k f.owner)) s.entries)) (λ e. h)

-- NAMES IN ORDER
abbrev names : List Entry → List Name
names es = map (λ (e : Entry). last_name e.path) es

names_first : (k : Entry → Bool) (e : Entry) (es : List Entry) → names (keep k (e ∷ es)) ≡ cond (k e) (last_name e.path ∷ names (keep k es)) (names (keep k es))
unfolding keep
names_first k e es =
    cond_both (k e) (e ∷ keep k es) (keep k es) (λ l. names l ≡ cond (k e) (last_name e.path ∷ names (keep k es)) (names (keep k es))) (λ b. sym (cond-true (k e) (last_name e.path ∷ names (keep k es)) (names (keep k es)) b))
    (λ b. sym (cond-false (k e) (last_name e.path ∷ names (keep k es)) (names (keep k es)) b))

-- counting one more under an entry changes no name
names_changed : (f : Entry → Bool) (up : Path) (es : List Entry) → names (keep (is_kid up) (change f counting es)) ≡ names (keep (is_kid up) es)
unfolding change
names_changed f up [] = refl
names_changed f up (e ∷ es) =
    cond_both (f e) (counting e ∷ es) (e ∷ change f counting es) (λ l. names (keep (is_kid up) l) ≡ names (keep (is_kid up) (e ∷ es))) (λ b. names_first (is_kid up) (counting e) es ∙ sym (names_first (is_kid up) e es))
    (λ b. names_first (is_kid up) e (change f counting es) ∙ ap (λ (l : List Name). cond (is_kid up e) (last_name e.path ∷ l) l) (names_changed f up es) ∙ sym (names_first (is_kid up) e es))

kept_push : (f : Entry → Bool) (es : List Entry) (e : Entry) → f e ≡ true → keep f (es ++ e ∷ []) ≡ keep f es ++ e ∷ []
unfolding keep
kept_push f [] e h = cond-true (f e) (e ∷ []) [] h
kept_push f (x ∷ es) e h =
    cond_both (f x) (x ∷ keep f es) (keep f es) (λ l. keep f (x ∷ (es ++ e ∷ [])) ≡ l ++ e ∷ []) (λ b. cond-true (f x) (x ∷ keep f (es ++ e ∷ [])) (keep f (es ++ e ∷ [])) b ∙ ap (λ (l : List Entry). x ∷ l) (kept_push f es e h))
    (λ b. cond-false (f x) (x ∷ keep f (es ++ e ∷ [])) (keep f (es ++ e ∷ [])) b ∙ kept_push f es e h)

pub kids_in_order : KidsInOrder
kids_in_order p v numbered o s t ps e =
    let m = make_parts p v numbered o s ps t e in
    let q = true_name p numbered s in
    let new = new_entry q v o s in
    let gs = change (at (above q)) counting s.entries in
    let kid : is_kid (above p) new ≡ true = and_from (not (none q)) (same_path (above p) (above q)) (path_some q (true_ok p numbered s m.range m.short)) ((same_path_decides (above p) (above q)).1 (sym (true_above p numbered s))) in
    ap (kid_names (above p)) m.state ∙ ap names (kept_push (is_kid (above p)) gs new kid) ∙ map_push (λ (x : Entry). last_name x.path) (keep (is_kid (above p)) gs) new ∙
    ap (λ (l : List Name). l ++ (last_name q ∷ [])) (names_changed (at (above q)) (above p) s.entries)
