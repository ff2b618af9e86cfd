-- What looking tells, by what was found. Assumes nothing.
use Rattle.std.proofs.Common.{◌≡◌, ℕ, ◌+◌, ◌*◌, ◌<◌, ◌≤◌, Bool, true, false, cond, not, ◌&&◌, ◌||◌, ltb, leb, List, [], ◌∷◌, ◌++◌, map, length, get_or, take, drop, sym, refl, ap, ◌∙◌, append-nil, arith}
use Rattle.std.proofs.lemmas.List.{drop_at, length-take-le, length_push, map_push}
use Rattle.std.proofs.lemmas.Bool.{and_parts, leb-true, cond-true, cond-false}
use Rattle.model.specs.Tree as Tree
use Rattle.model.specs.Tree.{Path, Name, Entry, State, Reply, No, Entry', Names, Look, Kids, Out, does, find, told, some, every, none, at, name_ok, path_ok, keep, last_name, kid_names, is_kid}
use Rattle.lent_bytes.specs.Paths.{path_bytes, path_of, name_bytes, Spells, LastAt}
use Rattle.lent_bytes.specs.Writing.{Added}
use Rattle.lent_bytes.proofs.Above.{above_last}
use Rattle.lent_bytes.proofs.PathBytes.{bytes_append, every_at}
use Rattle.cells.specs.declared.cell.Head.{Head}
use Rattle.cells.specs.Layout.{head_of, entry_of}
use Rattle.cells.specs.Searches.{First}
use Rattle.cells.proofs.Firsts.{find_first, find_not}
use Rattle.cells.proofs.Keeps.{keep_skip, keep_more, keep_all}
use Rattle.tree.specs.declared.looking.Listed.{Listed}
use Rattle.tree.specs.Looking.{listing}

told_first : (f : Entry → Bool) (es : List Entry) (i : ℕ) (c v : List ℕ) (h : Head) → First f es i → ((d : Entry) → get_or es i d ≡ entry_of c) → h ≡ head_of c → v ≡ (entry_of c).value →
    Entry' v h.version.0 h.made.0 h.changed.0 h.kids.0 h.owner.0 ≡ told (find f es)
unfolding told entry_of
told_first f es i c v h first is eh ev =
    rw eh (rw ev (sym (ap told (find_first f es i (entry_of c) first ∙ ap (λ x. x ∷ []) (is (entry_of c))))))

told_none : (f : Entry → Bool) (es : List Entry) → some f es ≡ false → No 0 2 ≡ told (find f es)
unfolding told
told_none f es h = sym (ap told (find_not f es h))

module _ (room : ℕ) (p : Path) (s : State) where
  pub look_range : path_ok p ≡ false → ◌≡◌ {A = Out} (record { reply = No 0 1; state = s }) (does room (Look p) s)
  unfolding does
  look_range h = rw h refl

  module _ (ok : path_ok p ≡ true) where
    pub look_missing : some (at p) s.entries ≡ false → ◌≡◌ {A = Out} (record { reply = No 0 2; state = s }) (does room (Look p) s)
    unfolding does
    look_missing h = rw ok (ap (λ (r : Reply). record { reply = r; state = s }) (told_none (at p) s.entries h))

    pub look_found : (i : ℕ) (c v : List ℕ) (h : Head) → First (at p) s.entries i → ((d : Entry) → get_or s.entries i d ≡ entry_of c) → h ≡ head_of c → v ≡ (entry_of c).value →
        ◌≡◌ {A = Out} (record { reply = Entry' v h.version.0 h.made.0 h.changed.0 h.kids.0 h.owner.0; state = s }) (does room (Look p) s)
    unfolding does
    look_found i c v h first is eh ev = rw ok (ap (λ (r : Reply). record { reply = r; state = s }) (told_first (at p) s.entries i c v h first is eh ev))

  pub kids_is : does room (Kids p) s ≡ record { reply = listing p s (Names (kid_names p s)); state = s }
  unfolding does
  kids_is = refl

-- a choice by tests, once they are known
choice_none : {A : Type 0} (n o t : Bool) (r a b : A) → n ≡ false → o ≡ false → cond (n || o) (cond (n || t) r a) b ≡ b
choice_none n o t r a b e f = rw e (rw f refl)

choice_by : {A : Type 0} (n o t : Bool) (r a b : A) → n ≡ false → o ≡ true → cond (n || o) (cond (n || t) r a) b ≡ cond t r a
choice_by n o t r a b e f = rw e (rw f refl)

module _ (p : Path) (s : State) (r : Reply) where
  pub list_top : p ≡ [] → listing p s r ≡ r
  unfolding none
  list_top e = rw e refl

  pub list_range : none p ≡ false → path_ok p ≡ false → listing p s r ≡ No 0 1
  list_range n h = choice_none (none p) (path_ok p) (some (at p) s.entries) r (No 0 2) (No 0 1) n h

  module _ (n : none p ≡ false) (ok : path_ok p ≡ true) where
    pub list_missing : some (at p) s.entries ≡ false → listing p s r ≡ No 0 2
    list_missing h = choice_by (none p) (path_ok p) (some (at p) s.entries) r (No 0 2) (No 0 1) n ok ∙ cond-false (some (at p) s.entries) r (No 0 2) h

    pub list_found : some (at p) s.entries ≡ true → listing p s r ≡ r
    list_found h = choice_by (none p) (path_ok p) (some (at p) s.entries) r (No 0 2) (No 0 1) n ok ∙ cond-true (some (at p) s.entries) r (No 0 2) h

-- THE LAST NAME OF A PATH, AS BYTES
path_names : (p : Path) → path_ok p ≡ true → not (none p) ≡ true
path_names p h = (and_parts (not (none p)) (leb (length p) 16) (and_parts (not (none p) && leb (length p) 16) (every name_ok p) h).0).0

pub name_bytes_lem : (path : List ℕ) (n : ℕ) → Spells path → path_ok (path_of path) ≡ true → LastAt path n → drop n path ≡ name_bytes (last_name (path_of path))
unfolding path_bytes
name_bytes_lem path n sp ok l =
    let p = path_of path in
    let last = last_name (path_of path) in
    let front : path_bytes (Tree.above p) ≡ take n path = ap path_bytes (sym l.above) ∙ l.spells in
    let long = ap length front ∙ length-take-le n path (omega (arith, l.within)) in
    let whole : path ≡ path_bytes (Tree.above p) ++ (length last ∷ (last ++ [])) = sym sp ∙ ap path_bytes (above_last p (path_names p ok)) ∙ bytes_append (Tree.above p) (last ∷ []) in
    ap (drop n) whole ∙ drop_at (path_bytes (Tree.above p)) (length last ∷ (last ++ [])) n long ∙ ap (λ (l : List ℕ). length last ∷ l) (append-nil last)

pub name_short : (p : Path) → path_ok p ≡ true → length (last_name p) ≤ 64
name_short p ok =
    let all = (and_parts (not (none p) && leb (length p) 16) (every name_ok p) ok).1 in
    let own = every_at name_ok (Tree.above p) (last_name p) [] (ap (every name_ok) (sym (above_last p (path_names p ok))) ∙ all) in
    leb-true (length (last_name p)) 64 (and_parts (ltb 0 (length (last_name p))) (leb (length (last_name p)) 64) (and_parts (ltb 0 (length (last_name p)) && leb (length (last_name p)) 64) (every (λ (b : ℕ). ltb b 256) (last_name p)) own).0).1

-- NAMES WRITTEN ONE BEHIND THE OTHER
abbrev pub names_to : Path → List Entry → ℕ → List Name
names_to p es i = map (λ (e : Entry). last_name e.path) (keep (is_kid p) (take i es))

pub record Listing (p : Path) (es : List Entry) (i : ℕ) (out : List ℕ) (l : Listed) : Type 0 where
  pub names : take l.end out ≡ path_bytes (names_to p es i)
  pub count : l.count ≡ length (names_to p es i)
  pub inside : l.end ≤ 65 * i
  pub few : l.count ≤ i

module _ (p : Path) (es : List Entry) where
  pub listing_none : (out : List ℕ) → Listing p es 0 out (record { count = 0; end = 0 })
  unfolding path_bytes keep
  listing_none out = record { names = refl; count = refl; inside = omega arith; few = omega arith }

  module _ (i : ℕ) (e : Entry) (l : i < length es) (is : get_or es i e ≡ e) (out : List ℕ) (d : Listed) (h : Listing p es i out d) where
    pub listing_skip : is_kid p e ≡ false → Listing p es (i + 1) out d
    listing_skip k =
        let same = ap (map (λ (x : Entry). last_name x.path)) (keep_skip (is_kid p) es i e l is k) in
        record { names = h.names ∙ ap path_bytes same; count = h.count ∙ ap length same; inside = omega (arith, h.inside); few = omega (arith, h.few) }

    pub listing_more : is_kid p e ≡ true → (bytes out' : List ℕ) (end : ℕ) → bytes ≡ name_bytes (last_name e.path) → length bytes ≤ 65 → Added d.end out bytes end out' → Listing p es (i + 1) out' (record { count = d.count + 1; end = end })
    unfolding path_bytes
    listing_more k bytes out' end name few a =
        let n = last_name e.path in
        let more : names_to p es i ++ n ∷ [] ≡ names_to p es (i + 1) = sym (map_push (λ (x : Entry). last_name x.path) (keep (is_kid p) (take i es)) e) ∙ ap (map (λ (x : Entry). last_name x.path)) (keep_more (is_kid p) es i e l is k) in
        record {
          names = a.front ∙ (λ j. h.names j ++ name j) ∙ ap (λ (x : List ℕ). path_bytes (names_to p es i) ++ (length n ∷ x)) (sym (append-nil n)) ∙ sym (bytes_append (names_to p es i) (n ∷ [])) ∙ ap path_bytes more;
          count = ap (λ (k : ℕ). k + 1) h.count ∙ sym (length_push (names_to p es i) n) ∙ ap length more;
          inside = omega (arith, h.inside, a.ends);
          few = omega (arith, h.few);
        }

  pub listing_all : (i : ℕ) → length es ≤ i → names_to p es i ≡ map (λ (e : Entry). last_name e.path) (keep (is_kid p) es)
  listing_all i l = ap (map (λ (x : Entry). last_name x.path)) (keep_all (is_kid p) es i l)
