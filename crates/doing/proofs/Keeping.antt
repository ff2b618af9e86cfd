-- Every call keeps what makes memory suffice: weights within the room, counts within their bounds, sessions in order. Assumes nothing.
use Rattle.std.proofs.Common.{◌≡◌, ℕ, suc, ◌+◌, ◌*◌, ◌≤◌, Bool, true, false, not, ◌||◌, eqb, ltb, leb, List, [], ◌∷◌, ◌++◌, length, sym, refl, ap, ◌∙◌, subst, arith, length-append}
use Rattle.std.specs.List.{AllByRecursion}
use Rattle.std.proofs.ByRecursion.{All-push, All-weaker}
use Rattle.std.proofs.lemmas.Bool.{cond_both, and_parts, and_from, ltb-true, lt-ltb, leb-true, leb-false, le-leb, or_parts, ltb-false}
use Rattle.model.specs.Tree as Tree
use Rattle.model.specs.Tree.{Path, Entry, State, Step, Bad, Good, Act, Make, Put, Drop, Check, Call, Do, Look, Kids, Open, End, Going, Failed, Fine, acts, goes, all_of, stepped, closed, does, values_in, unless, some, keep, change, at, put_in, counted, none, weight, weight_of, onward}
use Rattle.cells.specs.Fits.{rising, CountsTo, Below, Fits, Calm}
use Rattle.making.specs.Making.{kid_made}
use Rattle.tree.specs.Steps.{overweight, Ready}
use Rattle.doing.specs.Laws.{FitsStays}
use Rattle.tree.proofs.Weighs.{within_room, keep_weighs}

-- LISTS
module _ {A : Type 0} (P Q : A → Type 0) (f : A → Bool) where
  pub all_change : (g : A → A) → ((x : A) → P x → Q x) → ((x : A) → P x → Q (g x)) → (xs : List A) → AllByRecursion P xs → AllByRecursion Q (change f g xs)
  unfolding change
  all_change g weak each [] h = tt
  all_change g weak each (x ∷ xs) h =
      cond_both (f x) (g x ∷ xs) (x ∷ change f g xs) (AllByRecursion Q) (λ _. (each x h.0, All-weaker P Q weak xs h.1)) (λ _. (weak x h.0, all_change g weak each xs h.1))

  pub all_keep : (xs : List A) → AllByRecursion P xs → AllByRecursion P (keep f xs)
  unfolding keep
  all_keep [] h = tt
  all_keep (x ∷ xs) h = cond_both (f x) (x ∷ keep f xs) (keep f xs) (AllByRecursion P) (λ _. (h.0, all_keep xs h.1)) (λ _. all_keep xs h.1)

length_keep : {A : Type 0} (f : A → Bool) (xs : List A) → length (keep f xs) ≤ length xs
unfolding keep
length_keep f [] = omega arith
length_keep f (x ∷ xs) = let more = length_keep f xs in cond_both (f x) (x ∷ keep f xs) (keep f xs) (λ (l : List _). length l ≤ length (x ∷ xs)) (λ _. omega arith) (λ _. omega arith)

-- SESSIONS
rising_lower : (low high : ℕ) (xs : List ℕ) (last : ℕ) → low ≤ high → rising high xs last ≡ true → rising low xs last ≡ true
unfolding rising
rising_lower low high [] last l h = le-leb low last (omega (arith, leb-true high last h))
rising_lower low high (x ∷ xs) last l h =
    let both = and_parts (ltb high x) (rising x xs last) h in
    and_from (ltb low x) (rising x xs last) (lt-ltb low x (omega (arith, ltb-true high x both.0))) both.1

rising_keep : (f : ℕ → Bool) (low : ℕ) (xs : List ℕ) (last : ℕ) → rising low xs last ≡ true → rising low (keep f xs) last ≡ true
unfolding rising keep
rising_keep f low [] last h = h
rising_keep f low (x ∷ xs) last h =
    let both = and_parts (ltb low x) (rising x xs last) h in
    let more = rising_keep f x xs last both.1 in
    cond_both (f x) (x ∷ keep f xs) (keep f xs) (λ (l : List ℕ). rising low l last ≡ true)
    (λ _. and_from (ltb low x) (rising x (keep f xs) last) both.0 more)
    (λ _. rising_lower low x (keep f xs) last (omega (arith, ltb-true low x both.0)) more)

rising_push : (low : ℕ) (xs : List ℕ) (last : ℕ) → rising low xs last ≡ true → rising low (xs ++ ((last + 1) ∷ [])) (last + 1) ≡ true
unfolding rising
rising_push low [] last h = and_from (ltb low (last + 1)) (leb (last + 1) (last + 1)) (lt-ltb low (last + 1) (omega (arith, leb-true low last h))) (le-leb (last + 1) (last + 1) (omega arith))
rising_push low (x ∷ xs) last h =
    let both = and_parts (ltb low x) (rising x xs last) h in
    and_from (ltb low x) (rising x (xs ++ ((last + 1) ∷ [])) (last + 1)) both.0 (rising_push x xs last both.1)

-- COUNTS
below_weaker : (l m : ℕ) (s : State) → l ≤ m → Below l s → Below m s
below_weaker l m s h b =
    record { top = omega (arith, b.top); entries = All-weaker (CountsTo l) (CountsTo m) (λ e c. record { version = omega (arith, c.version); kids = omega (arith, c.kids) }) s.entries b.entries }

-- ONE ACT: what it leaves alone, and by how much it raises counts
pub record Moved (s t : State) : Type 0 where
  pub changes : t.changes ≡ s.changes
  pub sessions : t.sessions ≡ s.sessions
  pub last : t.last_session ≡ s.last_session
  pub counts : (l : ℕ) → Below l s → Below (l + 1) t

pub good_of : (k : ℕ) (b : Bool) (o : Step) (qs : List Path) (t : State) → unless k b o ≡ Good qs t → o ≡ Good qs t
unfolding unless
good_of k false o qs t e = e
good_of k true o qs t e = absurd (let z : ◌≡◌ {A = ℕ} 0 1 = cc in omega arith)

pub same_state : (qs rs : List Path) (t u : State) → Good qs t ≡ Good rs u → t ≡ u
same_state qs rs t u e = cc

weaker : (l : ℕ) (e : Entry) → CountsTo l e → CountsTo (l + 1) e
weaker l e c = record { version = omega (arith, c.version); kids = omega (arith, c.kids) }

pub moved : (a : Act) (s : State) (qs : List Path) (t : State) → acts a s ≡ Good qs t → Moved s t
unfolding acts
moved (Make p v n o) s qs t e =
    let q = Tree.true_name p n s in
    let is = same_state _ qs _ t (good_of 7 _ _ qs t (good_of 6 _ _ qs t (good_of 3 _ _ qs t (good_of 8 _ _ qs t (good_of 2 _ _ qs t (good_of 1 _ _ qs t e)))))) in
    subst (Moved s) is (record {
      changes = refl;
      sessions = refl;
      last = refl;
      counts = λ l b. record {
        top = cond_both (none (Tree.above q)) (s.top + 1) s.top (λ (m : ℕ). m ≤ l + 1) (λ _. omega (arith, b.top)) (λ _. omega (arith, b.top));
        entries = All-push (CountsTo (l + 1)) _ _
            (all_change (CountsTo l) (CountsTo (l + 1)) (at (Tree.above q)) kid_made (weaker l) (λ x c. record { version = omega (arith, c.version); kids = omega (arith, c.kids) }) s.entries b.entries)
            (record { version = omega arith; kids = omega arith });
      };
    })
moved (Put p v x) s qs t e =
    let is = same_state [] qs _ t (good_of 4 _ _ qs t (good_of 2 _ _ qs t (good_of 1 _ _ qs t e))) in
    subst (Moved s) is (record {
      changes = refl;
      sessions = refl;
      last = refl;
      counts = λ l b. record {
        top = omega (arith, b.top);
        entries = all_change (CountsTo l) (CountsTo (l + 1)) (at p) (put_in v (s.changes + 1)) (weaker l) (λ x c. record { version = omega (arith, c.version); kids = omega (arith, c.kids) }) s.entries b.entries;
      };
    })
moved (Drop p x) s qs t e =
    let is = same_state [] qs _ t (good_of 5 _ _ qs t (good_of 4 _ _ qs t (good_of 2 _ _ qs t (good_of 1 _ _ qs t e)))) in
    subst (Moved s) is (record {
      changes = refl;
      sessions = refl;
      last = refl;
      counts = λ l b. record { top = omega (arith, b.top); entries = All-weaker (CountsTo l) (CountsTo (l + 1)) (weaker l) _ (all_keep (CountsTo l) (CountsTo l) (λ (y : Entry). not (at p y)) s.entries b.entries) };
    })
moved (Check p x) s qs t e =
    let is = same_state [] qs s t (good_of 4 _ _ qs t (good_of 2 _ _ qs t (good_of 1 _ _ qs t e))) in
    subst (Moved s) is (record { changes = refl; sessions = refl; last = refl; counts = λ l b. below_weaker l (l + 1) s (omega arith) b })

-- SEVERAL ACTS: what so many of them made of a state
pub record Held (room n : ℕ) (s t : State) : Type 0 where
  pub changes : t.changes ≡ s.changes
  pub sessions : t.sessions ≡ s.sessions
  pub last : t.last_session ≡ s.last_session
  pub counts : Below (64 * s.changes + n) t
  pub weighs : weight_of t.entries ≤ room

abbrev pub Kept : ℕ → State → ℕ → Going → Type 0
Kept room s m (Failed n k) = Unit {0}
Kept room s m (Fine n ps t) = (n ≤ m) × Held room n s t

pub held_first : (room : ℕ) (s : State) → Fits room s → Held room 0 s s
held_first room s f = record { changes = refl; sessions = refl; last = refl; counts = below_weaker (64 * s.changes) (64 * s.changes + 0) s (omega arith) f.counts; weighs = f.weighs }

pub held_next : (room n : ℕ) (s t : State) (a : Act) (qs : List Path) (u : State) → Held room n s t → acts a t ≡ Good qs u → overweight room (weight t) (weight u) ≡ false → Held room (suc n) s u
held_next room n s t a qs u h e light =
    let m = moved a t qs u e in
    let same = ap length m.sessions in
    let fits = within_room room (weight t) (weight u) light in
    record {
      changes = m.changes ∙ h.changes;
      sessions = m.sessions ∙ h.sessions;
      last = m.last ∙ h.last;
      counts = below_weaker (64 * s.changes + n + 1) (64 * s.changes + suc n) u (omega arith) (m.counts (64 * s.changes + n) h.counts);
      weighs = omega (arith, h.weighs);
    }

kept_step : (room m n : ℕ) (ps : List Path) (s t : State) (a : Act) (o : Step) → n ≤ m → Held room n s t → acts a t ≡ o → Kept room s (suc m) (stepped room n ps t o)
unfolding stepped
kept_step room m n ps s t a (Bad k) l h e = tt
kept_step room m n ps s t a (Good qs u) l h e =
    cond_both (overweight room (weight t) (weight u)) (Failed n 9) (Fine (suc n) (ps ++ qs) u) (Kept room s (suc m)) (λ _. tt) (λ light. (omega arith, held_next room n s t a qs u h e light))

kept_one : (room m : ℕ) (s : State) (a : Act) (g : Going) → Kept room s m g → Kept room s (suc m) (goes room a g)
unfolding goes
kept_one room m s a (Failed n k) h = tt
kept_one room m s a (Fine n ps t) h = kept_step room m n ps s t a (acts a t) h.0 h.1 refl

kept_all : (room m : ℕ) (s : State) (as' : List Act) (g : Going) → Kept room s m g → Kept room s (m + length as') (all_of room as' g)
unfolding all_of
kept_all room m s [] g h = let z : m ≡ m + 0 = omega arith in subst (λ (k : ℕ). Kept room s k g) z h
kept_all room m s (a ∷ as') g h =
    let z : suc m + length as' ≡ m + suc (length as') = omega arith in
    subst (λ (k : ℕ). Kept room s k (all_of room as' (goes room a g))) z (kept_all room (suc m) s as' (goes room a g) (kept_one room m s a g h))

pub fits_onward : (room n : ℕ) (s t : State) → Calm s → Fits room s → n ≤ 64 → Held room n s t → Fits room (onward t)
fits_onward room n s t calm f l h = record {
  weighs = h.weighs;
  few = subst (λ (xs : List ℕ). length xs ≤ 4096) (sym h.sessions) f.few;
  rises = (λ i. rising 0 (h.sessions i) (h.last i)) ∙ f.rises;
  opened = omega (arith, h.last, h.changes, f.opened);
  early = omega (arith, h.changes);
  counts = record {
    top = omega (arith, h.counts.top, h.changes);
    entries = All-weaker (CountsTo (64 * s.changes + n)) (CountsTo (64 * (t.changes + 1))) (λ e c. record { version = omega (arith, c.version, h.changes); kids = omega (arith, c.kids, h.changes) }) t.entries h.counts.entries;
  };
}

fits_closed : (room m : ℕ) (s : State) (g : Going) → Calm s → Fits room s → m ≤ 64 → Kept room s m g → Fits room (closed s g).state
unfolding closed
fits_closed room m s (Failed n k) calm f l h = f
fits_closed room m s (Fine n ps t) calm f l h = fits_onward room n s t calm f (omega (arith, h.0)) h.1

-- counts with more changes
counts_more : (s t : State) (m : ℕ) → s.changes ≤ m → t.top ≡ s.top → AllByRecursion (CountsTo (64 * s.changes)) t.entries → Below (64 * s.changes) s → Below (64 * m) t
counts_more s t m l e all b = record {
  top = omega (arith, b.top, e);
  entries = All-weaker (CountsTo (64 * s.changes)) (CountsTo (64 * m)) (λ x c. record { version = omega (arith, c.version); kids = omega (arith, c.kids) }) t.entries all;
}

pub fits_stays : FitsStays
unfolding does
fits_stays room (Do as') s calm f =
    cond_both (ltb 64 (length as') || ltb 262144 (values_in as')) _ _ (λ (o : Tree.Out). Fits room o.state) (λ _. f)
    (λ e. fits_closed room (0 + length as') s (all_of room as' (Fine 0 [] s)) calm f (omega (arith, ltb-false 64 (length as') (or_parts (ltb 64 (length as')) (ltb 262144 (values_in as')) e).0))
    (kept_all room 0 s as' (Fine 0 [] s) (omega arith, held_first room s f)))
fits_stays room (Look p) s calm f = f
fits_stays room (Kids p) s calm f = f
fits_stays room Open s calm f =
    cond_both (leb 4096 (length s.sessions)) _ _ (λ (o : Tree.Out). Fits room o.state) (λ _. f)
    (λ e. record {
      weighs = f.weighs;
      few = omega (arith, length-append s.sessions ((s.last_session + 1) ∷ []), leb-false 4096 (length s.sessions) e);
      rises = rising_push 0 s.sessions s.last_session f.rises;
      opened = omega (arith, f.opened);
      early = omega arith;
      counts = counts_more s _ (s.changes + 1) (omega arith) refl f.counts.entries f.counts;
    })
fits_stays room (End k) s calm f =
    cond_both (some (eqb k) s.sessions) _ _ (λ (o : Tree.Out). Fits room o.state)
    (λ _. record {
      weighs = omega (arith, f.weighs, keep_weighs (λ (e : Entry). not (eqb k e.owner)) s.entries);
      few = omega (arith, f.few, length_keep (λ (x : ℕ). not (eqb k x)) s.sessions);
      rises = rising_keep (λ (x : ℕ). not (eqb k x)) 0 s.sessions s.last_session f.rises;
      opened = omega (arith, f.opened);
      early = omega arith;
      counts = counts_more s _ (s.changes + 1) (omega arith) refl (all_keep (CountsTo (64 * s.changes)) (CountsTo (64 * s.changes)) (λ (e : Entry). not (eqb k e.owner)) s.entries f.counts.entries) f.counts;
    })
    (λ _. f)

-- A state that fits is one to which an act may be done, after at most 64 others.
pub ready : (room n : ℕ) (s t : State) → Calm s → Fits room s → n ≤ 64 → Held room n s t → Ready room t
ready room n s t calm f l h = record {
  weighs = h.weighs;
  few = subst (λ (xs : List ℕ). length xs ≤ 4096) (sym h.sessions) f.few;
  changes = omega (arith, h.changes);
  counts = below_weaker (64 * s.changes + n) 18446744073709551614 t (omega arith) h.counts;
}
