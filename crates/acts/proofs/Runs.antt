-- A loop over acts: what is left to do from here is what there was to do. Assumes nothing.
use Rattle.std.proofs.Common.{◌≡◌, ℕ, suc, ◌+◌, ◌-◌, ◌<◌, ◌≤◌, false, cond, ltb, List, [], ◌∷◌, ◌++◌, Some, None, sym, refl, ap, ◌∙◌, subst, ⊎_elim, append_assoc, append-nil, add-one, arith}
use Rattle.std.specs.List.{AllByRecursion}
use Rattle.std.proofs.lemmas.Bool.{cases_Bool, cond-true, cond-false, cases_lt, lt-ltb, le-ltb}
use Rattle.model.specs.Tree.{Path, State, Step, Bad, Good, Act, Going, Failed, Fine, acts, all_of, goes, stepped, weight, onward}
use Rattle.calls.specs.declared.types.ActKind.{ActKind}
use Rattle.calls.specs.declared.types.ActKind.TheVariants as kind
use Rattle.calls.specs.Format.{act_at}
use Rattle.calls.specs.Reading.{act_from, acts_in, past}
use Rattle.cells.specs.Fits.{Calm, Fits}
use Rattle.tree.specs.Answers.{made_by, numbered}
use Rattle.tree.specs.Steps.{at_count, counting, overweight, weighed, Ready}
use Rattle.doing.proofs.Keeping.{Held, held_first, held_next, ready}
use Rattle.acts.specs.declared.several.Stands.{Stands}
use Rattle.acts.specs.Several.{Plain, made_all, standing, StandsIn}
use Rattle.acts.proofs.Readings.{Reads, reads_first, reads_stop, reads_step, reads_end}

-- ONE STEP
differ : {X : Type 0} (k : ℕ) (qs : List Path) (t : State) → Bad k ≡ Good qs t → X
differ k qs t e = absurd (let z : ◌≡◌ {A = ℕ} 0 1 = cc in omega arith)

abbrev going_of : ℕ → List Path → Step → Going
going_of n ps (Bad k) = Failed n k
going_of n ps (Good qs t) = Fine (suc n) (ps ++ qs) t

stepped_weighed : (room n : ℕ) (ps : List Path) (t : State) (o : Step) → stepped room n ps t o ≡ going_of n ps (weighed room t o)
unfolding stepped
stepped_weighed room n ps t (Bad k) = refl
stepped_weighed room n ps t (Good qs u) =
    ⊎_elim
    (λ h. cond-true (overweight room (weight t) (weight u)) (Failed n 9) (Fine (suc n) (ps ++ qs) u) h ∙ sym (ap (going_of n ps) (cond-true (overweight room (weight t) (weight u)) (Bad 9) (Good qs u) h)))
    (λ h. cond-false (overweight room (weight t) (weight u)) (Failed n 9) (Fine (suc n) (ps ++ qs) u) h ∙ sym (ap (going_of n ps) (cond-false (overweight room (weight t) (weight u)) (Bad 9) (Good qs u) h)))
    (cases_Bool (overweight room (weight t) (weight u)))

weighed_good : (room : ℕ) (t : State) (o : Step) (qs : List Path) (v : State) → weighed room t o ≡ Good qs v → (o ≡ Good qs v) × (overweight room (weight t) (weight v) ≡ false)
weighed_good room t (Bad k) qs v e = differ k qs v e
weighed_good room t (Good rs u) qs v e =
    ⊎_elim
    (λ h. differ 9 qs v (sym (cond-true (overweight room (weight t) (weight u)) (Bad 9) (Good rs u) h) ∙ e))
    (λ h.
    let is = sym (cond-false (overweight room (weight t) (weight u)) (Bad 9) (Good rs u) h) ∙ e in
    let same : u ≡ v = cc in
    (is, subst (λ (w : State). overweight room (weight t) (weight w) ≡ false) same h))
    (cases_Bool (overweight room (weight t) (weight u)))

counting_bad : (c k : ℕ) (o : Step) → Bad k ≡ counting c o → o ≡ Bad k
counting_bad c k (Bad j) e = sym e
counting_bad c k (Good qs t) e = differ k qs (at_count c t) e

counting_good : (c : ℕ) (qs : List Path) (w : State) (o : Step) → Good qs w ≡ counting c o → (v : State) × (o ≡ Good qs v) × (w ≡ at_count c v)
counting_good c qs w (Bad j) e = differ j qs w (sym e)
counting_good c qs w (Good rs t) e =
    let paths : rs ≡ qs = cc in
    let state : w ≡ at_count c t = cc in
    (t, ap (λ (ps : List Path). Good ps t) paths, state)

all_failed : (room : ℕ) (as' : List Act) (n k : ℕ) → all_of room as' (Failed n k) ≡ Failed n k
unfolding all_of goes
all_failed room [] n k = refl
all_failed room (a ∷ as') n k = all_failed room as' n k

all_step : (room n : ℕ) (a : Act) (as' : List Act) (ps : List Path) (t : State) → all_of room (a ∷ as') (Fine n ps t) ≡ all_of room as' (going_of n ps (weighed room t (acts a t)))
unfolding all_of goes
all_step room n a as' ps t = ap (all_of room as') (stepped_weighed room n ps t (acts a t))

-- THE LOOP: `now` is the state that the acts so far led to; the last of them wrote one change more
pub record Acting (room : ℕ) (all : List Act) (s : State) (count n : ℕ) (bytes : List ℕ) (u : State) : Type 0 where
  pub now : State
  pub left : List Act
  pub paths : List Path
  pub reads : Reads (count - n) bytes left
  pub same : all_of room all (Fine 0 [] s) ≡ all_of room left (Fine n paths now)
  pub made : paths ++ made_all left ≡ made_all all
  pub plain : AllByRecursion Plain left
  pub held : Held room n s now
  pub stands : u ≡ at_count (cond (ltb n count) s.changes (s.changes + 1)) now

pub acting_first : (room count : ℕ) (s : State) (bytes : List ℕ) → past act_at count bytes ≡ Some [] → AllByRecursion Plain (acts_in count bytes) → Fits room s → 0 < count → Acting room (acts_in count bytes) s count 0 bytes s
acting_first room count s bytes e plain f some =
    let all : count ≡ count - 0 = omega arith in
    record {
      now = s;
      left = acts_in count bytes;
      paths = [];
      reads = subst (λ (k : ℕ). Reads k bytes (acts_in count bytes)) all (reads_first count bytes e);
      same = refl;
      made = refl;
      plain = plain;
      held = held_first room s f;
      stands = ap (λ (c : ℕ). at_count c s) (sym (cond-true (ltb 0 count) s.changes (s.changes + 1) (lt-ltb 0 count some)));
    }

pub plain_kind : (k : ActKind) (p : Path) (v : List ℕ) → Plain (act_from k p v) → numbered k ≡ false
plain_kind (kind.Make n s) p v h = h
plain_kind (kind.Put x) p v h = refl
plain_kind (kind.Drop x) p v h = refl
plain_kind (kind.Check x) p v h = refl

module _ (room : ℕ) (all : List Act) (s : State) (count n : ℕ) (bytes : List ℕ) (u : State) (w : Acting room all s count n bytes u) where
  module _ (more : n < count) where
    -- while acts are left, what stands is the state that they led to
    here : u ≡ w.now
    here =
        w.stands ∙ ap (λ (c : ℕ). at_count c w.now) (cond-true (ltb n count) s.changes (s.changes + 1) (lt-ltb n count more)) ∙
        ap (λ (c : ℕ). at_count c w.now) (sym w.held.changes)

    on : Reads (suc (count - (n + 1))) bytes w.left
    on = let next : count - n ≡ suc (count - (n + 1)) = omega arith in subst (λ (k : ℕ). Reads k bytes w.left) next w.reads

    pub acting_stop : act_at bytes ≡ None → ⊥
    acting_stop e = reads_stop (count - (n + 1)) bytes w.left on e

    pub acting_ready : Calm s → Fits room s → count ≤ 64 → Ready room u
    acting_ready calm f few = subst (Ready room) (sym here) (ready room n s w.now calm f (omega arith) w.held)

    module _ (a : Act) (rest' : List ℕ) (e : act_at bytes ≡ Some (a, rest')) where
      next : (as' : List Act) × (w.left ≡ a ∷ as') × Reads (count - (n + 1)) rest' as'
      next = reads_step (count - (n + 1)) bytes w.left on a rest' e

      plains : Plain a × AllByRecursion Plain next.0
      plains = subst (λ (l : List Act). AllByRecursion Plain l) next.1 w.plain

      pub acting_plain : Plain a
      acting_plain = plains.0

      goes_on : all_of room all (Fine 0 [] s) ≡ all_of room next.0 (going_of n w.paths (weighed room u (acts a u)))
      goes_on =
          w.same ∙ ap (λ (l : List Act). all_of room l (Fine n w.paths w.now)) next.1 ∙ all_step room n a next.0 w.paths w.now ∙
          ap (λ (t : State). all_of room next.0 (going_of n w.paths (weighed room t (acts a t)))) (sym here)

      pub acting_refused : (c k : ℕ) → Bad k ≡ counting c (weighed room u (acts a u)) → all_of room all (Fine 0 [] s) ≡ Failed n k
      acting_refused c k h = goes_on ∙ ap (λ (o : Step). all_of room next.0 (going_of n w.paths o)) (counting_bad c k (weighed room u (acts a u)) h) ∙ all_failed room next.0 n k

      pub acting_more : (c : ℕ) (x : State) → Good (made_by a) x ≡ counting c (weighed room u (acts a u)) → c ≡ cond (ltb (n + 1) count) s.changes (s.changes + 1) → Acting room all s count (n + 1) rest' x
      unfolding made_all
      acting_more c x h is =
          let got = counting_good c (made_by a) x (weighed room u (acts a u)) h in
          let v = got.0 in
          let done = weighed_good room u (acts a u) (made_by a) v got.1 in
          let held = held_next room n s u a (made_by a) v (subst (Held room n s) (sym here) w.held) done.0 done.1 in
          record {
            now = v;
            left = next.0;
            paths = w.paths ++ made_by a;
            reads = next.2;
            same = goes_on ∙ ap (λ (o : Step). all_of room next.0 (going_of n w.paths o)) got.1 ∙ ap (λ (m : ℕ). all_of room next.0 (Fine m (w.paths ++ made_by a) v)) (sym (add-one n));
            made = append_assoc w.paths (made_by a) (made_all next.0) ∙ ap (λ (l : List Act). w.paths ++ made_all l) (sym next.1) ∙ w.made;
            plain = plains.1;
            held = subst (λ (m : ℕ). Held room m s v) (sym (add-one n)) held;
            stands = got.2 ∙ ap (λ (m : ℕ). at_count m v) is;
          }

  -- when none is left
  pub acting_end : count ≤ n → (m : ℕ) × (t : State) × (all_of room all (Fine 0 [] s) ≡ Fine m (made_all all) t) × (u ≡ onward t)
  unfolding all_of made_all
  acting_end l =
      let zero : count - n ≡ 0 = omega arith in
      let none = reads_end bytes w.left (subst (λ (k : ℕ). Reads k bytes w.left) zero w.reads) in
      let paths : w.paths ≡ made_all all = sym (append-nil w.paths) ∙ ap (λ (l : List Act). w.paths ++ made_all l) (sym none) ∙ w.made in (
        n,
        w.now,
        w.same ∙ ap (λ (l : List Act). all_of room l (Fine n w.paths w.now)) none ∙ ap (λ (ps : List Path). Fine n ps w.now) paths,
        w.stands ∙ ap (λ (c : ℕ). at_count c w.now) (cond-false (ltb n count) s.changes (s.changes + 1) (le-ltb n count l)) ∙ ap (λ (c : ℕ). at_count (c + 1) w.now) (sym w.held.changes),
      )

-- the count that an act writes: one more at the last
pub count_last : (n count a x : ℕ) → n + 1 ≡ count → x ≡ a + 1 → x ≡ cond (ltb (n + 1) count) a (a + 1)
count_last n count a x e h = h ∙ sym (cond-false (ltb (n + 1) count) a (a + 1) (le-ltb (n + 1) count (omega arith)))

pub count_before : (n count a x : ℕ) → n < count → (n + 1 ≡ count → ⊥) → x ≡ a → x ≡ cond (ltb (n + 1) count) a (a + 1)
count_before n count a x l e h = h ∙ sym (cond-true (ltb (n + 1) count) a (a + 1) (lt-ltb (n + 1) count (⊎_elim (λ m. m) (λ m. absurd (e (omega arith))) (cases_lt (n + 1) count))))

-- the same memory, under other names
module _ (st : Stands) (mem ps l l' p p' r r' q q' : List ℕ) (a : l ≡ l') (b : p ≡ p') (c : r ≡ r') (d : q ≡ q') where
  pub stands_same : standing st mem ps l p r q ≡ standing st mem ps l' p' r' q'
  stands_same = λ i. standing st mem ps (a i) (b i) (c i) (d i)

  pub stands_as : StandsIn st mem ps l' p' r' q' → StandsIn st mem ps l p r q
  stands_as h =
      subst (λ (x : List ℕ). StandsIn st mem ps x p r q) (sym a) (subst (λ (x : List ℕ). StandsIn st mem ps l' x r q) (sym b)
      (subst (λ (x : List ℕ). StandsIn st mem ps l' p' x q) (sym c) (subst (λ (x : List ℕ). StandsIn st mem ps l' p' r' x) (sym d) h)))
