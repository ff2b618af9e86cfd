-- A program that keeps its promises keeps them over messages that are written and read, where all that is said is read again: each run with written messages is a run of the program itself, with the same things seen. Assumes nothing.
use Rattle.std.proofs.Common.{◌≡◌, ℕ, suc, ◌*◌, ◌<◌, ◌≤◌, true, not, ◌&&◌, List, [], ◌∷◌, ◌++◌, map, Some, Option, sym, refl, ap, ◌∙◌, subst, ⊎_elim, arith}
use mathlib.Core.List.Memᴰ
use mathlib.Core.List.{Memᴰ}
use Rattle.runs.specs.Replicas.{Said, Call', Beat, Does, Says, Gives, Whole', Code, Letter, there, Waits, Scene, Seen, asked, gave, at, posted, given, whole, answered_off, how_many, turned, with_call, New, woken, fallen, Goes, first, hears, is_asked, beats, falls, wakes}
use Rattle.runs.specs.Carrying.{Writing, written, hears_written, turns_written, over_writing, ReadsAgainOfSeven}

module _ {M N : Type 0} (f : M → N) where
  abbrev pub sent_letter : Letter M → Letter N
  sent_letter l = record { by = l.by; to = l.to; word = f l.word }

  posted_written : {R : Type 0} (i : ℕ) (ds : List (Does M R)) → posted i (written f ds) ≡ map sent_letter (posted i ds)
  unfolding posted written
  posted_written i [] = refl
  posted_written i (Says j w ∷ ds) = ap (λ (l : List (Letter N)). record { by = i; to = j; word = f w } ∷ l) (posted_written i ds)
  posted_written i (Gives k r ∷ ds) = posted_written i ds
  posted_written i (Whole' ∷ ds) = posted_written i ds

  pub given_written : {O R : Type 0} (i : ℕ) (ds : List (Does M R)) → ◌≡◌ {A = List (Seen O R)} (given i (written f ds)) (given i ds)
  unfolding given written
  given_written {O} {R} i [] = refl
  given_written {O} {R} i (Says j w ∷ ds) = given_written i ds
  given_written {O} {R} i (Gives k r ∷ ds) = ap (λ (l : List (Seen O R)). gave i k r ∷ l) (given_written i ds)
  given_written {O} {R} i (Whole' ∷ ds) = given_written i ds

  whole_written : {R : Type 0} (ds : List (Does M R)) → whole (written f ds) ≡ whole ds
  unfolding whole written
  whole_written [] = refl
  whole_written (Says j w ∷ ds) = whole_written ds
  whole_written (Gives k r ∷ ds) = whole_written ds
  whole_written (Whole' ∷ ds) = refl

  answered_written : {R : Type 0} (i : ℕ) (ds : List (Does M R)) (ws : List Waits) → answered_off i (written f ds) ws ≡ answered_off i ds ws
  unfolding answered_off written
  answered_written i [] ws = refl
  answered_written i (Says j w ∷ ds) ws = answered_written i ds ws
  answered_written i (Gives k r ∷ ds) ws = answered_written i ds _
  answered_written i (Whole' ∷ ds) ws = answered_written i ds ws

  -- an answer that is given is given in the turn itself
  pub gives_written : {R : Type 0} (q : ℕ) (r : R) (ds : List (Does M R)) → Memᴰ (Gives q r) (written f ds) → Memᴰ (Gives q r) ds
  unfolding written
  gives_written q r [] m = absurd (Memᴰ.not-nil m)
  gives_written q r (Says j w ∷ ds) m = ⊎_elim (λ e. absurd (let z : ◌≡◌ {A = ℕ} 0 1 = cc in omega arith)) (λ k. Memᴰ.tail (gives_written q r ds k)) (Memᴰ.cases_cons m)
  gives_written q r (Gives k t ∷ ds) m = ⊎_elim (λ e. Memᴰ.head (let a : q ≡ k = cc in let b : r ≡ t = cc in λ i. Gives (a i) (b i))) (λ k. Memᴰ.tail (gives_written q r ds k)) (Memᴰ.cases_cons m)
  gives_written q r (Whole' ∷ ds) m = ⊎_elim (λ e. absurd (let z : ◌≡◌ {A = ℕ} 0 1 = cc in omega arith)) (λ k. Memᴰ.tail (gives_written q r ds k)) (Memᴰ.cases_cons m)

pub map_append : {A B : Type 0} (g : A → B) (xs ys : List A) → map g (xs ++ ys) ≡ map g xs ++ map g ys
map_append g [] ys = refl
map_append g (x ∷ xs) ys = ap (λ l. g x ∷ l) (map_append g xs ys)

pub member_mapped : {A B : Type 0} (g : A → B) (xs : List A) (y : B) → Memᴰ y (map g xs) → (x : A) × Memᴰ x xs × (y ≡ g x)
member_mapped g [] y m = absurd (Memᴰ.not-nil m)
member_mapped g (x ∷ xs) y m = ⊎_elim (λ e. (x, Memᴰ.head refl, e)) (λ k. let r = member_mapped g xs y k in (r.0, Memᴰ.tail r.1, r.2)) (Memᴰ.cases_cons m)

pub mapped_member : {A B : Type 0} (g : A → B) (xs : List A) (x : A) → Memᴰ x xs → Memᴰ (g x) (map g xs)
mapped_member g [] x m = absurd (Memᴰ.not-nil m)
mapped_member g (y ∷ xs) x m = ⊎_elim (λ e. Memᴰ.head (ap g e)) (λ k. Memᴰ.tail (mapped_member g xs x k)) (Memᴰ.cases_cons m)

module _ {M O R N : Type 0} (c : Code M O R) (e : Writing c N) where
  -- a scene with its messages written
  abbrev pub sent : Scene c.Mind M → Scene c.Mind N
  sent s = record { house = s.house; frail = s.frail; letters = map (sent_letter e.write) s.letters; waits = s.waits; drawn = s.drawn }

  abbrev pub Result : Type 0
  Result = record { does : List (Does M R); mind : c.Mind }

  pub turned_sent : (i : ℕ) (x : Result) (s : Scene c.Mind M) → turned (over_writing c e) i (record { does = written e.write x.does; mind = x.mind }) (sent s) ≡ sent (turned c i x s)
  turned_sent i x s = λ k. record {
    house = at i (there x.mind) s.house;
    frail = at i (s.frail i && not (whole_written e.write x.does k)) s.frail;
    letters = (ap (λ (l : List (Letter N)). l ++ map (sent_letter e.write) s.letters) (posted_written e.write i x.does) ∙ sym (map_append (sent_letter e.write) (posted i x.does) s.letters)) k;
    waits = answered_written e.write i x.does s.waits k;
    drawn = s.drawn;
  }

  abbrev pub Written : Type 0
  Written = record { does : List (Does N R); mind : c.Mind }

  abbrev pub out : Result → Written
  out x = record { does = written e.write x.does; mind = x.mind }

  -- what was written of a message is heard as that message
  pub said_again : (j : ℕ) (w : M) (n : N) (m : c.Mind) → e.read m n ≡ Some w → turns_written c e (Said j n) m ≡ out (c.turns (Said j w) m)
  unfolding turns_written hears_written
  said_again j w n m h = ap (λ (o : Option M). hears_written c e.write j o m) h

  call_again : (k : ℕ) (o : O) (m : c.Mind) → turns_written c e (Call' k o) m ≡ out (c.turns (Call' k o) m)
  unfolding turns_written
  call_again k o m = refl

  pub beat_again : (m : c.Mind) → turns_written c e Beat m ≡ out (c.turns Beat m)
  unfolding turns_written
  beat_again m = refl

  -- after a turn, what is there, and what was seen
  pub scene_again : (i : ℕ) (y : Written) (x : Result) (t : Scene c.Mind N) (s : Scene c.Mind M) → y ≡ out x → t ≡ sent s → turned (over_writing c e) i y t ≡ sent (turned c i x s)
  scene_again i y x t s p q = (λ k. turned (over_writing c e) i (p k) (q k)) ∙ turned_sent i x s

  pub seen_again : (i : ℕ) (y : Written) (x : Result) (es : List (Seen O R)) → y ≡ out x → given i x.does ++ es ≡ given i y.does ++ es
  seen_again i y x es p = ap (λ (l : List (Seen O R)). l ++ es) (sym (ap (λ (z : Written). given i z.does) p ∙ given_written e.write i x.does))

-- a run with written messages is a run of the program, with the same seen
pub record Carried {M O R N : Type 0} (c : Code M O R) (e : Writing c N) (all n : ℕ) (es : List (Seen O R)) (t : Scene c.Mind N) : Type 0 where
  pub scene : Scene c.Mind M
  pub is : t ≡ sent c e scene
  pub goes : Goes c all n es scene

module _ {M O R N : Type 0} (c : Code M O R) (e : Writing c N) (again : ReadsAgainOfSeven c e) (all : ℕ) (few : all ≤ 7) where
  pub carry : (n : ℕ) (es : List (Seen O R)) (t : Scene c.Mind N) → Goes (over_writing c e) all n es t → Carried c e all n es t
  carry _ _ _ first = record { scene = _; is = refl; goes = first }
  carry _ _ _ (hears {n = n} {es = es} {s = t} i m l lt g h mem to) = hear (carry n es t g)
    where
      hear : Carried c e all n es t → Carried c e all (suc n) (given i (turns_written c e (Said l.by l.word) m).does ++ es) (turned (over_writing c e) i (turns_written c e (Said l.by l.word) m) t)
      hear r =
          let s = r.scene in
          let up : s.house i ≡ there m = ap (λ (z : Scene c.Mind N). z.house i) (sym r.is) ∙ h in
          let found = member_mapped (sent_letter e.write) s.letters l (subst (λ (z : Scene c.Mind N). Memᴰ l z.letters) r.is mem) in
          let k = found.0 in
          let reads : e.read m l.word ≡ Some k.word = ap (λ (z : Letter N). e.read m z.word) found.2 ∙ again all n few es s r.goes i m lt up k found.1 in
          let by : l.by ≡ k.by = ap (λ (z : Letter N). z.by) found.2 in
          let eq = ap (λ (j : ℕ). turns_written c e (Said j l.word) m) by ∙ said_again c e k.by k.word l.word m reads in
          record {
            scene = turned c i (c.turns (Said k.by k.word) m) s;
            is = scene_again c e i (turns_written c e (Said l.by l.word) m) (c.turns (Said k.by k.word) m) t s eq r.is;
            goes = subst (λ (fs : List (Seen O R)). Goes c all (suc n) fs (turned c i (c.turns (Said k.by k.word) m) s)) (seen_again c e i (turns_written c e (Said l.by l.word) m) (c.turns (Said k.by k.word) m) es eq)
                (hears i m k lt r.goes up found.1 (sym (ap (λ (z : Letter N). z.to) found.2) ∙ to));
          }
  carry _ _ _ (is_asked {n = n} {es = es} {s = t} i k o m lt fit g h new) = ask (carry n es t g)
    where
      ask : Carried c e all n es t → Carried c e all (suc n) (given i (turns_written c e (Call' k o) m).does ++ asked i k o ∷ es) (turned (over_writing c e) i (turns_written c e (Call' k o) m) (with_call i k t))
      ask r =
          let s = r.scene in
          let up : s.house i ≡ there m = ap (λ (z : Scene c.Mind N). z.house i) (sym r.is) ∙ h in
          let eq = call_again c e k o m in
          record {
            scene = turned c i (c.turns (Call' k o) m) (with_call i k s);
            is = scene_again c e i (turns_written c e (Call' k o) m) (c.turns (Call' k o) m) (with_call i k t) (with_call i k s) eq (ap (with_call i k) r.is);
            goes = subst (λ (fs : List (Seen O R)). Goes c all (suc n) fs (turned c i (c.turns (Call' k o) m) (with_call i k s))) (seen_again c e i (turns_written c e (Call' k o) m) (c.turns (Call' k o) m) (asked i k o ∷ es) eq)
                (is_asked i k o m lt fit r.goes up new);
          }
  carry _ _ _ (beats {n = n} {es = es} {s = t} i m lt g h) = tick (carry n es t g)
    where
      tick : Carried c e all n es t → Carried c e all (suc n) (given i (turns_written c e Beat m).does ++ es) (turned (over_writing c e) i (turns_written c e Beat m) t)
      tick r =
          let s = r.scene in
          let up : s.house i ≡ there m = ap (λ (z : Scene c.Mind N). z.house i) (sym r.is) ∙ h in
          let eq = beat_again c e m in
          record {
            scene = turned c i (c.turns Beat m) s;
            is = scene_again c e i (turns_written c e Beat m) (c.turns Beat m) t s eq r.is;
            goes = subst (λ (fs : List (Seen O R)). Goes c all (suc n) fs (turned c i (c.turns Beat m) s)) (seen_again c e i (turns_written c e Beat m) (c.turns Beat m) es eq) (beats i m lt r.goes up);
          }
  carry _ _ _ (falls {n = n} {es = es} {s = t} i m lt g h few) =
      let r = carry n es t g in
      let s = r.scene in
      record {
        scene = fallen i s;
        is = ap (fallen i) r.is;
        goes = falls i m lt r.goes (ap (λ (z : Scene c.Mind N). z.house i) (sym r.is) ∙ h) (subst (λ (z : Scene c.Mind N). 2 * how_many all (at i true z.frail) < all) r.is few);
      }
  carry _ _ _ (wakes {n = n} {es = es} {s = t} i x lt new g h) =
      let r = carry n es t g in
      let s = r.scene in
      record {
        scene = woken c all i x s;
        is = ap (woken (over_writing c e) all i x) r.is;
        goes = wakes i x lt (subst (λ (z : Scene c.Mind N). New x z) r.is new) r.goes (ap (λ (z : Scene c.Mind N). z.house i) (sym r.is) ∙ h);
      }
