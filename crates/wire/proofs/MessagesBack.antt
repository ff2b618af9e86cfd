-- Bytes that are read as a message are those that it is written as: each reader takes just what its writer writes. Assumes nothing.
use Rattle.std.proofs.Common.{◌≡◌, ℕ, zero, suc, ◌+◌, Bool, true, false, cond, eqb, ltb, List, [], ◌∷◌, ◌++◌, Some, None, Option, sym, refl, ap, ◌∙◌, subst, ⊎_elim, append_assoc, append-nil, Ok, Err}
use Rattle.std.proofs.lemmas.Bool.{eqb-true}
use Rattle.model.specs.Tree.{State}
use Rattle.lent_bytes.specs.Numbers.{be8}
use Rattle.calls.specs.Format.{and_then, byte_at, number_at, flag_at, flag_written, wholly}
use Rattle.calls.specs.Laws.{Bytes}
use Rattle.calls.proofs.Back.{some_parts, then_some, byte_back}
use Rattle.calls.proofs.WrittenAgain.{behind, number_back, flag_back, whole_back, cond_some, nothing}
use Rattle.tree.specs.declared.refusal.Refusal.{Refusal}
use Rattle.tree.specs.declared.refusal.Refusal.TheVariants.{OutOfRange, NotThere, AlreadyThere, OtherVersion, HasKids, NoSession, UnderSession, UsedUp, Full}
use Rattle.tree.specs.Answers.{reason}
use Rattle.scan.specs.Scans.{meaning}
use Rattle.content.specs.Content.{is_tree, tree_at}
use Rattle.content.proofs.Decided.{tree_decided}
use Rattle.service.specs.Service.{Outcome, lines}
use Rattle.agreement.specs.declared.Place.{Place}
use Rattle.agreement.specs.Content.{Proposal}
use Rattle.agreement.specs.Machine.{Msg, Prepare, Promise, Propose, Alive, Accepted, Join, Forward}
use Rattle.wire.specs.Trees.{tree_bytes}
use Rattle.wire.specs.Messages.{front, view_bytes, id_bytes, outcome_byte, seat_bytes, seats_bytes, proposal_bytes, word_bytes, view_at, leader_at, id_at, refused_by, outcome_by, outcome_at, place_at, seated, seats_at, proposed, proposal_at, prepare_at, promise_at, propose_at, alive_at, accepted_at, join_at, forward_at, ours_at, kind_at, word_by}
use Rattle.wire.specs.Laws.{MessageBack}
use Rattle.wire.proofs.MessagesAgain.{seat_split}
use Rattle.wire.proofs.TreesBack.{tree_back}

-- what is read in front of bytes is written as those bytes
Takes : {A : Type 0} → (List ℕ → Option (A × List ℕ)) → (A → List ℕ) → Type 0
Takes {A} f w = (xs : List ℕ) (x : A) (ys : List ℕ) → Bytes xs → f xs ≡ Some (x, ys) → w x ++ ys ≡ xs

number_takes : Takes number_at be8
unfolding Takes
number_takes xs n ys h e = sym (number_back xs n ys h e)

byte_takes : Takes byte_at (λ b. b ∷ [])
unfolding Takes
byte_takes xs b ys h e = sym (byte_back xs b ys e)

flag_takes : Takes flag_at (λ b. flag_written b ∷ [])
unfolding Takes
flag_takes xs b ys h e = sym (flag_back xs b ys e)

-- One reader behind another. ws: the bytes of all that is read; C: those before the ones that are looked at.
module _ {A B : Type 0} (f : List ℕ → Option (A × List ℕ)) (w : A → List ℕ) (t : Takes f w) (xs : List ℕ) where
  then_back : (g : A × List ℕ → Option B) (z : B) (ws : List ℕ) (C : List ℕ → List ℕ) → Bytes xs → and_then (f xs) g ≡ Some z → ((x : A) (ys : List ℕ) → Bytes ys → g (x, ys) ≡ Some z → ws ≡ C (w x ++ ys)) → ws ≡ C xs
  unfolding Takes
  then_back g z ws C small e more =
      let r = then_some (f xs) g z e in
      let is = t xs r.0.0 r.0.1 small r.1 in
      more r.0.0 r.0.1 (behind (w r.0.0) r.0.1 (subst Bytes (sym is) small)) r.2 ∙ ap C is

  -- the last, which is all that is left
  last_back : (g : A → Option B) (z : B) (ws : List ℕ) (C : List ℕ → List ℕ) → Bytes xs → and_then (and_then (f xs) wholly) g ≡ Some z → ((x : A) → g x ≡ Some z → ws ≡ C (w x)) → ws ≡ C xs
  unfolding Takes
  last_back g z ws C small e more =
      let r = then_some (and_then (f xs) wholly) g z e in
      let is = t xs r.0 [] small (whole_back (f xs) r.0 r.1) in
      more r.0 r.2 ∙ ap C (sym (append-nil (w r.0)) ∙ is)

-- what was read at the end
pub read_as : {A : Type 0} (a c : A) (P : A → Type 0) → ◌≡◌ {A = Option A} (Some a) (Some c) → P a → P c
read_as a c P e p = let is : a ≡ c = cc in subst P is p

read_with : {A : Type 0} (a c : A) (b d : List ℕ) (P : A → List ℕ → Type 0) → ◌≡◌ {A = Option (A × List ℕ)} (Some (a, b)) (Some (c, d)) → P a b → P c d
read_with a c b d P e p = let is = some_parts a c b d e in subst (λ y. P c y) is.1 (subst (λ x. P x b) is.0 p)

passed : {A : Type 0} (b : Bool) (x : Option A) (z : A) → cond b x None ≡ Some z → (b ≡ true) × (x ≡ Some z)
passed true x z e = (refl, e)
passed false x z e = nothing z e

-- VIEWS AND IDS
view_takes : (all : ℕ) → Takes (view_at all) view_bytes
unfolding Takes
view_takes all xs v ys small e =
    let W = view_bytes v ++ ys in
    then_back number_at be8 number_takes xs (λ n. leader_at all n.0 n.1) (v, ys) W (λ l. l) small e
    (λ n as' s e2. then_back byte_at (λ b. b ∷ []) byte_takes as' (λ l. cond (ltb l.0 all) (and_then (number_at l.1) (λ x. Some (record { number = n; leader = l.0; incarnation = x.0 }, x.1))) None) (v, ys) W (λ l. be8 n ++ l) s e2
    (λ l bs s2 e3. then_back number_at be8 number_takes bs (λ x. Some (record { number = n; leader = l; incarnation = x.0 }, x.1)) (v, ys) W (λ m. be8 n ++ (l ∷ m)) s2 (passed (ltb l all) _ (v, ys) e3).1
    (λ x cs s3 e4. read_with (record { number = n; leader = l; incarnation = x }) v cs ys (λ u zs. view_bytes u ++ zs ≡ be8 n ++ (l ∷ (be8 x ++ cs))) e4 (append_assoc (be8 n) (l ∷ be8 x) cs))))

id_takes : (all : ℕ) → Takes (id_at all) id_bytes
unfolding Takes
id_takes all xs d ys small e =
    let W = id_bytes d ++ ys in
    then_back (view_at all) view_bytes (view_takes all) xs (λ v. and_then (number_at v.1) (λ n. Some (record { view = v.0; seq = n.0 }, n.1))) (d, ys) W (λ l. l) small e
    (λ v as' s e2. then_back number_at be8 number_takes as' (λ n. Some (record { view = v; seq = n.0 }, n.1)) (d, ys) W (λ l. view_bytes v ++ l) s e2
    (λ n bs s2 e3. read_with (record { view = v; seq = n }) d bs ys (λ u zs. id_bytes u ++ zs ≡ view_bytes v ++ (be8 n ++ bs)) e3 (append_assoc (view_bytes v) (be8 n) bs)))

-- OUTCOMES: one of a list of bytes
one_of : {A : Type 0} (w : A → ℕ) (b n : ℕ) (x : A) (others : Option A) (k : A) → w x ≡ n → (others ≡ Some k → w k ≡ b) → cond (eqb b n) (Some x) others ≡ Some k → w k ≡ b
one_of w b n x others k is more e =
    ⊎_elim (λ t. read_as x k (λ y. w y ≡ b) t.1 (is ∙ sym (eqb-true b n t.0))) (λ f. more f.1) (cond_some (eqb b n) (Some x) others k e)

pub refused_back : (b : ℕ) (k : Refusal) → refused_by b ≡ Some k → 1 + reason k ≡ b
refused_back b k =
    let w : Refusal → ℕ = λ r. 1 + reason r in
    one_of w b 2 OutOfRange _ k refl (one_of w b 3 NotThere _ k refl (one_of w b 4 AlreadyThere _ k refl (one_of w b 5 OtherVersion _ k refl (one_of w b 6 HasKids _ k refl
    (one_of w b 7 NoSession _ k refl (one_of w b 8 UnderSession _ k refl (one_of w b 9 UsedUp _ k refl (one_of w b 10 Full None k refl (λ e. nothing k e)))))))))

outcome_back : (b : ℕ) (k : Option Outcome) → outcome_by b ≡ Some k → outcome_byte k ≡ b
outcome_back b k =
    one_of outcome_byte b 0 None _ k refl (one_of outcome_byte b 1 (Some (Ok tt)) _ k refl
    (λ e. let r = then_some (refused_by b) (λ k. Some (Some (Err k))) k e in read_as (Some (Err r.0)) k (λ y. outcome_byte y ≡ b) r.2 (refused_back b r.0 r.1)))

outcome_takes : Takes outcome_at (λ k. outcome_byte k ∷ [])
unfolding Takes
outcome_takes xs k ys small e =
    then_back byte_at (λ b. b ∷ []) byte_takes xs (λ b. and_then (outcome_by b.0) (λ k. Some (k, b.1))) (k, ys) (outcome_byte k ∷ ys) (λ l. l) small e
    (λ b as' s e2.
    let r = then_some (outcome_by b) (λ k. Some (k, as')) (k, ys) e2 in
    read_with r.0 k as' ys (λ y zs. outcome_byte y ∷ zs ≡ b ∷ as') r.2 (ap (λ (c : ℕ). c ∷ as') (outcome_back b r.0 r.1)))

-- SEATS
place_takes : Takes place_at (λ q. be8 q.incarnation ++ be8 q.no)
unfolding Takes
place_takes xs q ys small e =
    let W = (be8 q.incarnation ++ be8 q.no) ++ ys in
    then_back number_at be8 number_takes xs (λ x. and_then (number_at x.1) (λ n. Some (record { incarnation = x.0; no = n.0 }, n.1))) (q, ys) W (λ l. l) small e
    (λ x as' s e2. then_back number_at be8 number_takes as' (λ n. Some (record { incarnation = x; no = n.0 }, n.1)) (q, ys) W (λ l. be8 x ++ l) s e2
    (λ n bs s2 e3. read_with (record { incarnation = x; no = n }) q bs ys (λ u zs. (be8 u.incarnation ++ be8 u.no) ++ zs ≡ be8 x ++ (be8 n ++ bs)) e3 (append_assoc (be8 x) (be8 n) bs)))

seats_takes : (n : ℕ) → Takes (seats_at n) (λ s. seats_bytes s.places s.outcomes)
unfolding Takes seats_at seats_bytes
seats_takes zero xs s ys small e = read_with (record { places = []; outcomes = [] }) s xs ys (λ u zs. seats_bytes u.places u.outcomes ++ zs ≡ xs) e refl
seats_takes (suc n) xs s ys small e =
    let W = seats_bytes s.places s.outcomes ++ ys in
    let w : Place → List ℕ = λ q. be8 q.incarnation ++ be8 q.no in
    then_back place_at w place_takes xs (λ q. and_then (outcome_at q.1) (λ k. and_then (seats_at n k.1) (λ s. Some (seated q.0 k.0 s.0, s.1)))) (s, ys) W (λ l. l) small e
    (λ q as' sm e2. then_back outcome_at (λ k. outcome_byte k ∷ []) outcome_takes as' (λ k. and_then (seats_at n k.1) (λ s. Some (seated q k.0 s.0, s.1))) (s, ys) W (λ l. w q ++ l) sm e2
    (λ k bs sm2 e3. then_back (seats_at n) (λ s. seats_bytes s.places s.outcomes) (seats_takes n) bs (λ s. Some (seated q k s.0, s.1)) (s, ys) W (λ l. w q ++ (outcome_byte k ∷ l)) sm2 e3
    (λ u cs sm3 e4. read_with (seated q k u) s cs ys (λ v zs. seats_bytes v.places v.outcomes ++ zs ≡ w q ++ (outcome_byte k ∷ (seats_bytes u.places u.outcomes ++ cs))) e4
    (append_assoc (seat_bytes q k) (seats_bytes u.places u.outcomes) cs ∙ seat_split q k (seats_bytes u.places u.outcomes ++ cs) ∙ sym (append_assoc (be8 q.incarnation) (be8 q.no) (outcome_byte k ∷ (seats_bytes u.places u.outcomes ++ cs)))))))

-- PROPOSALS
pub tree_takes : (room : ℕ) (xs : List ℕ) (t : State) → Bytes xs → tree_at room xs ≡ Some t → tree_bytes t ≡ xs
tree_takes room xs t small e =
    let p = passed (is_tree room xs) (Some (meaning xs)) t e in
    read_as (meaning xs) t (λ y. tree_bytes y ≡ xs) p.1 (tree_back room xs small ((tree_decided room xs).0 p.0))

proposal_back : (room all : ℕ) (xs : List ℕ) (p : Proposal (lines room)) → Bytes xs → proposal_at room all xs ≡ Some p → proposal_bytes room p ≡ xs
proposal_back room all xs p small e =
    let W = proposal_bytes room p in
    then_back (id_at all) id_bytes (id_takes all) xs (λ d. and_then (seats_at 7 d.1) (λ s. and_then (tree_at room s.1) (λ t. Some (proposed room d.0 s.0 t)))) p W (λ l. l) small e
    (λ d as' sm e2. then_back (seats_at 7) (λ s. seats_bytes s.places s.outcomes) (seats_takes 7) as' (λ s. and_then (tree_at room s.1) (λ t. Some (proposed room d s.0 t))) p W (λ l. id_bytes d ++ l) sm e2
    (λ s bs sm2 e3.
    let r = then_some (tree_at room bs) (λ t. Some (proposed room d s t)) p e3 in
    read_as (proposed room d s r.0) p (λ y. proposal_bytes room y ≡ id_bytes d ++ (seats_bytes s.places s.outcomes ++ bs)) r.2
    (append_assoc (id_bytes d) (seats_bytes s.places s.outcomes) (tree_bytes r.0) ∙ ap (λ (l : List ℕ). id_bytes d ++ (seats_bytes s.places s.outcomes ++ l)) (tree_takes room bs r.0 sm2 r.1))))

-- EACH KIND
module _ (room all : ℕ) (bs : List ℕ) (w : Msg (lines room)) (small : Bytes bs) where
  prepare_back : prepare_at room all bs ≡ Some w → word_bytes room w ≡ front 1 bs
  unfolding word_bytes
  prepare_back e = last_back (view_at all) view_bytes (view_takes all) bs (λ v. Some (Prepare v)) w (word_bytes room w) (front 1) small e (λ v e2. read_as (Prepare v) w (λ y. word_bytes room y ≡ front 1 (view_bytes v)) e2 refl)

  promise_back : promise_at room all bs ≡ Some w → word_bytes room w ≡ front 2 bs
  unfolding word_bytes
  promise_back e =
      then_back (view_at all) view_bytes (view_takes all) bs (λ v. and_then (number_at v.1) (λ x. and_then (proposal_at room all x.1) (λ p. Some (Promise v.0 x.0 p)))) w (word_bytes room w) (front 2) small e
      (λ v as' s e2. then_back number_at be8 number_takes as' (λ x. and_then (proposal_at room all x.1) (λ p. Some (Promise v x.0 p))) w (word_bytes room w) (λ l. front 2 (view_bytes v ++ l)) s e2
      (λ x cs s2 e3.
      let r = then_some (proposal_at room all cs) (λ p. Some (Promise v x p)) w e3 in
      read_as (Promise v x r.0) w (λ y. word_bytes room y ≡ front 2 (view_bytes v ++ (be8 x ++ cs))) r.2 (ap (λ (l : List ℕ). front 2 (view_bytes v ++ (be8 x ++ l))) (proposal_back room all cs r.0 s2 r.1))))

  propose_back : propose_at room all bs ≡ Some w → word_bytes room w ≡ front 3 bs
  unfolding word_bytes
  propose_back e =
      then_back flag_at (λ b. flag_written b ∷ []) flag_takes bs (λ c. and_then (proposal_at room all c.1) (λ p. Some (Propose p c.0))) w (word_bytes room w) (front 3) small e
      (λ c as' s e2.
      let r = then_some (proposal_at room all as') (λ p. Some (Propose p c)) w e2 in
      read_as (Propose r.0 c) w (λ y. word_bytes room y ≡ front 3 (flag_written c ∷ as')) r.2 (ap (λ (l : List ℕ). front 3 (flag_written c ∷ l)) (proposal_back room all as' r.0 s r.1)))

  alive_back : alive_at room all bs ≡ Some w → word_bytes room w ≡ front 4 bs
  unfolding word_bytes
  alive_back e =
      then_back (id_at all) id_bytes (id_takes all) bs (λ d. and_then (flag_at d.1) (λ c. and_then (and_then (number_at c.1) wholly) (λ x. Some (Alive d.0 c.0 x)))) w (word_bytes room w) (front 4) small e
      (λ d as' s e2. then_back flag_at (λ b. flag_written b ∷ []) flag_takes as' (λ c. and_then (and_then (number_at c.1) wholly) (λ x. Some (Alive d c.0 x))) w (word_bytes room w) (λ l. front 4 (id_bytes d ++ l)) s e2
      (λ c cs s2 e3. last_back number_at be8 number_takes cs (λ x. Some (Alive d c x)) w (word_bytes room w) (λ l. front 4 (id_bytes d ++ (flag_written c ∷ l))) s2 e3
      (λ x e4. read_as (Alive d c x) w (λ y. word_bytes room y ≡ front 4 (id_bytes d ++ (flag_written c ∷ be8 x))) e4 refl)))

  accepted_back : accepted_at room all bs ≡ Some w → word_bytes room w ≡ front 5 bs
  unfolding word_bytes
  accepted_back e =
      then_back (id_at all) id_bytes (id_takes all) bs (λ d. and_then (and_then (number_at d.1) wholly) (λ x. Some (Accepted d.0 x))) w (word_bytes room w) (front 5) small e
      (λ d as' s e2. last_back number_at be8 number_takes as' (λ x. Some (Accepted d x)) w (word_bytes room w) (λ l. front 5 (id_bytes d ++ l)) s e2
      (λ x e3. read_as (Accepted d x) w (λ y. word_bytes room y ≡ front 5 (id_bytes d ++ be8 x)) e3 refl))

  join_back : join_at room bs ≡ Some w → word_bytes room w ≡ front 6 bs
  unfolding word_bytes
  join_back e =
      then_back number_at be8 number_takes bs (λ x. and_then (and_then (number_at x.1) wholly) (λ y. Some (Join (record { incarnation = x.0; replaces = y })))) w (word_bytes room w) (front 6) small e
      (λ x as' s e2. last_back number_at be8 number_takes as' (λ y. Some (Join (record { incarnation = x; replaces = y }))) w (word_bytes room w) (λ l. front 6 (be8 x ++ l)) s e2
      (λ y e3. read_as (Join (record { incarnation = x; replaces = y })) w (λ u. word_bytes room u ≡ front 6 (be8 x ++ be8 y)) e3 refl))

  forward_back : forward_at room bs ≡ Some w → word_bytes room w ≡ front 7 bs
  unfolding word_bytes
  forward_back e =
      then_back number_at be8 number_takes bs (λ x. and_then (number_at x.1) (λ n. and_then (number_at n.1) (λ k. Some (Forward (record { incarnation = x.0; no = n.0; number = k.0; call = k.1 }))))) w (word_bytes room w) (front 7) small e
      (λ x as' s e2. then_back number_at be8 number_takes as' (λ n. and_then (number_at n.1) (λ k. Some (Forward (record { incarnation = x; no = n.0; number = k.0; call = k.1 })))) w (word_bytes room w) (λ l. front 7 (be8 x ++ l)) s e2
      (λ n cs s2 e3. then_back number_at be8 number_takes cs (λ k. Some (Forward (record { incarnation = x; no = n; number = k.0; call = k.1 }))) w (word_bytes room w) (λ l. front 7 (be8 x ++ (be8 n ++ l))) s2 e3
      (λ k ds s3 e4. read_as (Forward (record { incarnation = x; no = n; number = k; call = ds })) w (λ u. word_bytes room u ≡ front 7 (be8 x ++ (be8 n ++ (be8 k ++ ds)))) e4 refl)))

-- THE FRONT
ours_back : (xs ys : List ℕ) → Bytes xs → ours_at xs ≡ Some ys → 0 ∷ (be8 0 ++ ys) ≡ xs
ours_back xs ys small e =
    then_back byte_at (λ b. b ∷ []) byte_takes xs (λ f. cond (eqb f.0 0) (and_then (number_at f.1) (λ n. cond (eqb n.0 0) (Some n.1) None)) None) ys (0 ∷ (be8 0 ++ ys)) (λ l. l) small e
    (λ f as' s e2.
    let p = passed (eqb f 0) (and_then (number_at as') (λ n. cond (eqb n.0 0) (Some n.1) None)) ys e2 in
    then_back number_at be8 number_takes as' (λ n. cond (eqb n.0 0) (Some n.1) None) ys (0 ∷ (be8 0 ++ ys)) (λ l. f ∷ l) s p.1
    (λ n bs s2 e3.
    let q = passed (eqb n 0) (Some bs) ys e3 in
    read_as bs ys (λ zs. 0 ∷ (be8 0 ++ zs) ≡ f ∷ (be8 n ++ bs)) q.1 (λ i. sym (eqb-true f 0 p.0) i ∷ (be8 (sym (eqb-true n 0 q.0) i) ++ bs))))

kind_back : (xs : List ℕ) (k : ℕ) (ys : List ℕ) → Bytes xs → kind_at xs ≡ Some (k, ys) → front k ys ≡ xs
kind_back xs k ys small e =
    let r = then_some (ours_at xs) byte_at (k, ys) e in
    ap (λ (l : List ℕ). 0 ∷ (be8 0 ++ l)) (sym (byte_back r.0 k ys r.2)) ∙ ours_back xs r.0 small r.1

by_kind : {A : Type 0} (b n : ℕ) (x y : Option A) (z : A) (P : ℕ → Type 0) → (x ≡ Some z → P n) → (y ≡ Some z → P b) → cond (eqb b n) x y ≡ Some z → P b
by_kind b n x y z P yes' more e = ⊎_elim (λ t. subst P (sym (eqb-true b n t.0)) (yes' t.1)) (λ f. more f.1) (cond_some (eqb b n) x y z e)

word_back : (room all k : ℕ) (bs : List ℕ) (w : Msg (lines room)) → Bytes bs → word_by room all k bs ≡ Some w → word_bytes room w ≡ front k bs
word_back room all k bs w s =
    let P : ℕ → Type 0 = λ n. word_bytes room w ≡ front n bs in
    by_kind k 1 (prepare_at room all bs) _ w P (prepare_back room all bs w s) (by_kind k 2 (promise_at room all bs) _ w P (promise_back room all bs w s) (by_kind k 3 (propose_at room all bs) _ w P (propose_back room all bs w s)
    (by_kind k 4 (alive_at room all bs) _ w P (alive_back room all bs w s) (by_kind k 5 (accepted_at room all bs) _ w P (accepted_back room all bs w s) (by_kind k 6 (join_at room bs) _ w P (join_back room all bs w s)
    (by_kind k 7 (forward_at room bs) None w P (forward_back room all bs w s) (λ e. nothing w e)))))))

pub message_back : MessageBack
message_back room all bytes w small e =
    let r = then_some (kind_at bytes) (λ k. word_by room all k.0 k.1) w e in
    let is = kind_back bytes r.0.0 r.0.1 small r.1 in
    let rest = behind (0 ∷ (be8 0 ++ (r.0.0 ∷ []))) r.0.1 (subst Bytes (sym (is) ∙ ap (λ (l : List ℕ). 0 ∷ l) (sym (append_assoc (be8 0) (r.0.0 ∷ []) r.0.1))) small) in
    word_back room all r.0.0 r.0.1 w rest r.2 ∙ is
