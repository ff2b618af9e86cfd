-- A message that is written is read again as that message: each reader at what its writer wrote. Assumes nothing.
use Rattle.std.proofs.Common.{◌≡◌, ℕ, zero, suc, ◌<◌, Bool, true, cond, ltb, List, [], ◌∷◌, ◌++◌, length, get_or, Some, None, Option, refl, ap, ◌∙◌, append_assoc, arith, Ok, Err}
use Rattle.std.proofs.lemmas.Bool.{lt-ltb}
use Rattle.lent_bytes.specs.Numbers.{be8}
use Rattle.calls.specs.Format.{and_then, byte_at, number_at, flag_at, flag_written, wholly}
use Rattle.calls.proofs.Again.{number_again, flag_again, onward, wholly_again}
use Rattle.tree.specs.declared.refusal.Refusal.TheVariants.{OutOfRange, NotThere, AlreadyThere, OtherVersion, HasKids, NoSession, UnderSession, UsedUp, Full}
use Rattle.content.specs.Content.{tree_at}
use Rattle.service.specs.Service.{Outcome, lines}
use Rattle.agreement.specs.declared.View.{View}
use Rattle.agreement.specs.declared.ProposalId.{ProposalId}
use Rattle.agreement.specs.declared.Place.{Place}
use Rattle.agreement.specs.Content.{Proposal, limit, fresh_place, FitView, FitPlace, FitProposal}
use Rattle.agreement.specs.Machine.{Msg, Prepare, Promise, Propose, Alive, Accepted, Join, Forward}
use Rattle.agreement.specs.Said.{FitId}
use Rattle.wire.specs.Trees.{tree_bytes, Sendable}
use Rattle.wire.specs.Messages.{front, view_bytes, id_bytes, outcome_byte, seat_bytes, seats_bytes, proposal_bytes, word_bytes, view_at, id_at, outcome_at, place_at, seats_at, proposal_at, kind_at, word_by, word_at}
use Rattle.wire.specs.Laws.{MessageAgain}
use Rattle.wire.proofs.TreesAgain.{tree_again}

number : (n : ℕ) (ys : List ℕ) → n < limit → number_at (be8 n ++ ys) ≡ Some (n, ys)
number n ys h = number_again n ys (lt-ltb n 18446744073709551616 h)

-- a number that is all that is left
last_number : (n : ℕ) → n < limit → and_then (number_at (be8 n)) wholly ≡ Some n
last_number n h = wholly_again number_at (be8 n) n (number n [] h)

tested : {A : Type 0} (b : Bool) (x y : Option A) (z : Option A) → b ≡ true → x ≡ z → cond b x y ≡ z
tested b x y z e h = (λ i. cond (e i) x y) ∙ h

-- what was read, and what is read from it
pub then_again : {A B : Type 0} (o : Option A) (g : A → Option B) (x : A) (z : Option B) → o ≡ Some x → g x ≡ z → and_then o g ≡ z
then_again {A} o g x z e h = ap (λ (q : Option A). and_then q g) e ∙ h

view_again : (all : ℕ) (v : View) (ys : List ℕ) → FitView all v → view_at all (view_bytes v ++ ys) ≡ Some (v, ys)
view_again all v ys f =
    let tail = v.leader ∷ (be8 v.incarnation ++ ys) in
    ap (view_at all) (append_assoc (be8 v.number) (v.leader ∷ be8 v.incarnation) ys) ∙
    onward (number_at (be8 v.number ++ tail)) _ v.number tail _ (number v.number tail f.number)
    (tested (ltb v.leader all) _ None _ (lt-ltb v.leader all f.leader)
    (onward (number_at (be8 v.incarnation ++ ys)) _ v.incarnation ys _ (number v.incarnation ys f.incarnation) refl))

id_again : (all : ℕ) (d : ProposalId) (ys : List ℕ) → FitId all d → id_at all (id_bytes d ++ ys) ≡ Some (d, ys)
id_again all d ys f =
    ap (id_at all) (append_assoc (view_bytes d.view) (be8 d.seq) ys) ∙
    onward (view_at all (view_bytes d.view ++ (be8 d.seq ++ ys))) _ d.view (be8 d.seq ++ ys) _ (view_again all d.view (be8 d.seq ++ ys) f.0)
    (onward (number_at (be8 d.seq ++ ys)) _ d.seq ys _ (number d.seq ys f.1) refl)

-- SEATS
outcome_again : (k : Option Outcome) (ys : List ℕ) → outcome_at (outcome_byte k ∷ ys) ≡ Some (k, ys)
outcome_again None ys = refl
outcome_again (Some (Ok u)) ys = refl
outcome_again (Some (Err OutOfRange)) ys = refl
outcome_again (Some (Err NotThere)) ys = refl
outcome_again (Some (Err AlreadyThere)) ys = refl
outcome_again (Some (Err OtherVersion)) ys = refl
outcome_again (Some (Err HasKids)) ys = refl
outcome_again (Some (Err NoSession)) ys = refl
outcome_again (Some (Err UnderSession)) ys = refl
outcome_again (Some (Err UsedUp)) ys = refl
outcome_again (Some (Err Full)) ys = refl

place_again : (q : Place) (ys : List ℕ) → FitPlace q → place_at (be8 q.incarnation ++ (be8 q.no ++ ys)) ≡ Some (q, ys)
place_again q ys f =
    onward (number_at (be8 q.incarnation ++ (be8 q.no ++ ys))) _ q.incarnation (be8 q.no ++ ys) _ (number q.incarnation (be8 q.no ++ ys) f.incarnation)
    (onward (number_at (be8 q.no ++ ys)) _ q.no ys _ (number q.no ys f.no) refl)

pub seat_split : (q : Place) (k : Option Outcome) (ys : List ℕ) → seat_bytes q k ++ ys ≡ be8 q.incarnation ++ (be8 q.no ++ (outcome_byte k ∷ ys))
seat_split q k ys = append_assoc (be8 q.incarnation) (be8 q.no ++ (outcome_byte k ∷ [])) ys ∙ ap (λ (l : List ℕ). be8 q.incarnation ++ l) (append_assoc (be8 q.no) (outcome_byte k ∷ []) ys)

seats_again : (n : ℕ) (qs : List Place) (ks : List (Option Outcome)) (ys : List ℕ) → length qs ≡ n → length ks ≡ n → ((s : ℕ) → FitPlace (get_or qs s (fresh_place 0))) →
    seats_at n (seats_bytes qs ks ++ ys) ≡ Some (record { places = qs; outcomes = ks }, ys)
unfolding seats_at seats_bytes
seats_again zero [] [] ys l m f = refl
seats_again zero [] (k ∷ ks) ys l m f = absurd (omega arith)
seats_again zero (q ∷ qs) ks ys l m f = absurd (omega arith)
seats_again (suc n) [] ks ys l m f = absurd (omega arith)
seats_again (suc n) (q ∷ qs) [] ys l m f = absurd (omega arith)
seats_again (suc n) (q ∷ qs) (k ∷ ks) ys l m f =
    let rest = seats_bytes qs ks ++ ys in
    ap (seats_at (suc n)) (append_assoc (seat_bytes q k) (seats_bytes qs ks) ys ∙ seat_split q k rest) ∙
    onward (place_at (be8 q.incarnation ++ (be8 q.no ++ (outcome_byte k ∷ rest)))) _ q (outcome_byte k ∷ rest) _ (place_again q (outcome_byte k ∷ rest) (f 0))
    (onward (outcome_at (outcome_byte k ∷ rest)) _ k rest _ (outcome_again k rest)
    (onward (seats_at n rest) _ (record { places = qs; outcomes = ks }) ys _ (seats_again n qs ks ys (omega arith) (omega arith) (λ s. f (suc s))) refl))

-- PROPOSALS
module _ (room all : ℕ) where
  proposal_again : (p : Proposal (lines room)) → FitProposal all p → Sendable room p.content.state → proposal_at room all (proposal_bytes room p) ≡ Some p
  proposal_again p f h =
      let qs = p.content.places in
      let ks = p.content.outcomes in
      let tree = tree_bytes p.content.state in
      ap (proposal_at room all) (append_assoc (id_bytes p.id) (seats_bytes qs ks) tree) ∙
      onward (id_at all (id_bytes p.id ++ (seats_bytes qs ks ++ tree))) _ p.id (seats_bytes qs ks ++ tree) _ (id_again all p.id (seats_bytes qs ks ++ tree) (f.view, f.seq))
      (onward (seats_at 7 (seats_bytes qs ks ++ tree)) _ (record { places = qs; outcomes = ks }) tree _ (seats_again 7 qs ks tree f.arrays.0 f.arrays.1 f.places)
      (then_again (tree_at room tree) _ p.content.state _ (tree_again room p.content.state h) refl))

  -- the front of a message
  kind_again : (kind : ℕ) (bs : List ℕ) → kind_at (front kind bs) ≡ Some (kind, bs)
  kind_again kind bs = ap (λ (o : Option (List ℕ)). and_then o byte_at) (onward (number_at (be8 0 ++ (kind ∷ bs))) _ 0 (kind ∷ bs) _ (number 0 (kind ∷ bs) (omega arith)) refl)

  front_again : (kind : ℕ) (bs : List ℕ) (z : Option (Msg (lines room))) → word_by room all kind bs ≡ z → word_at room all (front kind bs) ≡ z
  front_again kind bs z h = then_again (kind_at (front kind bs)) (λ k. word_by room all k.0 k.1) (kind, bs) z (kind_again kind bs) h

-- MESSAGES
pub message_again : MessageAgain
unfolding word_bytes
message_again room all (Prepare v) f h = front_again room all 1 (view_bytes v) _ (then_again (and_then (view_at all (view_bytes v)) wholly) _ v _ (wholly_again (view_at all) (view_bytes v) v (view_again all v [] f)) refl)
message_again room all (Promise v x p) f h =
    let rest = be8 x ++ proposal_bytes room p in
    front_again room all 2 (view_bytes v ++ rest) _
    (onward (view_at all (view_bytes v ++ rest)) _ v rest _ (view_again all v rest f.0)
    (onward (number_at rest) _ x (proposal_bytes room p) _ (number x (proposal_bytes room p) f.1)
    (then_again (proposal_at room all (proposal_bytes room p)) _ p _ (proposal_again room all p f.2 h) refl)))
message_again room all (Propose p c) f h =
    front_again room all 3 (flag_written c ∷ proposal_bytes room p) _
    (onward (flag_at (flag_written c ∷ proposal_bytes room p)) _ c (proposal_bytes room p) _ (flag_again c (proposal_bytes room p))
    (then_again (proposal_at room all (proposal_bytes room p)) _ p _ (proposal_again room all p f h) refl))
message_again room all (Alive d c x) f h =
    front_again room all 4 (id_bytes d ++ (flag_written c ∷ be8 x)) _
    (onward (id_at all (id_bytes d ++ (flag_written c ∷ be8 x))) _ d (flag_written c ∷ be8 x) _ (id_again all d (flag_written c ∷ be8 x) f.0)
    (onward (flag_at (flag_written c ∷ be8 x)) _ c (be8 x) _ (flag_again c (be8 x)) (then_again (and_then (number_at (be8 x)) wholly) _ x _ (last_number x f.1) refl)))
message_again room all (Accepted d x) f h =
    front_again room all 5 (id_bytes d ++ be8 x) _
    (onward (id_at all (id_bytes d ++ be8 x)) _ d (be8 x) _ (id_again all d (be8 x) f.0) (then_again (and_then (number_at (be8 x)) wholly) _ x _ (last_number x f.1) refl))
message_again room all (Join q) f h =
    front_again room all 6 (be8 q.incarnation ++ be8 q.replaces) _
    (onward (number_at (be8 q.incarnation ++ be8 q.replaces)) _ q.incarnation (be8 q.replaces) _ (number q.incarnation (be8 q.replaces) f.0)
    (then_again (and_then (number_at (be8 q.replaces)) wholly) _ q.replaces _ (last_number q.replaces f.1) refl))
message_again room all (Forward a) f h =
    let last = be8 a.number ++ a.call in
    let rest = be8 a.no ++ last in
    front_again room all 7 (be8 a.incarnation ++ rest) _
    (onward (number_at (be8 a.incarnation ++ rest)) _ a.incarnation rest _ (number a.incarnation rest f.0)
    (onward (number_at rest) _ a.no last _ (number a.no last f.1) (onward (number_at last) _ a.number a.call _ (number a.number a.call f.2) refl)))
