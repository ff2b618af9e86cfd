-- From what is chosen to a trace: the proposals that were passed, from the first of all up to one that is chosen, each made of the one before (Parent); every write on the way is a move of the trace.
-- Which proposals are known to be chosen is noticed late; so a replica that answers first lets the trace climb to the proposal that it answers from.
use Rattle.std.proofs.Common.{◌≡◌, ℕ, zero, suc, ◌<◌, ◌≤◌, Bool, true, false, cond, eqb, ◌⊎◌, List, [], ◌∷◌, ◌++◌, length, get_or, set, Some, None, sym, refl, ap, ◌∙◌, subst, inl, inr, ⊎_elim, arith}
use Rattle.std.proofs.lemmas.List.{get_or-set_other, get_or-set_same}
use mathlib.Core.List.Memᴰ
use mathlib.Core.List.{Memᴰ}
use Rattle.std.proofs.lemmas.Bool.{cond_both, cases_lt, cases_eq, cases_Bool, true≢false, false≢true, or_cases, eqb-true}
use Rattle.agreement.specs.declared.Place.{Place}
use Rattle.agreement.specs.Facts.{Quorum, Origin, is_root, is_next, is_first}
use Rattle.agreement.specs.Content.{Service, Content, Proposal, id_of, view_of, root, fresh_place, place_in, place_at, roster, called, joined, Change, copied, by_call, by_join}
use Rattle.agreement.specs.Log.{Event, asks, At, age_in, world, Ok, Log, goes_on, Step, CallAsked}
use Rattle.agreement.specs.Agree.{IsChosen}
use Rattle.agreement.proofs.Age.{age_one, ask_top, used_at}
use Rattle.agreement.proofs.Ranks.{rank_first}
use Rattle.agreement.proofs.Seven.{get_seven}
use Rattle.agreement.proofs.History.{made_stays, asked_stays, step_stays, quorum_stays, origin, once, facts, made_fits}
use Rattle.agreement.proofs.Heart.{first_above}
use Rattle.agreement.proofs.Moves.{chosen_made}
use Rattle.agreement.proofs.Trace.{Tick, Asked, Moved, Gave, AtOnce, state_of, seen_of, was_moved, Tail, whole, later, Trace, moves}

-- A CALL IS KNOWN by its place among its incarnation's calls, and by its number
module _ {sv : Service} (all : ℕ) where
  pub ask_once : (h : List (Event sv)) → Log all h → (t u s x k n m : ℕ) (o p : sv.O) → At h t (asks s x k n o) → At h u (asks s x k m p) → (n ≡ m) × (o ≡ p)
  ask_once [] l t u s x k n m o p a b = absurd a
  ask_once (e ∷ h) (goes_on l g) t u s x k n m o p (inl (q, a)) (inl (q', b)) = let z : ◌≡◌ {A = Event sv} (asks s x k n o) (asks s x k m p) = a ∙ sym b in (cc, cc)
  ask_once (e ∷ h) (goes_on l g) t u s x k n m o p (inl (q, a)) (inr b) = absurd (omega (arith, (subst (Ok all h) (sym a) g).next, ask_top h u s x k m p b))
  ask_once (e ∷ h) (goes_on l g) t u s x k n m o p (inr a) (inl (q, b)) = absurd (omega (arith, (subst (Ok all h) (sym b) g).next, ask_top h t s x k n o a))
  ask_once (e ∷ h) (goes_on l g) t u s x k n m o p (inr a) (inr b) = ask_once h l t u s x k n m o p a b

  pub number_once : (h : List (Event sv)) → Log all h → (t u s r x y k j n : ℕ) (o p : sv.O) → At h t (asks s x k n o) → At h u (asks r y j n p) → (s ≡ r) × (x ≡ y) × (k ≡ j)
  number_once [] l t u s r x y k j n o p a b = absurd a
  number_once (e ∷ h) (goes_on l g) t u s r x y k j n o p (inl (q, a)) (inl (q', b)) = let z : ◌≡◌ {A = Event sv} (asks s x k n o) (asks r y j n p) = a ∙ sym b in (cc, cc, cc)
  number_once (e ∷ h) (goes_on l g) t u s r x y k j n o p (inl (q, a)) (inr b) = absurd (true≢false (sym (used_at h u r y j n p b) ∙ (subst (Ok all h) (sym a) g).new))
  number_once (e ∷ h) (goes_on l g) t u s r x y k j n o p (inr a) (inl (q, b)) = absurd (true≢false (sym (used_at h t s x k n o a) ∙ (subst (Ok all h) (sym b) g).new))
  number_once (e ∷ h) (goes_on l g) t u s r x y k j n o p (inr a) (inr b) = number_once h l t u s r x y k j n o p a b

  pub ask_positive : (h : List (Event sv)) → Log all h → (t s x k n : ℕ) (o : sv.O) → At h t (asks s x k n o) → 0 < k
  ask_positive [] l t s x k n o a = absurd a
  ask_positive (e ∷ h) (goes_on l g) t s x k n o (inl (q, a)) = omega (arith, (subst (Ok all h) (sym a) g).next)
  ask_positive (e ∷ h) (goes_on l g) t s x k n o (inr a) = ask_positive h l t s x k n o a

-- PARENTS: p was made of q, as the next of its view or as the first of a view
pub data Parent {sv : Service} (all : ℕ) (h : List (Event sv)) (q p : Proposal sv) : Type 0 where
  next' : (world all h).Made q → Step h q p → id_of p ≡ suc (id_of q) → Parent all h q p
  first' : (world all h).Made q → Step h q p → view_of q < view_of p → ((c : Proposal sv) → id_of c < id_of p → view_of c < view_of p) → Quorum all (λ s. (r : Proposal sv) × (world all h).Pledge s (roster q s) (view_of p) r × (id_of r ≤ id_of q)) → Parent all h q p

module _ {sv : Service} (all : ℕ) (h : List (Event sv)) where
  pub step_of : {q p : Proposal sv} → Parent all h q p → Step h q p
  step_of (next' m s e) = s
  step_of (first' m s v l z) = s

  pub parent_made : {q p : Proposal sv} → Parent all h q p → (world all h).Made q
  parent_made (next' m s e) = m
  parent_made (first' m s v l z) = m

  pub parent_lower : {q p : Proposal sv} → Parent all h q p → id_of q < id_of p
  parent_lower (next' m s e) = omega arith
  parent_lower (first' m s v l z) = omega arith

  pub parent_of : Log all h → (p : Proposal sv) → (world all h).Made p → (p ≡ root sv) ⊎ ((q : Proposal sv) × Parent all h q p)
  parent_of lg p m = go (origin all h lg p m)
    where
      go : Origin (world all h) p → (p ≡ root sv) ⊎ ((q : Proposal sv) × Parent all h q p)
      go (is_root e) = inl e
      go (is_next q a c f v i) = inr (q, next' a f i)
      go (is_first q a f v l z) = inr (q, first' a f v l z)

  -- nothing that is chosen lies between
  pub parent_above : Log all h → {q p : Proposal sv} → Parent all h q p → (c : Proposal sv) → IsChosen all h c → id_of c < id_of p → id_of c ≤ id_of q
  parent_above lg (next' m s e) c k lt = omega arith
  parent_above lg {q} {p} (first' m s v l z) c k lt = first_above (world all h) (facts all h lg) p q m v l z (length h) c k lt

pub parent_stays : {sv : Service} (all : ℕ) (h : List (Event sv)) (e : Event sv) → Ok all h e → {q p : Proposal sv} → Parent all h q p → Parent all (e ∷ h) q p
parent_stays all h e k {q} {p} (next' m s i) = next' (made_stays all h e k q m) (step_stays all h e k q p s) i
parent_stays all h e k {q} {p} (first' m s v l z) = first' (made_stays all h e k q m) (step_stays all h e k q p s) v l (quorum_stays all h e k (λ s a. (a.0, (a.1.0, inr a.1.1), a.2)) z)

-- the way from w up to p
pub data Chain {sv : Service} (all : ℕ) (h : List (Event sv)) (w : Proposal sv) : Proposal sv → Type 0 where
  here' : Chain all h w w
  up : {q p : Proposal sv} → Chain all h w q → (world all h).Made p → Parent all h q p → Chain all h w p

module _ {sv : Service} (all : ℕ) (h : List (Event sv)) (lg : Log all h) (w : Proposal sv) (c : IsChosen all h w) where
  same_chain : (p : Proposal sv) → (world all h).Made p → id_of w ≤ id_of p → id_of p ≤ id_of w → Chain all h w p
  same_chain p m lo hi = subst (Chain all h w) (once all h lg w p (chosen_made h c) m (omega arith)) here'

  chain_below : (n : ℕ) (p : Proposal sv) → id_of p ≤ n → (world all h).Made p → id_of w ≤ id_of p → Chain all h w p
  chain_below zero p le m lo = same_chain p m lo (omega arith)
  chain_below (suc n) p le m lo = go (chain_below n) (cases_lt (id_of w) (id_of p)) (parent_of all h lg p m)
    where
      go : ((q : Proposal sv) → id_of q ≤ n → (world all h).Made q → id_of w ≤ id_of q → Chain all h w q) → (id_of w < id_of p) ⊎ (id_of p ≤ id_of w) → (p ≡ root sv) ⊎ ((q : Proposal sv) × Parent all h q p) → Chain all h w p
      go ih (inr o) r = same_chain p m lo o
      go ih (inl o) (inl e) = absurd (omega (arith, rank_first, ap (λ (z : Proposal sv). id_of z) e))
      go ih (inl o) (inr (q, par)) = up (ih q (omega (arith, parent_lower all h par)) (parent_made all h par) (parent_above all h lg par w c o)) m par

  pub chain_to : (p : Proposal sv) → (world all h).Made p → id_of w ≤ id_of p → Chain all h w p
  chain_to p m lo = chain_below (id_of p) p (omega arith) m lo

-- MOVES. A write moves the trace; copies, joins and reads do not
abbrev pub ticks_of : (sv : Service) {c d : Content sv} → Change c d → List (Tick sv.O sv.R)
ticks_of sv copied = []
ticks_of sv (by_call j n o) = cond (sv.is_read o) [] (Moved j n o ∷ [])
ticks_of sv (by_join j x) = []

-- what clients see of a trace
abbrev pub Visible : {O R : Type 0} → Tick O R → Type 0
Visible (Asked i k o) = Unit {0}
Visible (Moved i k o) = ⊥
Visible (Gave i k r) = Unit {0}
Visible (AtOnce i k o r) = Unit {0}

-- the call that is done came in before
abbrev pub AskedIn : {sv : Service} → List (Tick sv.O sv.R) → {c d : Content sv} → Change c d → Type 0
AskedIn l copied = Unit {0}
AskedIn l (by_call j n o) = Memᴰ (Asked j n o) l
AskedIn l (by_join j x) = Unit {0}

-- the trace climbed along ps, newest first
pub data Climbs {sv : Service} (all : ℕ) (h : List (Event sv)) : List (Tick sv.O sv.R) → List (Proposal sv) → Type 0 where
  at_root : Climbs all h [] (root sv ∷ [])
  passes : {tr : List (Tick sv.O sv.R)} {ps : List (Proposal sv)} (x : Tick sv.O sv.R) → Visible x → Climbs all h tr ps → Climbs all h (x ∷ tr) ps
  climbs : {tr : List (Tick sv.O sv.R)} {q p : Proposal sv} {ps : List (Proposal sv)} → (world all h).Made p → Parent all h q p → (g : Change q.content p.content) → CallAsked h q g → AskedIn tr g → Climbs all h tr (q ∷ ps) → Climbs all h (ticks_of sv g ++ tr) (p ∷ q ∷ ps)

pub climbs_stay : {sv : Service} (all : ℕ) (h : List (Event sv)) (e : Event sv) → Ok all h e → {tr : List (Tick sv.O sv.R)} {ps : List (Proposal sv)} → Climbs all h tr ps → Climbs all (e ∷ h) tr ps
climbs_stay all h e k at_root = at_root
climbs_stay all h e k (passes x v c) = passes x v (climbs_stay all h e k c)
climbs_stay all h e k (climbs {q = q} {p = p} m par g a b c) = climbs (made_stays all h e k p m) (parent_stays all h e k par) g (asked_stays all h e k q g a) b (climbs_stay all h e k c)

-- the state of the trace is that of the proposal
call_state : (sv : Service) (j n : ℕ) (o : sv.O) (c x y : Content sv) (l : List (Tick sv.O sv.R)) (b : Bool) → x.state ≡ c.state → y.state ≡ sv.clerk.next o c.state → state_of sv.clerk l ≡ c.state → state_of sv.clerk (cond b [] (Moved j n o ∷ []) ++ l) ≡ (cond b x y).state
call_state sv j n o c x y l true ex ey e = e ∙ sym ex
call_state sv j n o c x y l false ex ey e = ap (sv.clerk.next o) e ∙ sym ey

change_state : (sv : Service) {c d : Content sv} (g : Change c d) (l : List (Tick sv.O sv.R)) → state_of sv.clerk l ≡ c.state → state_of sv.clerk (ticks_of sv g ++ l) ≡ d.state
change_state sv copied l e = e
change_state sv {c} (by_call j n o) l e = call_state sv j n o c _ _ l (sv.is_read o) refl refl e
change_state sv (by_join j x) l e = e

-- the highest of a list
abbrev pub top_of : {sv : Service} → List (Proposal sv) → Proposal sv
top_of {sv} [] = root sv
top_of (p ∷ ps) = p

module _ {sv : Service} (all : ℕ) (h : List (Event sv)) where
  pub climb_state : {tr : List (Tick sv.O sv.R)} {ps : List (Proposal sv)} → Climbs all h tr ps → state_of sv.clerk tr ≡ (top_of ps).content.state
  climb_state at_root = refl
  climb_state (passes (Asked i k o) v c) = climb_state c
  climb_state (passes (Moved i k o) v c) = absurd v
  climb_state (passes (Gave i k r) v c) = climb_state c
  climb_state (passes (AtOnce i k o r) v c) = climb_state c
  climb_state (climbs {tr = l} m par g a b c) = change_state sv g l (climb_state c)

-- WHAT A STEP DID. A number that was moved by a step is that of its call
abbrev MovedHere : {sv : Service} {c d : Content sv} → Change c d → ℕ → Type 0
MovedHere copied n = ⊥
MovedHere (by_call j m o) n = n ≡ m
MovedHere (by_join j x) n = ⊥

moved_by : (sv : Service) {c d : Content sv} (g : Change c d) (l : List (Tick sv.O sv.R)) (n : ℕ) → was_moved n (ticks_of sv g ++ l) ≡ true → (was_moved n l ≡ true) ⊎ MovedHere g n
moved_by sv copied l n e = inl e
moved_by sv (by_call j m o) l n e = go (sv.is_read o) e
  where
    go : (b : Bool) → was_moved n (cond b [] (Moved j m o ∷ []) ++ l) ≡ true → (was_moved n l ≡ true) ⊎ (n ≡ m)
    go true e = inl e
    go false e = ⊎_elim (λ z. inr (eqb-true n m z)) inl (or_cases (eqb n m) (was_moved n l) e)
moved_by sv (by_join j x) l n e = inl e

-- the place of j after a call of j
pub called_place : {sv : Service} (j : ℕ) (o : sv.O) (c : Content sv) → j < length c.places → place_in (called j o c) j ≡ record { incarnation = (place_in c j).incarnation; no = suc (place_in c j).no }
called_place {sv} j o c lt = cond_both (sv.is_read o) _ _ (λ (d : Content sv). place_in d j ≡ record { incarnation = (place_in c j).incarnation; no = suc (place_in c j).no }) (λ _. get_or-set_same c.places j _ _ lt) (λ _. get_or-set_same c.places j _ _ lt)

module _ {sv : Service} (all : ℕ) (h : List (Event sv)) (lg : Log all h) (some : 0 < all) where
  -- a call that was moved is counted where the trace is now
  abbrev Counted : Proposal sv → ℕ → Type 0
  Counted w n = (j x k t : ℕ) (o : sv.O) → At h t (asks j x k n o) → (age_in h j x ≤ age_in h j (roster w j)) × (roster w j ≡ x → k ≤ (place_at w j).no)

  here_counted : (q : Proposal sv) {d : Content sv} (g : Change q.content d) → CallAsked h q g → length q.content.places ≡ 7 → (n : ℕ) → MovedHere g n → (j x k t : ℕ) (o : sv.O) → At h t (asks j x k n o) → (x ≡ (place_in d j).incarnation) × (k ≡ (place_in d j).no)
  here_counted q copied a z n e j x k t o b = absurd e
  here_counted q (by_call i m p) (lt, u, a) z n e j x k t o b = same' (number_once all h lg t u j i x (roster q i) k (suc (place_at q i).no) m o p (rw e at b) a)
    where
      same' : (j ≡ i) × (x ≡ roster q i) × (k ≡ suc (place_at q i).no) → (x ≡ (place_in (called i p q.content) j).incarnation) × (k ≡ (place_in (called i p q.content) j).no)
      same' (ej, ex, ek) = rw (ej, called_place i p q.content (omega arith)) (ex, ek)
  here_counted q (by_join i y) a z n e j x k t o b = absurd e

  pub counted : {tr : List (Tick sv.O sv.R)} {ps : List (Proposal sv)} → Climbs all h tr ps → (n : ℕ) → was_moved n tr ≡ true → Counted (top_of ps) n
  counted at_root n e = absurd (false≢true e)
  counted (passes (Asked i k o) v c) n e = counted c n e
  counted (passes (Moved i k o) v c) n e = absurd v
  counted (passes (Gave i k r) v c) n e = counted c n e
  counted (passes (AtOnce i k o r) v c) n e = counted c n e
  counted (climbs {tr = l} {q = q} {p = p} m par g a b c) n e = go (moved_by sv g l n e) (counted c n)
    where
      st : Step h q p
      st = step_of all h par

      go : (was_moved n l ≡ true) ⊎ MovedHere g n → (was_moved n l ≡ true → Counted q n) → Counted p n
      go (inr z) ih j x k t o b = let y = here_counted q g a (made_fits all some h lg q (parent_made all h par)).arrays.0 n z j x k t o b in (omega (arith, ap (age_in h j) y.0), λ _. omega (arith, y.1))
      go (inl z) ih j x k t o b = let y = ih z j x k t o b in (omega (arith, y.0, st.younger j), λ r. rose y r)
        where
          rose : (age_in h j x ≤ age_in h j (roster q j)) × (roster q j ≡ x → k ≤ (place_at q j).no) → roster p j ≡ x → k ≤ (place_at p j).no
          rose y r = let w : roster q j ≡ roster p j = age_one h j (roster q j) (roster p j) (st.drawn j) (omega (arith, y.0, st.younger j, ap (age_in h j) r)) in omega (arith, y.1 (w ∙ r), st.rises j w)

  -- WHAT IS CHOSEN WAS PASSED, up to where the trace is
  pub chosen_passed : {tr : List (Tick sv.O sv.R)} {ps : List (Proposal sv)} → Climbs all h tr ps → (c : Proposal sv) → IsChosen all h c → id_of c ≤ id_of (top_of ps) → Memᴰ c ps
  chosen_passed at_root c k le = Memᴰ.head (once all h lg c (root sv) (chosen_made h k) (inl refl) (omega (arith, rank_first)))
  chosen_passed (passes x v d) c k le = chosen_passed d c k le
  chosen_passed (climbs {q = q} {p = p} {ps = rs} m par g a b d) c k le = go (chosen_passed d c k) (cases_lt (id_of c) (id_of p))
    where
      go : (id_of c ≤ id_of q → Memᴰ c (q ∷ rs)) → (id_of c < id_of p) ⊎ (id_of p ≤ id_of c) → Memᴰ c (p ∷ q ∷ rs)
      go ih (inl lt) = Memᴰ.tail (ih (parent_above all h lg par c k lt))
      go ih (inr ge) = Memᴰ.head (once all h lg c p (chosen_made h k) m (omega arith))

-- TAILS of a trace
pub tail_trans : {A : Type 0} {a b c : List A} → Tail a b → Tail b c → Tail a c
tail_trans t whole = t
tail_trans t (later u) = later (tail_trans t u)

pub tail_in : {A : Type 0} {a b : List A} {x : A} → Tail a b → Memᴰ x a → Memᴰ x b
tail_in whole d = d
tail_in (later t) d = Memᴰ.tail (tail_in t d)

tail_ticks : (sv : Service) {c d : Content sv} (g : Change c d) (l : List (Tick sv.O sv.R)) → Tail l (ticks_of sv g ++ l)
tail_ticks sv copied l = whole
tail_ticks sv (by_call j n o) l = cond_both (sv.is_read o) _ _ (λ (xs : List (Tick sv.O sv.R)). Tail l (xs ++ l)) (λ _. whole) (λ _. later whole)
tail_ticks sv (by_join j x) l = whole

seen_ticks : (sv : Service) {c d : Content sv} (g : Change c d) (l : List (Tick sv.O sv.R)) → seen_of (ticks_of sv g ++ l) ≡ seen_of l
seen_ticks sv copied l = refl
seen_ticks sv (by_call j n o) l = cond_both (sv.is_read o) _ _ (λ (xs : List (Tick sv.O sv.R)). seen_of (xs ++ l) ≡ seen_of l) (λ _. refl) (λ _. refl)
seen_ticks sv (by_join j x) l = refl

-- the trace as it was when p was passed
pub record Passed {sv : Service} (all : ℕ) (h : List (Event sv)) (tr : List (Tick sv.O sv.R)) (p : Proposal sv) : Type 0 where
  pub then : List (Tick sv.O sv.R)
  pub rest : List (Proposal sv)
  pub tail : Tail then tr
  pub climbed : Climbs all h then (p ∷ rest)

pub passed_at : {sv : Service} (all : ℕ) (h : List (Event sv)) {tr : List (Tick sv.O sv.R)} {ps : List (Proposal sv)} → Climbs all h tr ps → (p : Proposal sv) → Memᴰ p ps → Passed all h tr p
passed_at {sv} all h at_root p d = ⊎_elim (λ e. record { then = []; rest = []; tail = whole; climbed = rw e at_root }) (λ z. absurd (Memᴰ.not-nil z)) (Memᴰ.cases_cons d)
passed_at all h (passes x v c) p d = let r = passed_at all h c p d in record { then = r.then; rest = r.rest; tail = later r.tail; climbed = r.climbed }
passed_at {sv} all h (climbs {tr = l} {q = q} {p = y} {ps = rs} m par g a b c) p d = go (passed_at all h c p) (Memᴰ.cases_cons d)
  where
    go : (Memᴰ p (q ∷ rs) → Passed all h l p) → (p ≡ y) ⊎ Memᴰ p (q ∷ rs) → Passed all h (ticks_of sv g ++ l) p
    go ih (inl e) = record { then = ticks_of sv g ++ l; rest = q ∷ rs; tail = whole; climbed = subst (λ (z : Proposal sv). Climbs all h (ticks_of sv g ++ l) (z ∷ q ∷ rs)) (sym e) (climbs m par g a b c) }
    go ih (inr z) = let r = ih z in record { then = r.then; rest = r.rest; tail = tail_trans r.tail (tail_ticks sv g l); climbed = r.climbed }

-- THE LAST CALL of the replica i that is counted in a content c: it came in before, and if it is a write, it was moved, and what is kept of it is of the state before
pub record Done {sv : Service} (h : List (Event sv)) (c : Content sv) (i : ℕ) (tr : List (Tick sv.O sv.R)) : Type 0 where
  pub number : ℕ
  pub call : sv.O
  pub time : ℕ
  pub asks' : At h time (asks i (place_in c i).incarnation (place_in c i).no number call)
  pub asked' : Memᴰ (Asked i number call) tr
  pub wrote' : sv.is_read call ≡ false → (b : List (Tick sv.O sv.R)) × Tail (Moved i number call ∷ b) tr × (get_or c.outcomes i None ≡ Some (sv.keep call (state_of sv.clerk b)))

pub done_more : {sv : Service} (h : List (Event sv)) (c : Content sv) (i : ℕ) {a b : List (Tick sv.O sv.R)} → Tail a b → Done h c i a → Done h c i b
done_more h c i t r = record { number = r.number; call = r.call; time = r.time; asks' = r.asks'; asked' = tail_in t r.asked'; wrote' = λ e. let w = r.wrote' e in (w.0, tail_trans w.1 t, w.2) }

done_like : {sv : Service} (h : List (Event sv)) (c d : Content sv) (i : ℕ) (l : List (Tick sv.O sv.R)) → place_in d i ≡ place_in c i → get_or d.outcomes i None ≡ get_or c.outcomes i None → Done h c i l → Done h d i l
done_like h c d i l p q r = record { number = r.number; call = r.call; time = r.time; asks' = rw p r.asks'; asked' = r.asked'; wrote' = λ e. let w = r.wrote' e in (w.0, w.1, q ∙ w.2) }

module _ {sv : Service} (h : List (Event sv)) (i : ℕ) (q : Proposal sv) (l : List (Tick sv.O sv.R)) (sev : (length q.content.places ≡ 7) × (length q.content.outcomes ≡ 7)) (st : state_of sv.clerk l ≡ q.content.state) (ih : 0 < (place_at q i).no → Done h q.content i l) where
  -- a call of another replica
  other_call : (j : ℕ) (o : sv.O) → (i ≡ j → ⊥) → (place_in (called j o q.content) i ≡ place_at q i) × (get_or (called j o q.content).outcomes i None ≡ get_or q.content.outcomes i None)
  other_call j o n =
      cond_both (sv.is_read o) _ _ (λ (d : Content sv). (place_in d i ≡ place_at q i) × (get_or d.outcomes i None ≡ get_or q.content.outcomes i None)) (λ _. (get_or-set_other q.content.places j i _ _ n, refl))
      (λ _. (get_or-set_other q.content.places j i _ _ n, get_or-set_other q.content.outcomes j i _ _ n))

  -- a call of this one
  own_call : (n t : ℕ) (o : sv.O) → i < 7 → At h t (asks i (roster q i) (suc (place_at q i).no) n o) → Memᴰ (Asked i n o) l → Done h (called i o q.content) i (cond (sv.is_read o) [] (Moved i n o ∷ []) ++ l)
  own_call n t o small a b =
      record {
        number = n;
        call = o;
        time = t;
        asks' = rw (called_place i o q.content (omega (arith, sev.0))) a;
        asked' = tail_in (tail_ticks sv {c = q.content} (by_call i n o) l) b;
        wrote' = λ f. (l, moved (sv.is_read o) f, kept f);
      }
    where
      moved : (r : Bool) → r ≡ false → Tail (Moved i n o ∷ l) (cond r [] (Moved i n o ∷ []) ++ l)
      moved true f = absurd (true≢false f)
      moved false f = whole

      -- what is kept of a write is of the state before
      kept : sv.is_read o ≡ false → get_or (called i o q.content).outcomes i None ≡ Some (sv.keep o (state_of sv.clerk l))
      kept =
          cond_both (sv.is_read o) _ _ (λ (d : Content sv). sv.is_read o ≡ false → get_or d.outcomes i None ≡ Some (sv.keep o (state_of sv.clerk l))) (λ e f. absurd (true≢false (sym e ∙ f)))
          (λ _ _. get_or-set_same q.content.outcomes i _ None (omega (arith, sev.1)) ∙ ap (λ (z : sv.clerk.State). Some (sv.keep o z)) (sym st))

  done_by : {d : Content sv} (g : Change q.content d) → i < 7 → CallAsked h q g → AskedIn l g → 0 < (place_in d i).no → Done h d i (ticks_of sv g ++ l)
  done_by copied small a b lt = ih lt
  done_by (by_join j x) small a b lt = go (cases_eq i j)
    where
      go : (i ≡ j) ⊎ (i ≡ j → ⊥) → Done h (joined j x q.content) i l
      go (inr n) = done_like h q.content (joined j x q.content) i l (get_or-set_other q.content.places j i _ _ n) (get_or-set_other q.content.outcomes j i _ _ n) (ih (rw (get_or-set_other q.content.places j i (fresh_place x) (fresh_place 0) n) at lt))
      go (inl e) = absurd (let z : get_or (set q.content.places j (fresh_place x)) i (fresh_place 0) ≡ fresh_place x = subst (λ (y : ℕ). get_or (set q.content.places y (fresh_place x)) i (fresh_place 0) ≡ fresh_place x) e (get_or-set_same q.content.places i (fresh_place x) (fresh_place 0) (omega (arith, sev.0))) in omega (arith, ap (λ (y : Place). y.no) z))
  done_by (by_call j n o) small (_, t, a) b lt = go (cases_eq i j)
    where
      go : (i ≡ j) ⊎ (i ≡ j → ⊥) → Done h (called j o q.content) i (cond (sv.is_read o) [] (Moved j n o ∷ []) ++ l)
      go (inr ne) = done_more h (called j o q.content) i (tail_ticks sv {c = q.content} (by_call j n o) l) (done_like h q.content (called j o q.content) i l (other_call j o ne).0 (other_call j o ne).1 (ih (rw (other_call j o ne).0 at lt)))
      go (inl e) = subst (λ (z : ℕ). Done h (called z o q.content) i (cond (sv.is_read o) [] (Moved z n o ∷ []) ++ l)) e (own_call n t o small (rw (← e) at a) (rw (← e) at b))

module _ {sv : Service} (all : ℕ) (h : List (Event sv)) (lg : Log all h) (some : 0 < all) where
  pub done_at : {tr : List (Tick sv.O sv.R)} {ps : List (Proposal sv)} → Climbs all h tr ps → (i : ℕ) → i < 7 → 0 < (place_at (top_of ps) i).no → Done h (top_of ps).content i tr
  done_at at_root i small lt = absurd (let z = ap (λ (y : Place). y.no) (get_seven (fresh_place 0) i) in omega arith)
  done_at (passes x v c) i small lt = done_more h _ i (later whole) (done_at c i small lt)
  done_at (climbs {tr = l} {q = q} m par g a b c) i small lt = done_by h i q l (made_fits all some h lg q (parent_made all h par)).arrays (climb_state all h c) (done_at c i small) g small a b lt

  -- THE TRACE CLIMBS to a proposal above
  trace_step : (q : Proposal sv) (ps : List (Proposal sv)) (l : List (Tick sv.O sv.R)) {d : Content sv} (g : Change q.content d) → CallAsked h q g → AskedIn l g → Climbs all h l (q ∷ ps) → Trace sv.clerk sv.is_read l → Trace sv.clerk sv.is_read (ticks_of sv g ++ l)
  trace_step q ps l copied a b c t = t
  trace_step q ps l (by_call j n o) (_, u, a) b c t = go (sv.is_read o) refl
    where
      -- it was not moved before
      unmoved : was_moved n l ≡ false
      unmoved = ⊎_elim (λ e. absurd (omega (arith, (counted all h lg some c n e j (roster q j) (suc (place_at q j).no) u o a).1 refl))) (λ e. e) (cases_Bool (was_moved n l))

      go : (r : Bool) → sv.is_read o ≡ r → Trace sv.clerk sv.is_read (cond r [] (Moved j n o ∷ []) ++ l)
      go true e = t
      go false e = moves j n o t b e unmoved
  trace_step q ps l (by_join j x) a b c t = t

  -- every call that came in is in the trace
  abbrev pub AllAsked : List (Tick sv.O sv.R) → Type 0
  AllAsked l = (j x k n t : ℕ) (o : sv.O) → At h t (asks j x k n o) → Memᴰ (Asked j n o) l

  asked_in : (l : List (Tick sv.O sv.R)) → AllAsked l → (q : Proposal sv) {d : Content sv} (g : Change q.content d) → CallAsked h q g → AskedIn l g
  asked_in l f q copied a = tt
  asked_in l f q (by_call j n o) (_, u, a) = f j (roster q j) (suc (place_at q j).no) n u o a
  asked_in l f q (by_join j x) a = tt

  pub record Climbed (tr : List (Tick sv.O sv.R)) (p : Proposal sv) : Type 0 where
    pub now : List (Tick sv.O sv.R)
    pub rest : List (Proposal sv)
    pub path : Climbs all h now (p ∷ rest)
    pub trace : Trace sv.clerk sv.is_read now
    pub grew : Tail tr now
    pub seen : seen_of now ≡ seen_of tr

  pub climb_to : (tr : List (Tick sv.O sv.R)) (ps : List (Proposal sv)) {w p : Proposal sv} → AllAsked tr → Climbs all h tr (w ∷ ps) → Trace sv.clerk sv.is_read tr → Chain all h w p → Climbed tr p
  climb_to tr ps f c t here' = record { now = tr; rest = ps; path = c; trace = t; grew = whole; seen = refl }
  climb_to tr ps f c t (up {q = q} {p = p} ch m par) = on (climb_to tr ps f c t ch)
    where
      on : Climbed tr q → Climbed tr p
      on r =
          let g = (step_of all h par).change in let a = (step_of all h par).asked in let b = asked_in r.now (λ j x k n t o e. tail_in r.grew (f j x k n t o e)) q g a in
          record {
            now = ticks_of sv g ++ r.now;
            rest = q ∷ r.rest;
            path = climbs m par g a b r.path;
            trace = trace_step q r.rest r.now g a b r.path r.trace;
            grew = tail_trans r.grew (tail_ticks sv g r.now);
            seen = seen_ticks sv g r.now ∙ r.seen;
          }
