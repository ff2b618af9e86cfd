-- THE INVARIANT: what holds of every replica and of every letter, over the history of what was done. No replica keeps the history; that there is one is what is proved.
-- It stands in parts, each with the event that could break it.
use Rattle.std.proofs.Common.{◌≡◌, ℕ, suc, ◌+◌, ◌*◌, ◌<◌, ◌≤◌, Bool, true, false, ◌⊎◌, List, [], ◌∷◌, length, get_or, Some, None, Option, refl, inr, arith}
use Rattle.std.proofs.lemmas.Bool.Decides.{nat_tests}
use Rattle.runs.specs.Replicas.{Letter, Does, Says, Gives, Whole'}
use Rattle.agreement.specs.declared.View.{View}
use Rattle.agreement.specs.declared.Role.{Role}
use Rattle.agreement.specs.declared.Joining.{Joining}
use Rattle.agreement.specs.Facts.{World, Chosen, at_first, by_votes, Welcome}
use Rattle.agreement.specs.Content.{Service, Proposal, limit, rank, id_of, view_of, leader_of, inc_of, place_at, roster, FitView}
use Rattle.agreement.specs.Log.{Event, draws, asks, ask_of, makes, votes, pledges, At, age_in, top, pledge_of, vote_of, made_of, world, Ok}
use Rattle.agreement.specs.Machine.{Msg, Prepare, Promise, Propose, Alive, Accepted, Join, Forward, is_member, is_candidate, is_leader, Forwarded, Waiting, Mind, accepted}
use Rattle.agreement.proofs.Age.{age_stays}
use Rattle.agreement.proofs.History.{made_stays, chosen_stays}

-- whose doing a thing is
abbrev pub by_replica : {sv : Service} → Event sv → ℕ
by_replica (draws s x) = s
by_replica (asks s x k n o) = s
by_replica (makes p) = leader_of (view_of p)
by_replica (votes s x p) = s
by_replica (pledges s x v p) = s

-- CANDIDATE of its own view: it has made nothing of it, and holds as much as each that promised it reported. A promise that comes could break it.
pub record Candid {sv : Service} (all : ℕ) (h : List (Event sv)) (i : ℕ) (x v : ℕ) (p : Proposal sv) (vs : List (Option ℕ)) : Type 0 where
  pub leader : leader_of v ≡ i
  pub inc : inc_of v ≡ x
  pub none : top (made_of i x) h ≤ v * 18446744073709551616
  pub before : view_of p < v
  pub got : (s y : ℕ) → get_or vs s None ≡ Some y → (r : Proposal sv) × (world all h).Pledge s y v r × (id_of r ≤ id_of p)

-- LEADER of its own view: what it holds is the last that it made, and each vote that it counted was given. Its next proposal, and a vote that comes, could break it.
pub record Leading {sv : Service} (all : ℕ) (h : List (Event sv)) (i : ℕ) (x v : ℕ) (p : Proposal sv) (vs : List (Option ℕ)) : Type 0 where
  pub leader : leader_of v ≡ i
  pub inc : inc_of v ≡ x
  pub now : rank p.id.view ≡ v
  pub last : top (made_of i x) h ≤ suc (id_of p)
  pub acked : (s y : ℕ) → get_or vs s None ≡ Some y → (t : ℕ) × At h t (votes s y p)

-- MEMBER: it was welcomed by a chosen proposal that names it, at or below what it holds; it promised no more than it knows, voted for no more than it holds, made nothing above its view.
-- A promise, a vote or a proposal of its own could break it; nothing that others do.
pub record Member {sv : Service} (all : ℕ) (h : List (Event sv)) (i : ℕ) (x v : ℕ) (p : Proposal sv) : Type 0 where
  pub welcome : Welcome (world all h) (length h) i x p
  pub view : view_of p ≤ v
  pub pledged : top (pledge_of i x) h ≤ v
  pub voted : top (vote_of i x) h ≤ id_of p
  pub mine : top (made_of i x) h ≤ suc v * 18446744073709551616

-- RECOVERING: it has promised, voted for and made nothing. A vote before it is welcomed could break it.
pub record Outsider {sv : Service} (h : List (Event sv)) (i x : ℕ) : Type 0 where
  pub pledged : top (pledge_of i x) h ≡ 0
  pub voted : top (vote_of i x) h ≡ 0
  pub mine : top (made_of i x) h ≡ 0

-- WHO IT IS: the youngest incarnation of its replica. Only its waking anew could break it, and then it is another.
pub record Self {sv : Service} (all : ℕ) (h : List (Event sv)) (i j n x : ℕ) : Type 0 where
  pub me : j ≡ i
  pub all' : n ≡ all
  pub here : i < all
  pub few : all ≤ 7
  pub fits : x < limit
  pub drawn : 0 < age_in h i x
  pub latest : (y : ℕ) → age_in h i y ≤ age_in h i x

-- ANSWERED so far: k calls of x at i. Unless it is none, there is a chosen proposal that names x and counts as many calls of it, at or below what is held. An answer could break it, and holding something lower.
pub data AnsweredTo {sv : Service} (all : ℕ) (h : List (Event sv)) (i x k : ℕ) (p : Proposal sv) : Type 0 where
  unanswered : k ≡ 0 → AnsweredTo all h i x k p
  answered_by : (w : Proposal sv) → Chosen (world all h) (length h) w → roster w i ≡ x → k ≤ (place_at w i).no → id_of w ≤ id_of p → AnsweredTo all h i x k p

pub answered_up : {sv : Service} {all : ℕ} {h : List (Event sv)} {i x k : ℕ} {p : Proposal sv} (q : Proposal sv) → AnsweredTo all h i x k p → id_of p ≤ id_of q → AnsweredTo all h i x k q
answered_up q (unanswered e) le = unanswered e
answered_up q (answered_by w c n g l) le = answered_by w c n g (omega arith)

-- A VOTER, by its fields: what it holds was made, and is chosen where it says so. Whatever it takes, adopts or learns could break it.
pub record Holds {sv : Service} (all : ℕ) (h : List (Event sv)) (i : ℕ) (j n x : ℕ) (r : Role) (v : View) (p : Proposal sv) (c : Bool) (vs : List (Option ℕ)) (k : ℕ) : Type 0 where
  pub who : Self all h i j n x
  pub fits : FitView all v
  pub made : (world all h).Made p
  pub known : c ≡ true → Chosen (world all h) (length h) p
  pub inside : is_member r ≡ true → Member all h i x (rank v) p
  pub outside : is_member r ≡ false → Outsider h i x
  pub stands : is_candidate r ≡ true → Candid all h i x (rank v) p vs
  pub leads : is_leader r ≡ true → Leading all h i x (rank v) p vs
  pub answered : AnsweredTo all h i x k p

abbrev pub VoterInv : {sv : Service} → (all : ℕ) → List (Event sv) → ℕ → Mind sv → Type 0
VoterInv all h i m = Holds all h i m.agreement.me m.agreement.all m.agreement.incarnation m.agreement.role m.agreement.promised (accepted m) m.agreement.chosen m.agreement.votes m.agreement.no

-- A JOIN: who joins is not older than the one in whose place it comes. No event breaks it: who says so is the youngest of its replica.
pub record JoinOk {sv : Service} (h : List (Event sv)) (j : ℕ) (q : Joining) : Type 0 where
  pub was : 0 < age_in h j q.replaces
  pub younger : age_in h j q.replaces ≤ age_in h j q.incarnation
  pub fits : q.incarnation < limit
  pub fits0 : q.replaces < limit

-- a call that x of the replica j asks for as its k-th: it came in there, as that
abbrev pub AskedAs : {sv : Service} → List (Event sv) → (j x k n : ℕ) → sv.O → Type 0
AskedAs h j x k n o = (t : ℕ) × At h t (asks j x k n o)

-- calls that wait are asked for from the k-th on, and their numbers fit
abbrev pub Lined : {sv : Service} → List (Event sv) → (i x k : ℕ) → List (Waiting sv) → Type 0
Lined h i x k [] = Unit {0}
Lined h i x k (t ∷ ts) = (t.number < limit) × AskedAs h i x k t.number t.call × Lined h i x (suc k) ts

-- JOBS AND CALLS of x at i. joins, calls: what a leader has was asked for; a letter that comes could break it. job, turn: replicas that there are.
-- waits: what waits is numbered from the last answer on; an answer could break it. last: no more was asked than waits or was answered; a call that comes in could.
pub record JobsInv {sv : Service} (all : ℕ) (h : List (Event sv)) (i x : ℕ) (qs : List (Option Joining)) (o : Option ℕ) (t n : ℕ) (ts : List (Waiting sv)) (cs : List (Option (Forwarded sv))) : Type 0 where
  pub joins : (j : ℕ) (q : Joining) → get_or qs j None ≡ Some q → JoinOk h j q
  pub calls : (j : ℕ) (a : Forwarded sv) → get_or cs j None ≡ Some a → AskedAs h j a.incarnation a.no a.number a.call
  pub job : (j : ℕ) → o ≡ Some j → j < all
  pub turn : t < all
  pub waits : Lined h i x (suc n) ts
  pub last : top (ask_of i x) h ≤ n + length ts

abbrev pub QueueInv : {sv : Service} → (all : ℕ) → List (Event sv) → ℕ → Mind sv → Type 0
QueueInv all h i m = JobsInv all h i m.agreement.incarnation m.agreement.joins m.agreement.job m.agreement.turn m.agreement.no m.waiting m.calls

abbrev pub MindInv : {sv : Service} → (all : ℕ) → List (Event sv) → ℕ → Mind sv → Type 0
MindInv all h i m = VoterInv all h i m × QueueInv all h i m

-- LETTERS: what a message of j to i tells is so, and stays so whatever happens
abbrev pub WordInv : {sv : Service} → (all : ℕ) → List (Event sv) → (by to : ℕ) → Msg sv → Type 0
WordInv all h j i (Prepare v) = FitView all v
WordInv all h j i (Promise v x p) = FitView all v × (x < limit) × (world all h).Pledge j x (rank v) p
WordInv all h j i (Propose p c) = (world all h).Made p × (c ≡ true → Chosen (world all h) (length h) p)
WordInv {sv} all h j i (Alive d c x) = (0 < age_in h i x) × (x < limit) × (p : Proposal sv) × (p.id ≡ d) × (world all h).Made p × (c ≡ true → Chosen (world all h) (length h) p)
WordInv {sv} all h j i (Accepted d x) = (x < limit) × (p : Proposal sv) × (p.id ≡ d) × (t : ℕ) × At h t (votes j x p)
WordInv all h j i (Join q) = JoinOk h j q
WordInv all h j i (Forward a) = (a.incarnation < limit) × (a.no < limit) × (a.number < limit) × AskedAs h j a.incarnation a.no a.number a.call

-- another replica that there is
abbrev pub Other : (all i j : ℕ) → Type 0
Other all i j = (j < all) × (j ≡ i → ⊥)

abbrev pub LetterInv : {sv : Service} → (all : ℕ) → List (Event sv) → Letter (Msg sv) → Type 0
LetterInv all h l = (l.by < all) × Other all l.by l.to × WordInv all h l.by l.to l.word

-- ANSWERS. r is made of the proposal p for the call o of the replica i: a read from the state, a write from what was kept of it
abbrev pub Replied : {sv : Service} → Proposal sv → (i : ℕ) → sv.O → sv.R → Type 0
Replied {sv} p i o r = ((sv.is_read o ≡ true) × (r ≡ sv.clerk.reply o p.content.state)) ⊎ ((sv.is_read o ≡ false) × (k : sv.K) × (get_or p.content.outcomes i None ≡ Some k) × (r ≡ sv.say o k))

-- the call of the number n at the replica i is answered by r: from a chosen proposal, in which the place of i names who asked and says that this call, its k-th, was the last that was done
pub record Answered {sv : Service} (all : ℕ) (h : List (Event sv)) (i n : ℕ) (r : sv.R) : Type 0 where
  pub from : Proposal sv
  pub inc : ℕ
  pub call : sv.O
  pub chosen : Chosen (world all h) (length h) from
  pub named : roster from i ≡ inc
  pub asked : AskedAs h i inc (place_at from i).no n call
  pub reply : Replied from i call r

-- whatever a replica says is said to another, and is so; and whatever it answers was agreed on
abbrev pub Well : {sv : Service} → (all : ℕ) → List (Event sv) → ℕ → List (Does (Msg sv) sv.R) → Type 0
Well all h i [] = Unit {0}
Well all h i (Says j w ∷ ds) = Other all i j × WordInv all h i j w × Well all h i ds
Well all h i (Gives n r ∷ ds) = Answered all h i n r × Well all h i ds
Well all h i (Whole' ∷ ds) = Well all h i ds

-- more time
pub chosen_later : {w : World} {t u : ℕ} {p : w.P} → t ≤ u → Chosen w t p → Chosen w u p
chosen_later le at_first = at_first
chosen_later le (by_votes m q) = by_votes m (record { who = q.who; most = q.most; each = λ s e. let v = q.each s e in (v.0, omega (arith, v.1), v.2) })

module _ {sv : Service} (all : ℕ) (h : List (Event sv)) (e : Event sv) (k : Ok all h e) where
  pub chosen_now : (p : Proposal sv) → Chosen (world all h) (length h) p → Chosen (world all (e ∷ h)) (length (e ∷ h)) p
  chosen_now p c = chosen_later (omega arith) (chosen_stays all h e k (length h) p c)

  pub answered_now : (s x n : ℕ) (p : Proposal sv) → AnsweredTo all h s x n p → AnsweredTo all (e ∷ h) s x n p
  answered_now s x n p (unanswered z) = unanswered z
  answered_now s x n p (answered_by w c r g l) = answered_by w (chosen_now w c) r g l

  pub welcome_now : (s x : ℕ) (p : Proposal sv) → Welcome (world all h) (length h) s x p → Welcome (world all (e ∷ h)) (length (e ∷ h)) s x p
  welcome_now s x p w = record { by = w.by; chosen = chosen_now w.by w.chosen; named = w.named; below = w.below }

  pub join_stays : (j : ℕ) (q : Joining) → JoinOk h j q → JoinOk (e ∷ h) j q
  join_stays j q a =
      let n = age_stays all h e k j q.replaces a.was in let y = age_stays all h e k j q.incarnation (omega (arith, a.was, a.younger)) in
      record { was = omega (arith, a.was); younger = omega (arith, a.younger); fits = a.fits; fits0 = a.fits0 }

  lined_stays : (i x n : ℕ) (ts : List (Waiting sv)) → Lined h i x n ts → Lined (e ∷ h) i x n ts
  lined_stays i x n [] v = tt
  lined_stays i x n (t ∷ ts) (f, (u, a), v) = (f, (u, inr a), lined_stays i x (suc n) ts v)

  pub jobs_stay : (i x : ℕ) (qs : List (Option Joining)) (o : Option ℕ) (t n : ℕ) (ts : List (Waiting sv)) (cs : List (Option (Forwarded sv))) → ask_of i x e ≡ 0 → JobsInv all h i x qs o t n ts cs → JobsInv all (e ∷ h) i x qs o t n ts cs
  jobs_stay i x qs o t n ts cs z v =
      record { joins = λ j q a. join_stays j q (v.joins j q a); calls = λ j a b. let u = v.calls j a b in (u.0, inr u.1); job = v.job; turn = v.turn; waits = lined_stays i x (suc n) ts v.waits; last = omega (arith, z, v.last) }

  answered_stays : (i n : ℕ) (r : sv.R) → Answered all h i n r → Answered all (e ∷ h) i n r
  answered_stays i n r a = record { from = a.from; inc = a.inc; call = a.call; chosen = chosen_now a.from a.chosen; named = a.named; asked = (a.asked.0, inr a.asked.1); reply = a.reply }

  pub word_stays : (j i : ℕ) (w : Msg sv) → WordInv all h j i w → WordInv all (e ∷ h) j i w
  word_stays j i (Prepare v) a = a
  word_stays j i (Promise v x p) (f, g, (t, a)) = (f, g, (t, inr a))
  word_stays j i (Propose p c) a = (made_stays all h e k p a.0, λ t. chosen_now p (a.1 t))
  word_stays j i (Alive d c x) (z, f, p, q, m, y) = (omega (arith, age_stays all h e k i x z, z), f, p, q, made_stays all h e k p m, λ t. chosen_now p (y t))
  word_stays j i (Accepted d x) (f, p, q, t, a) = (f, p, q, t, inr a)
  word_stays j i (Join q) a = join_stays j q a
  word_stays j i (Forward w) (f, g, z, (t, a)) = (f, g, z, (t, inr a))

  pub well_stays : (i : ℕ) (ds : List (Does (Msg sv) sv.R)) → Well all h i ds → Well all (e ∷ h) i ds
  well_stays i [] a = tt
  well_stays i (Says j w ∷ ds) (o, a, b) = (o, word_stays i j w a, well_stays i ds b)
  well_stays i (Gives n r ∷ ds) (b, a) = (answered_stays i n r b, well_stays i ds a)
  well_stays i (Whole' ∷ ds) a = well_stays i ds a

-- what another replica does changes nothing of a replica
pub age_other : {sv : Service} (h : List (Event sv)) (e : Event sv) (i x : ℕ) → (by_replica e ≡ i → ⊥) → age_in (e ∷ h) i x ≡ age_in h i x
age_other h (draws s y) i x n = grind (arith, nat_tests)
age_other h (asks s y k m o) i x n = refl
age_other h (makes p) i x n = refl
age_other h (votes s y p) i x n = refl
age_other h (pledges s y v p) i x n = refl

pub pledge_other : {sv : Service} (e : Event sv) (i x : ℕ) → (by_replica e ≡ i → ⊥) → pledge_of i x e ≡ 0
pledge_other (draws s y) i x n = refl
pledge_other (asks s y k m o) i x n = refl
pledge_other (makes p) i x n = refl
pledge_other (votes s y p) i x n = refl
pledge_other (pledges s y v p) i x n = grind (arith, nat_tests)

pub vote_other : {sv : Service} (e : Event sv) (i x : ℕ) → (by_replica e ≡ i → ⊥) → vote_of i x e ≡ 0
vote_other (draws s y) i x n = refl
vote_other (asks s y k m o) i x n = refl
vote_other (makes p) i x n = refl
vote_other (votes s y p) i x n = grind (arith, nat_tests)
vote_other (pledges s y v p) i x n = refl

pub made_other : {sv : Service} (e : Event sv) (i x : ℕ) → (by_replica e ≡ i → ⊥) → made_of i x e ≡ 0
made_other (draws s y) i x n = refl
made_other (asks s y k m o) i x n = refl
made_other (makes p) i x n = grind (arith, nat_tests)
made_other (votes s y p) i x n = refl
made_other (pledges s y v p) i x n = refl

pub ask_other : {sv : Service} (e : Event sv) (i x : ℕ) → (by_replica e ≡ i → ⊥) → ask_of i x e ≡ 0
ask_other (draws s y) i x n = refl
ask_other (asks s y k m o) i x n = grind (arith, nat_tests)
ask_other (makes p) i x n = refl
ask_other (votes s y p) i x n = refl
ask_other (pledges s y v p) i x n = refl

-- a thing that changes nothing of what the replica i has drawn, promised, voted for and made
pub record Untouched {sv : Service} (h : List (Event sv)) (e : Event sv) (i : ℕ) : Type 0 where
  pub age : (x : ℕ) → age_in (e ∷ h) i x ≡ age_in h i x
  pub pledge : (x : ℕ) → pledge_of i x e ≡ 0
  pub vote : (x : ℕ) → vote_of i x e ≡ 0
  pub make : (x : ℕ) → made_of i x e ≡ 0

pub by_others : {sv : Service} (h : List (Event sv)) (e : Event sv) (i : ℕ) → (by_replica e ≡ i → ⊥) → Untouched h e i
by_others h e i n = record { age = λ x. age_other h e i x n; pledge = λ x. pledge_other e i x n; vote = λ x. vote_other e i x n; make = λ x. made_other e i x n }

pub by_asking : {sv : Service} (h : List (Event sv)) (i j x k n : ℕ) (o : sv.O) → Untouched h (asks j x k n o) i
by_asking h i j x k n o = record { age = λ x. refl; pledge = λ x. refl; vote = λ x. refl; make = λ x. refl }

module _ {sv : Service} (all : ℕ) (h : List (Event sv)) (e : Event sv) (k : Ok all h e) (i : ℕ) (n : Untouched h e i) where
  self_stays : (j c x : ℕ) → Self all h i j c x → Self all (e ∷ h) i j c x
  self_stays j c x v =
      record { me = v.me; all' = v.all'; here = v.here; few = v.few; fits = v.fits; drawn = omega (arith, n.age x, v.drawn); latest = λ y. omega (arith, n.age x, n.age y, v.latest y) }

  candid_stays : (x v : ℕ) (p : Proposal sv) (vs : List (Option ℕ)) → Candid all h i x v p vs → Candid all (e ∷ h) i x v p vs
  candid_stays x v p vs c =
      record { leader = c.leader; inc = c.inc; none = omega (arith, n.make x, c.none); before = c.before; got = λ s y t. let a = c.got s y t in (a.0, (a.1.0, inr a.1.1), a.2) }

  leading_stays : (x v : ℕ) (p : Proposal sv) (vs : List (Option ℕ)) → Leading all h i x v p vs → Leading all (e ∷ h) i x v p vs
  leading_stays x v p vs c =
      record { leader = c.leader; inc = c.inc; now = c.now; last = omega (arith, n.make x, c.last); acked = λ s y t. let a = c.acked s y t in (a.0, inr a.1) }

  member_stays : (x v : ℕ) (p : Proposal sv) → Member all h i x v p → Member all (e ∷ h) i x v p
  member_stays x v p u =
      record {
        welcome = welcome_now all h e k i x p u.welcome;
        view = u.view;
        pledged = omega (arith, n.pledge x, u.pledged);
        voted = omega (arith, n.vote x, u.voted);
        mine = omega (arith, n.make x, u.mine);
      }

  outsider_stays : (x : ℕ) → Outsider h i x → Outsider (e ∷ h) i x
  outsider_stays x v = record { pledged = omega (arith, n.pledge x, v.pledged); voted = omega (arith, n.vote x, v.voted); mine = omega (arith, n.make x, v.mine) }

  pub voter_stays : (m : Mind sv) → VoterInv all h i m → VoterInv all (e ∷ h) i m
  voter_stays m v =
      record {
        who = self_stays m.agreement.me m.agreement.all m.agreement.incarnation v.who;
        fits = v.fits;
        made = made_stays all h e k (accepted m) v.made;
        known = λ t. chosen_now all h e k (accepted m) (v.known t);
        inside = λ t. member_stays m.agreement.incarnation (rank m.agreement.promised) (accepted m) (v.inside t);
        outside = λ t. outsider_stays m.agreement.incarnation (v.outside t);
        stands = λ t. candid_stays m.agreement.incarnation (rank m.agreement.promised) (accepted m) m.agreement.votes (v.stands t);
        leads = λ t. leading_stays m.agreement.incarnation (rank m.agreement.promised) (accepted m) m.agreement.votes (v.leads t);
        answered = answered_now all h e k i m.agreement.incarnation m.agreement.no (accepted m) v.answered;
      }

pub queue_stays : {sv : Service} (all : ℕ) (h : List (Event sv)) (e : Event sv) → Ok all h e → (i : ℕ) (m : Mind sv) → ask_of i m.agreement.incarnation e ≡ 0 → QueueInv all h i m → QueueInv all (e ∷ h) i m
queue_stays all h e k i m z v = jobs_stay all h e k i m.agreement.incarnation m.agreement.joins m.agreement.job m.agreement.turn m.agreement.no m.waiting m.calls z v

-- what another replica does leaves a mind as it is
pub mind_stays : {sv : Service} (all : ℕ) (h : List (Event sv)) (e : Event sv) → Ok all h e → (i : ℕ) → (by_replica e ≡ i → ⊥) → (m : Mind sv) → MindInv all h i m → MindInv all (e ∷ h) i m
mind_stays all h e k i n m v = (voter_stays all h e k i (by_others h e i n) m v.0, queue_stays all h e k i m (ask_other e i m.agreement.incarnation n) v.1)
