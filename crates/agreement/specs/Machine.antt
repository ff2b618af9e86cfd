-- THE MACHINE: what a replica keeps, and what it does at each thing that comes, for any service.
-- Four parts: what is said and kept; the few ways in which a mind changes; moves, which change a mind and say something; and a handler for each thing that comes.
-- At most one new content is made or taken in a turn. Whatever carries a proposal carries the sender's accepted one.
use Rattle.std.specs.Prelude.{ℕ, zero, suc, ◌+◌, ◌-◌, ◌*◌, ◌%◌, Bool, true, false, cond, not, ◌&&◌, ◌||◌, List, [], ◌∷◌, ◌++◌, length, get_or, is_some, Some, None, Option, ◌==◌, nat_le, nat_lt, slice_index_or, slice_set}
use Rattle.std.specs.Option.{option_or}
use Rattle.runs.specs.Replicas.{Comes, Said, Call', Beat, Does, Says, Gives, Whole', Code, how_many}
use Rattle.agreement.specs.declared.View.{View}
use Rattle.agreement.specs.declared.ProposalId.{ProposalId}
use Rattle.agreement.specs.declared.Role.{Role}
use Rattle.agreement.specs.declared.Role.TheVariants.{Recovering, Follower, Candidate, Leader}
use Rattle.agreement.specs.declared.Place.{Place}
use Rattle.agreement.specs.declared.Joining.{Joining}
use Rattle.agreement.specs.declared.Agreement.{Agreement}
use Rattle.agreement.specs.Content.{Service, Content, Proposal, limit, rank, rank_id, id_of, seven, place_at, roster, fresh_place, first_view, first_id, first_content, called, joined}

-- WHAT IS SAID
-- a call of a replica: which incarnation asks, its number among that one's calls, the client's number, the call
pub record Forwarded (sv : Service) : Type 0 where
  pub incarnation : ℕ
  pub no : ℕ
  pub number : ℕ
  pub call : sv.O

pub data Msg (sv : Service) : Type 0 where
  -- promise this view to its leader
  Prepare : View → Msg sv
  -- I accept nothing below this view; this is the highest proposal that I hold
  Promise : View → (incarnation : ℕ) → Proposal sv → Msg sv
  -- accept this; or: this is chosen, hold it
  Propose : Proposal sv → (chosen : Bool) → Msg sv
  -- I still lead, and what I hold has this id; your place names this incarnation
  Alive : ProposalId → (chosen : Bool) → (named : ℕ) → Msg sv
  -- I hold this
  Accepted : ProposalId → (incarnation : ℕ) → Msg sv
  -- write me in
  Join : Joining → Msg sv
  -- do my call
  Forward : Forwarded sv → Msg sv

-- WHAT IS KEPT. A call that came in at this replica and waits
pub record Waiting (sv : Service) : Type 0 where
  pub number : ℕ
  pub call : sv.O

-- agreement: all that is by value. state, outcomes: with the places of `agreement` they are the content of the accepted proposal. waiting: the calls that came in here, oldest first; calls: what others forwarded to this leader, at most one each
pub record Mind (sv : Service) : Type 0 where
  pub agreement : Agreement
  pub state : sv.clerk.State
  pub outcomes : List (Option sv.K)
  pub waiting : List (Waiting sv)
  pub calls : List (Option (Forwarded sv))

abbrev pub content_of : {sv : Service} → Mind sv → Content sv
content_of m = record { places = m.agreement.places; state = m.state; outcomes = m.outcomes }

abbrev pub accepted : {sv : Service} → Mind sv → Proposal sv
accepted m = record { id = m.agreement.accepted; content = content_of m }

abbrev pub is_member : Role → Bool
is_member Recovering = false
is_member Follower = true
is_member Candidate = true
is_member Leader = true

abbrev pub is_candidate : Role → Bool
is_candidate Recovering = false
is_candidate Follower = false
is_candidate Candidate = true
is_candidate Leader = false

abbrev pub is_leader : Role → Bool
is_leader Recovering = false
is_leader Follower = false
is_leader Candidate = false
is_leader Leader = true

-- does the place of a replica name the incarnation x
abbrev pub names : {sv : Service} → (s x : ℕ) → Proposal sv → Bool
names s x p = roster p s == x

-- QUORUM: more than half of the replicas voted by the incarnations that the places name
abbrev pub is_vote : Option ℕ → ℕ → Bool
is_vote None x = false
is_vote (Some y) x = y == x

abbrev pub counts : List (Option ℕ) → List Place → ℕ → Bool
counts vs ps s = is_vote (slice_index_or vs s None) (get_or ps s (fresh_place 0)).incarnation

abbrev pub quorum : (all : ℕ) → List Place → List (Option ℕ) → Bool
quorum n ps vs = nat_lt n (2 * how_many n (counts vs ps))

-- THE WAYS IN WHICH A MIND CHANGES
abbrev pub voting : Role → View → ProposalId → (chosen : Bool) → (votes : List (Option ℕ)) → List Place → Agreement → Agreement
voting r v d c vs ps a =
    record { me = a.me; all = a.all; incarnation = a.incarnation; role = r; promised = v; accepted = d; chosen = c; votes = vs; places = ps; no = a.no; patience = a.patience; heard = a.heard; job = a.job; turn = a.turn; joins = a.joins }

abbrev pub become : {sv : Service} → Role → View → Proposal sv → (chosen : Bool) → (votes : List (Option ℕ)) → Mind sv → Mind sv
become r v p c vs m =
    record { agreement = voting r v p.id c vs p.content.places m.agreement; state = p.content.state; outcomes = p.content.outcomes; waiting = m.waiting; calls = m.calls }

abbrev pub own_vote : Agreement → List (Option ℕ)
own_vote a = slice_set (seven None) a.me (Some a.incarnation)

-- 1. it promises v
abbrev pub promising : {sv : Service} → View → Mind sv → Mind sv
promising v m = become Follower v (accepted m) m.agreement.chosen m.agreement.votes m

-- 2. it stands for the view v, which is its own
abbrev pub standing : {sv : Service} → View → Mind sv → Mind sv
standing v m = become Candidate v (accepted m) m.agreement.chosen (own_vote m.agreement) m

-- 3. a candidate got the promise of x at j, who reports p. The higher of two is held; a report is not known to be chosen
abbrev pub is_higher : {sv : Service} → Proposal sv → Mind sv → Bool
is_higher p m = nat_lt (id_of (accepted m)) (id_of p)

abbrev pub higher : {sv : Service} → Proposal sv → Mind sv → Proposal sv
higher p m = cond (is_higher p m) p (accepted m)

abbrev pub reported : {sv : Service} → (j x : ℕ) → Proposal sv → Mind sv → Mind sv
reported j x p m = become Candidate m.agreement.promised (higher p m) (not (is_higher p m) && m.agreement.chosen) (slice_set m.agreement.votes j (Some x)) m

-- 4. a leader makes p. One replica alone sees at once that it is chosen
abbrev pub alone : {sv : Service} → Proposal sv → Mind sv → Bool
alone p m = quorum m.agreement.all p.content.places (own_vote m.agreement)

abbrev pub making : {sv : Service} → Proposal sv → Mind sv → Mind sv
making p m = become Leader m.agreement.promised p (alone p m) (own_vote m.agreement) m

-- 5. a leader heard that x at j holds accepted
abbrev pub counted : {sv : Service} → (j x : ℕ) → Mind sv → Mind sv
counted j x m = become Leader m.agreement.promised (accepted m) m.agreement.chosen (slice_set m.agreement.votes j (Some x)) m

-- 6. it knows that accepted is chosen
abbrev pub learned : {sv : Service} → Mind sv → Mind sv
learned m = become m.agreement.role m.agreement.promised (accepted m) true m.agreement.votes m

-- 7. it holds p, which may be what it held, and is a member from then on; c: it is told that p is chosen. What is known to be chosen stays so
abbrev pub holding : {sv : Service} → Proposal sv → (c : Bool) → Mind sv → Mind sv
holding p c m = become Follower p.id.view p (c || (id_of p == id_of (accepted m) && m.agreement.chosen)) m.agreement.votes m

-- 8. one that recovers keeps p, without a vote
abbrev pub keeping : {sv : Service} → Proposal sv → Mind sv → Mind sv
keeping p m = become Recovering m.agreement.promised p false m.agreement.votes m

-- 9. one that recovers is a member by what it holds, which is chosen
abbrev pub entering : {sv : Service} → Mind sv → Mind sv
entering m = become Follower m.agreement.accepted.view (accepted m) true m.agreement.votes m

-- beside these: patience, who was heard, the jobs, the own calls
abbrev pub keeping_time : (patience : ℕ) → (heard : List Bool) → Agreement → Agreement
keeping_time n l a =
    record { me = a.me; all = a.all; incarnation = a.incarnation; role = a.role; promised = a.promised; accepted = a.accepted; chosen = a.chosen; votes = a.votes; places = a.places; no = a.no; patience = n; heard = l; job = a.job; turn = a.turn; joins = a.joins }

abbrev pub serving : (no : ℕ) → Option ℕ → (turn : ℕ) → List (Option Joining) → Agreement → Agreement
serving n j t l a =
    record { me = a.me; all = a.all; incarnation = a.incarnation; role = a.role; promised = a.promised; accepted = a.accepted; chosen = a.chosen; votes = a.votes; places = a.places; no = n; patience = a.patience; heard = a.heard; job = j; turn = t; joins = l }

abbrev pub with_agreement : {sv : Service} → Agreement → Mind sv → Mind sv
with_agreement a m = record { agreement = a; state = m.state; outcomes = m.outcomes; waiting = m.waiting; calls = m.calls }

-- patience: 6 for a leader; for others by how far behind the replica that leads they are
abbrev pub patience_of : Agreement → ℕ
patience_of a = cond (is_leader a.role) 6 (4 + 2 * ((a.me + 2 * a.all - 1 - a.promised.leader) % a.all))

abbrev pub with_patience : {sv : Service} → ℕ → Mind sv → Mind sv
with_patience n m = with_agreement (keeping_time n m.agreement.heard m.agreement) m

abbrev pub anew : {sv : Service} → Mind sv → Mind sv
anew m = with_patience (patience_of m.agreement) m

abbrev pub with_heard : {sv : Service} → List Bool → Mind sv → Mind sv
with_heard l m = with_agreement (keeping_time m.agreement.patience l m.agreement) m

-- whose job is done, and who is next
abbrev pub with_job : {sv : Service} → Option ℕ → (turn : ℕ) → Mind sv → Mind sv
with_job j t m = with_agreement (serving m.agreement.no j t m.agreement.joins m.agreement) m

abbrev pub with_joins : {sv : Service} → List (Option Joining) → Mind sv → Mind sv
with_joins l m = with_agreement (serving m.agreement.no m.agreement.job m.agreement.turn l m.agreement) m

abbrev pub with_calls : {sv : Service} → List (Option (Forwarded sv)) → Mind sv → Mind sv
with_calls l m = record { agreement = m.agreement; state = m.state; outcomes = m.outcomes; waiting = m.waiting; calls = l }

-- one that steps down has no jobs
abbrev pub without_jobs : {sv : Service} → Mind sv → Mind sv
without_jobs m = with_calls (seven None) (with_joins (seven None) m)

abbrev pub with_waiting : {sv : Service} → List (Waiting sv) → (no : ℕ) → Mind sv → Mind sv
with_waiting l n m =
    record { agreement = serving n m.agreement.job m.agreement.turn m.agreement.joins m.agreement; state = m.state; outcomes = m.outcomes; waiting = l; calls = m.calls }

-- MOVES
abbrev pub Turn : Service → Type 0
Turn sv = record { does : List (Does (Msg sv) sv.R); mind : Mind sv }

abbrev pub still : {sv : Service} → Mind sv → Turn sv
still m = record { does = []; mind = m }

abbrev pub says : {sv : Service} → ℕ → Msg sv → Mind sv → Turn sv
says j w m = record { does = Says j w ∷ []; mind = m }

-- one move, and then another
unfoldable pub then_do : {sv : Service} → Turn sv → (Mind sv → Turn sv) → Turn sv
then_do x f = record { does = x.does ++ (f x.mind).does; mind = (f x.mind).mind }

-- to each of the first n replicas
unfoldable pub to_each : {sv : Service} → (n : ℕ) → (ℕ → List (Does (Msg sv) sv.R)) → List (Does (Msg sv) sv.R)
to_each zero f = []
to_each (suc n) f = to_each n f ++ f n

-- it is behind: let it promise what I promised
abbrev pub catch_up : {sv : Service} → ℕ → Mind sv → Turn sv
catch_up j m = says j (Prepare m.agreement.promised) m

-- what a leader says to the replica j: that it still leads, if j answered for accepted; else accepted itself
abbrev pub alive_to : {sv : Service} → Mind sv → ℕ → Msg sv
alive_to m j = Alive m.agreement.accepted m.agreement.chosen (roster (accepted m) j)

abbrev pub word_to : {sv : Service} → Mind sv → ℕ → Msg sv
word_to m j = cond (is_some (slice_index_or m.agreement.votes j None)) (alive_to m j) (Propose (accepted m) m.agreement.chosen)

unfoldable pub tell : {sv : Service} → ℕ → Mind sv → Turn sv
tell j m = cond (j == m.agreement.me) (still m) (says j (word_to m j) m)

unfoldable pub tell_all : {sv : Service} → Mind sv → Turn sv
tell_all {sv} m = record { does = to_each {sv = sv} m.agreement.all (λ j. cond (j == m.agreement.me) [] (Says j (word_to m j) ∷ [])); mind = m }

-- the replica whose job it was hears that it is chosen; no content goes with that
unfoldable pub tell_done : {sv : Service} → Option ℕ → Mind sv → Turn sv
tell_done None m = still m
tell_done (Some j) m = cond (j == m.agreement.me) (still m) (says j (alive_to m j) m)

-- the oldest call that waits goes to the replica that leads; it bears the number after the last that was answered. A leader takes its own when it serves
abbrev pub own_call : {sv : Service} → Waiting sv → Mind sv → Forwarded sv
own_call t m = record { incarnation = m.agreement.incarnation; no = suc m.agreement.no; number = t.number; call = t.call }

abbrev pub sends : {sv : Service} → Waiting sv → Mind sv → Turn sv
sends t m = cond (m.agreement.promised.leader == m.agreement.me) (still m) (says m.agreement.promised.leader (Forward (own_call t m)) m)

unfoldable pub forward_head : {sv : Service} → List (Waiting sv) → Mind sv → Turn sv
forward_head [] m = still m
forward_head (t ∷ ts) m = cond (is_member m.agreement.role && nat_lt (suc m.agreement.no) limit) (sends t m) (still m)

abbrev pub forward : {sv : Service} → Mind sv → Turn sv
forward m = forward_head m.waiting m

-- A replica answers its oldest call when it knows that accepted is chosen and its place there says that call's number: a write by what was kept of it, a read from the state that it holds
abbrev pub may_answer : {sv : Service} → Mind sv → Bool
may_answer m =
    is_member m.agreement.role && (m.agreement.chosen && (names m.agreement.me m.agreement.incarnation (accepted m) && (place_at (accepted m) m.agreement.me).no == suc m.agreement.no))

abbrev pub say_kept : (sv : Service) → sv.O → Option sv.K → Option sv.R
say_kept sv o None = None
say_kept sv o (Some k) = Some (sv.say o k)

abbrev pub reply_to : {sv : Service} → sv.O → Mind sv → Option sv.R
reply_to {sv} o m = cond (sv.is_read o) (Some (sv.clerk.reply o m.state)) (say_kept sv o (slice_index_or m.outcomes m.agreement.me None))

unfoldable pub hands : {sv : Service} → (number : ℕ) → List (Waiting sv) → Option sv.R → Mind sv → Turn sv
hands n ts None m = still m
hands n ts (Some r) m = then_do (record { does = Gives n r ∷ []; mind = with_waiting ts (suc m.agreement.no) m }) forward

unfoldable pub answer_head : {sv : Service} → List (Waiting sv) → Mind sv → Turn sv
answer_head [] m = still m
answer_head (t ∷ ts) m = cond (may_answer m) (hands t.number ts (reply_to t.call m) m) (still m)

abbrev pub answer : {sv : Service} → Mind sv → Turn sv
answer m = answer_head m.waiting m

-- accepted is chosen
abbrev pub learn : {sv : Service} → Mind sv → Turn sv
learn m = then_do (still (learned m)) answer

-- JOBS. A call is done only for the incarnation in the place, and by the next number, which has to fit; a join only in place of the one that it names, which is another
pub data Job (sv : Service) : Type 0 where
  DoCall : (j : ℕ) → Forwarded sv → Job sv
  DoJoin : (j : ℕ) → Joining → Job sv

abbrev pub call_fits : {sv : Service} → (j : ℕ) → Forwarded sv → Proposal sv → Bool
call_fits {sv} j a p = (names j a.incarnation p && (a.no == suc (place_at p j).no && nat_lt a.no limit)) && sv.calm p.content.state

abbrev pub join_fits : {sv : Service} → (j : ℕ) → Joining → Proposal sv → Bool
join_fits j q p = names j q.replaces p && not (q.incarnation == q.replaces)

abbrev pub call_job : {sv : Service} → Proposal sv → (j : ℕ) → Option (Forwarded sv) → Option (Job sv)
call_job p j None = None
call_job p j (Some a) = cond (call_fits j a p) (Some (DoCall j a)) None

abbrev pub join_job : {sv : Service} → Proposal sv → (j : ℕ) → Option Joining → Option (Job sv)
join_job p j None = None
join_job p j (Some q) = cond (join_fits j q p) (Some (DoJoin j q)) None

-- who comes after the replica j, going round
abbrev pub after : (all j : ℕ) → ℕ
after n j = cond (nat_lt (suc j) n) (suc j) 0

-- the first that there is, from the replica j on, round all n
unfoldable pub first_from : {A : Type 0} → (k n j : ℕ) → (ℕ → Option A) → Option A
first_from zero n j f = None
first_from (suc k) n j f = option_or (f j) (first_from k n (after n j) f)

-- a leader's own head is among the calls
unfoldable pub own_head : {sv : Service} → List (Waiting sv) → Mind sv → Option (Forwarded sv)
own_head [] m = None
own_head (t ∷ ts) m = Some (own_call t m)

abbrev pub join_at : {sv : Service} → Mind sv → (j : ℕ) → Option (Job sv)
join_at m j = join_job (accepted m) j (slice_index_or m.agreement.joins j None)

-- a leader's own call is not queued, but waits
abbrev pub call_at : {sv : Service} → Mind sv → (j : ℕ) → Option (Job sv)
call_at m j = call_job (accepted m) j (cond (j == m.agreement.me) (own_head m.waiting m) (slice_index_or m.calls j None))

abbrev pub first_of : {A : Type 0} {sv : Service} → (ℕ → Option A) → Mind sv → Option A
first_of f m = first_from m.agreement.all m.agreement.all m.agreement.turn f

-- joins first
abbrev pub next_job : {sv : Service} → Mind sv → Option (Job sv)
next_job m = option_or (first_of (join_at m) m) (first_of (call_at m) m)

-- it makes p, holds it and says so
abbrev pub proposes : {sv : Service} → Proposal sv → Mind sv → Turn sv
proposes p m = then_do (then_do (still (making p m)) tell_all) answer

-- the first proposal of a view is a copy
abbrev pub copy_in : {sv : Service} → View → Proposal sv → Proposal sv
copy_in v p = record { id = record { view = v; seq = 0 }; content = p.content }

-- the next one of the view
abbrev pub next_of : {sv : Service} → Content sv → Proposal sv → Proposal sv
next_of c p = record { id = record { view = p.id.view; seq = suc p.id.seq }; content = c }

abbrev pub job_of : {sv : Service} → ℕ → Mind sv → Mind sv
job_of j m = with_job (Some j) (after m.agreement.all j) m

unfoldable pub does : {sv : Service} → Option (Job sv) → Mind sv → Turn sv
does None m = still m
does (Some (DoCall j a)) m = proposes (next_of (called j a.call (content_of m)) (accepted m)) (with_calls (slice_set m.calls j None) (job_of j m))
does (Some (DoJoin j q)) m = proposes (next_of (joined j q.incarnation (content_of m)) (accepted m)) (with_joins (slice_set m.agreement.joins j None) (job_of j m))

-- one at a time: a leader takes the next job only when accepted is chosen
abbrev pub may_serve : {sv : Service} → Mind sv → Bool
may_serve m = is_leader m.agreement.role && (m.agreement.chosen && nat_lt (suc m.agreement.accepted.seq) limit)

unfoldable pub serve : {sv : Service} → Mind sv → Turn sv
serve m = cond (may_serve m) (does (next_job m) m) (still m)

-- a leader with enough votes: accepted is chosen, the replica whose job it was is told, the own call is answered, the next job is taken
abbrev pub is_settled : {sv : Service} → Mind sv → Bool
is_settled m = not m.agreement.chosen && quorum m.agreement.all m.agreement.places m.agreement.votes

unfoldable pub settle : {sv : Service} → Mind sv → Turn sv
settle m = cond (is_leader m.agreement.role && is_settled m) (then_do (then_do (then_do (still (learned m)) (λ n. tell_done n.agreement.job n)) answer) serve) (still m)

-- a candidate with enough promises: it leads
abbrev pub lead : {sv : Service} → Mind sv → Turn sv
lead m = proposes (copy_in m.agreement.promised (accepted m)) (with_job None m.agreement.turn (with_patience 6 (with_heard (seven false) m)))

unfoldable pub elect : {sv : Service} → Mind sv → Turn sv
elect m = cond (is_candidate m.agreement.role && quorum m.agreement.all m.agreement.places m.agreement.votes) (lead m) (still m)

-- it holds p, and answers j so. One that hears of a new view forwards its oldest call at once
abbrev pub takes_up : {sv : Service} → Proposal sv → (c : Bool) → Mind sv → Mind sv
takes_up p c m = anew (without_jobs (holding p c m))

abbrev pub same_view : {sv : Service} → Proposal sv → Mind sv → Bool
same_view p m = rank m.agreement.accepted.view == rank p.id.view

abbrev pub hold : {sv : Service} → (j : ℕ) → Proposal sv → (c : Bool) → Mind sv → Turn sv
hold j p c m = then_do (then_do (says j (Accepted p.id m.agreement.incarnation) (takes_up p c m)) (cond (same_view p m) still forward)) answer

-- one that recovers is whole: by p, which j says is chosen; or by what it holds, which is chosen since the next of its view came
abbrev pub welcome : {sv : Service} → (j : ℕ) → Proposal sv → Mind sv → Turn sv
welcome j p m = then_do (record { does = Whole' ∷ Says j (Accepted p.id m.agreement.incarnation) ∷ []; mind = takes_up p true m }) forward

abbrev pub enter : {sv : Service} → Mind sv → Turn sv
enter m = then_do (record { does = Whole' ∷ []; mind = anew (entering m) }) forward

-- a view below what was promised
abbrev pub is_below : {sv : Service} → View → Mind sv → Bool
is_below v m = nat_lt (rank v) (rank m.agreement.promised)

-- HANDLERS. A candidate asks for a promise: given to whatever is above what was promised, and again as long as nothing of that view is held. One's own view is passed over, and no letter goes to oneself
abbrev pub is_own : {sv : Service} → View → Mind sv → Bool
is_own v m = v.leader == m.agreement.me && v.incarnation == m.agreement.incarnation

abbrev pub may_promise : {sv : Service} → View → Mind sv → Bool
may_promise v m = nat_lt (rank m.agreement.accepted.view) (rank v)

abbrev pub promised : {sv : Service} → View → Mind sv → Mind sv
promised v m = without_jobs (with_patience (cond (nat_lt (rank m.agreement.promised) (rank v)) (patience_of (promising v m).agreement) m.agreement.patience) (promising v m))

-- no letter goes to oneself
abbrev pub is_mine : {sv : Service} → View → Mind sv → Bool
is_mine v m = v.leader == m.agreement.me

abbrev pub promise : {sv : Service} → View → Mind sv → Turn sv
promise v m = record { does = cond (is_mine v m) [] (Says v.leader (Promise v m.agreement.incarnation (accepted m)) ∷ []); mind = promised v m }

unfoldable pub on_prepare : {sv : Service} → (by : ℕ) → View → Mind sv → Turn sv
on_prepare j v m =
    cond (is_member m.agreement.role && not (is_own v m)) (cond (is_below v m) (catch_up j m) (cond (may_promise v m) (promise v m) (still m))) (still m)

-- a promise comes to the candidate
unfoldable pub on_promise : {sv : Service} → (by : ℕ) → View → (x : ℕ) → Proposal sv → Mind sv → Turn sv
on_promise j v x p m = cond (is_candidate m.agreement.role && rank v == rank m.agreement.promised) (then_do (still (reported j x p m)) elect) (still m)

-- a proposal comes. If an earlier one of that view is held, that one was chosen
abbrev pub follows : {sv : Service} → Proposal sv → Mind sv → Bool
follows p m = same_view p m && nat_lt (id_of (accepted m)) (id_of p)

abbrev pub is_named : {sv : Service} → Proposal sv → Mind sv → Bool
is_named p m = names m.agreement.me m.agreement.incarnation p

unfoldable pub implied : {sv : Service} → Proposal sv → Mind sv → Turn sv
implied p m = cond (follows p m) (cond (is_member m.agreement.role) (learn m) (cond (is_named (accepted m) m) (enter m) (still m))) (still m)

-- at a member
abbrev pub may_hold : {sv : Service} → Proposal sv → Mind sv → Bool
may_hold p m = nat_le (id_of (accepted m)) (id_of p)

-- of a view below what was promised since
abbrev pub is_late : {sv : Service} → Proposal sv → Mind sv → Bool
is_late p m = is_below p.id.view m

unfoldable pub hold_or_not : {sv : Service} → (by : ℕ) → Proposal sv → (c : Bool) → Mind sv → Turn sv
hold_or_not j p c m = cond (is_late p m) (catch_up j m) (cond (may_hold p m) (hold j p c m) (still m))

-- at one that recovers: where p names it, it keeps p, if it is not below what it holds; it is welcome where p is chosen. Where another is named, it asks to be written in
unfoldable pub offered : {sv : Service} → (by : ℕ) → Proposal sv → (c : Bool) → Mind sv → Turn sv
offered j p c m =
    cond (is_named p m) (cond (may_hold p m) (cond c (welcome j p m) (still (keeping p m))) (still m))
    (says j (Join (record { incarnation = m.agreement.incarnation; replaces = roster p m.agreement.me })) m)

unfoldable pub take_or_not : {sv : Service} → (by : ℕ) → Proposal sv → (c : Bool) → Mind sv → Turn sv
take_or_not j p c m = cond (is_member m.agreement.role) (hold_or_not j p c m) (offered j p c m)

-- a leader passes over what is said of its own view
abbrev pub leads : {sv : Service} → View → Mind sv → Bool
leads v m = is_leader m.agreement.role && rank v == rank m.agreement.promised

unfoldable pub on_propose : {sv : Service} → (by : ℕ) → Proposal sv → (c : Bool) → Mind sv → Turn sv
on_propose j p c m = cond (leads p.id.view m) (still m) (then_do (implied p m) (take_or_not j p c))

-- the leader is alive: what is held is held again
abbrev pub holds : {sv : Service} → ProposalId → Mind sv → Bool
holds d m = rank_id d == id_of (accepted m)

-- its view is below what was promised since
abbrev pub is_stale : {sv : Service} → ProposalId → Mind sv → Bool
is_stale d m = is_below d.view m

unfoldable pub alive_here : {sv : Service} → (by : ℕ) → ProposalId → (c : Bool) → Mind sv → Turn sv
alive_here j d c m =
    cond (is_stale d m) (catch_up j m) (cond (leads d.view m) (still m) (cond (holds d m) (hold j (accepted m) c m) (cond (rank d.view == rank m.agreement.promised) (still (anew m)) (still m))))

-- one that recovers is told that what it holds, which names it, is chosen
abbrev pub is_welcome : {sv : Service} → ProposalId → (c : Bool) → Mind sv → Bool
is_welcome d c m = c && (holds d m && is_named (accepted m) m)

unfoldable pub alive_there : {sv : Service} → (by : ℕ) → ProposalId → (c : Bool) → (x : ℕ) → Mind sv → Turn sv
alive_there j d c x m =
    cond (x == m.agreement.incarnation) (cond (is_welcome d c m) (welcome j (accepted m) m) (still m)) (says j (Join (record { incarnation = m.agreement.incarnation; replaces = x })) m)

unfoldable pub on_alive : {sv : Service} → (by : ℕ) → ProposalId → (c : Bool) → (x : ℕ) → Mind sv → Turn sv
on_alive j d c x m = cond (is_member m.agreement.role) (alive_here j d c m) (alive_there j d c x m)

-- a replica holds what the leader said
abbrev pub heard_from : {sv : Service} → ℕ → Mind sv → Mind sv
heard_from j m = with_heard (slice_set m.agreement.heard j true) m

abbrev pub count_vote : {sv : Service} → (j : ℕ) → ProposalId → (x : ℕ) → Mind sv → Mind sv
count_vote j d x m = cond (holds d m && names j x (accepted m)) (counted j x (heard_from j m)) (heard_from j m)

unfoldable pub on_accepted : {sv : Service} → (by : ℕ) → ProposalId → (x : ℕ) → Mind sv → Turn sv
on_accepted j d x m = cond (leads d.view m) (then_do (still (count_vote j d x m)) settle) (still m)

-- a replica that recovers wants to be written in
unfoldable pub on_join : {sv : Service} → (by : ℕ) → Joining → Mind sv → Turn sv
on_join j q m = cond (is_leader m.agreement.role && join_fits j q (accepted m)) (then_do (still (with_joins (slice_set m.agreement.joins j (Some q)) m)) serve) (still m)

-- a replica wants a call to be done; if it was done, the replica is told again
unfoldable pub on_forward : {sv : Service} → (by : ℕ) → Forwarded sv → Mind sv → Turn sv
on_forward j a m =
    cond (is_leader m.agreement.role && names j a.incarnation (accepted m))
    (cond (a.no == (place_at (accepted m) j).no && m.agreement.chosen) (tell j m) (cond (call_fits j a (accepted m)) (then_do (still (with_calls (slice_set m.calls j (Some a)) m)) serve) (still m)))
    (still m)

-- A client's call. What can be said whatever the state is, is said at once. With eight waiting it is handed back. If it is the oldest it is forwarded
abbrev pub is_full : {sv : Service} → List (Waiting sv) → Bool
is_full ts = nat_le 8 (length ts)

abbrev pub comes_in : {sv : Service} → Waiting sv → Mind sv → Mind sv
comes_in t m = with_waiting (m.waiting ++ t ∷ []) m.agreement.no m

unfoldable pub wait_or_not : {sv : Service} → Waiting sv → Mind sv → Turn sv
wait_or_not {sv} t m =
    cond (is_full m.waiting) (record { does = Gives t.number sv.clerk.busy ∷ []; mind = m })
    (cond (length m.waiting == 0) (then_do (then_do (still (comes_in t m)) forward) serve) (still (comes_in t m)))

unfoldable pub quick_or_not : {sv : Service} → Option sv.R → Waiting sv → Mind sv → Turn sv
quick_or_not None t m = wait_or_not t m
quick_or_not (Some r) t m = record { does = Gives t.number r ∷ []; mind = m }

abbrev pub on_call : {sv : Service} → (number : ℕ) → sv.O → Mind sv → Turn sv
on_call {sv} n o m = quick_or_not (sv.quick o) (record { number = n; call = o }) m

-- A tick: a leader that heard more than half takes new patience; patience falls
abbrev pub heard_most : {sv : Service} → Mind sv → Bool
heard_most m = is_leader m.agreement.role && nat_lt m.agreement.all (2 * how_many m.agreement.all (λ j. (j == m.agreement.me) || slice_index_or m.agreement.heard j false))

abbrev pub ticks : {sv : Service} → Mind sv → Mind sv
ticks m =
    with_agreement (keeping_time (cond (heard_most m) (patience_of m.agreement - 1) (m.agreement.patience - 1)) (cond (heard_most m) (seven false) m.agreement.heard) m.agreement) m

-- out of patience: it stands for a view of its own, above what it promised
abbrev pub may_stand : {sv : Service} → Mind sv → Bool
may_stand m = (m.agreement.patience == 0 && nat_lt 1 m.agreement.all) && nat_lt (suc m.agreement.promised.number) limit

abbrev pub own_view : Agreement → View
own_view a = record { number = suc a.promised.number; leader = a.me; incarnation = a.incarnation }

abbrev pub ask_to : {sv : Service} → Mind sv → ℕ → List (Does (Msg sv) sv.R)
ask_to m j = cond (j == m.agreement.me || counts m.agreement.votes m.agreement.places j) [] (Says j (Prepare m.agreement.promised) ∷ [])

-- a candidate asks each replica whose promise doesn't count
unfoldable pub ask_all : {sv : Service} → Mind sv → Turn sv
ask_all {sv} m = record { does = to_each {sv = sv} m.agreement.all (ask_to m); mind = m }

abbrev pub stand : {sv : Service} → Mind sv → Turn sv
stand m = then_do (still (anew (without_jobs (standing (own_view m.agreement) m)))) ask_all

-- what is under way is said again: by a leader to all; by a candidate to those whose promise it does not have
unfoldable pub say_again : {sv : Service} → Mind sv → Turn sv
say_again m = cond (is_leader m.agreement.role) (tell_all m) (cond (is_candidate m.agreement.role) (ask_all m) (still m))

-- a leader that has something to do does that; else it says again what is under way
abbrev pub has_job : {sv : Service} → Mind sv → Bool
has_job m = may_serve m && is_some (next_job m)

unfoldable pub stand_or_not : {sv : Service} → Mind sv → Turn sv
stand_or_not m = cond (is_member m.agreement.role && may_stand m) (stand m) (cond (has_job m) (serve m) (then_do (say_again m) forward))

unfoldable pub on_beat : {sv : Service} → Mind sv → Turn sv
on_beat m = cond (is_member m.agreement.role) (then_do (still (ticks m)) stand_or_not) (still m)

unfoldable pub hears : {sv : Service} → (from : ℕ) → Msg sv → Mind sv → Turn sv
hears j (Prepare v) m = on_prepare j v m
hears j (Promise v x p) m = on_promise j v x p m
hears j (Propose p c) m = on_propose j p c m
hears j (Alive d c x) m = on_alive j d c x m
hears j (Accepted d x) m = on_accepted j d x m
hears j (Join q) m = on_join j q m
hears j (Forward a) m = on_forward j a m

unfoldable pub turn : {sv : Service} → Comes (Msg sv) sv.O → Mind sv → Turn sv
turn (Said j w) m = hears j w m
turn (Call' n o) m = on_call n o m
turn Beat m = on_beat m

-- at the first beginning all replicas are members, and replica 0 leads
abbrev pub first_role : (me chance : ℕ) → Role
first_role i x = cond (x == 0) (cond (i == 0) Leader Follower) Recovering

abbrev pub woken_as : (me all chance : ℕ) → Role → (chosen : Bool) → Agreement
woken_as i n x r c =
    record { me = i; all = n; incarnation = x; role = r; promised = first_view; accepted = first_id; chosen = c; votes = seven None; places = seven (fresh_place 0); no = 0; patience = 6; heard = seven false; job = None; turn = 0; joins = seven None }

abbrev pub woke : (sv : Service) → (me all chance : ℕ) → Mind sv
woke sv i n x = anew (record { agreement = woken_as i n x (first_role i x) (x == 0); state = (first_content sv).state; outcomes = (first_content sv).outcomes; waiting = []; calls = seven None })

abbrev pub code : (sv : Service) → Code (Msg sv) sv.O sv.R
code sv = record { Mind = Mind sv; wakes = woke sv; turns = turn }
