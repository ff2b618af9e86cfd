-- A ROUND of votes: a replica that leads, and has offered what it holds to all others, gets the vote of each whole replica of the group, one after the other, until it has a quorum; at that vote it settles.
-- The quorum is certain: whoever is whole is named by what the leader holds, so that its vote counts, and the whole ones of the group are more than half of all.
use Rattle.std.proofs.Common.{◌≡◌, ℕ, zero, suc, ◌*◌, ◌<◌, ◌≤◌, Bool, true, false, not, ◌&&◌, ◌⊎◌, List, length, get_or, set, Some, None, Option, sym, refl, ap, ◌∙◌, subst, inl, inr, ⊎_elim, arith}
use Rattle.std.proofs.lemmas.List.{get_or-set_other, get_or-set_same, length-set}
use mathlib.Core.List.{Memᴰ}
use Rattle.std.proofs.lemmas.Bool.{cond-true, cond-false, cases_eq, cases_Bool, true≢false, and_parts, and_from, and_right, eq-eqb, not-true, lt-ltb}
use Rattle.runs.specs.Replicas.{Letter, Scene, Seen, Said, there, turned, how_many, is_in, Goes}
use Rattle.runs.specs.Progress.{Enough}
use Rattle.agreement.specs.declared.View.{View}
use Rattle.agreement.specs.declared.Role.{Role}
use Rattle.agreement.specs.declared.Role.TheVariants.{Leader}
use Rattle.agreement.specs.Content.{Service, Proposal, rank, id_of, roster}
use Rattle.agreement.specs.Agree.{held}
use Rattle.agreement.specs.Machine.{Msg, Propose, Accepted, Mind, accepted, is_member, counts, quorum, Turn, still, then_do, become, with_heard, learned, tell_done, answer, serve, is_leader, is_settled, settle, leads, holds, names, heard_from, counted, count_vote, on_accepted, hears, turn, code}
use Rattle.agreement.specs.Steady.{Steady}
use Rattle.agreement.proofs.Runs.{member_is_named}
use Rattle.agreement.proofs.Stages.{Follows}
use Rattle.agreement.proofs.Among.{among_goes_here}
use Rattle.agreement.proofs.Steps.{letter, Reaches, Since, talk_to, since_stays, since_said, rel_at, house_here, house_there, whole_stays}
use Rattle.agreement.proofs.Counting.{how_many_mono, found_in}
use Rattle.agreement.proofs.Votes.{Voted, votes_for}

-- the mind m of a leader, but for who voted and who was heard
abbrev pub polled : {sv : Service} → List (Option ℕ) → List Bool → Mind sv → Mind sv
polled vs l m = with_heard l (become Leader m.agreement.promised (accepted m) m.agreement.chosen vs m)

-- what a leader does at the vote that makes a quorum
abbrev pub settling : {sv : Service} → Mind sv → Turn sv
settling m = then_do (then_do (then_do (still (learned m)) (λ n. tell_done n.agreement.job n)) answer) serve

module _ {sv : Service} (m : Mind sv) where
  -- the vote of the incarnation y of the replica k, which is named, is counted
  counts_vote : (k y : ℕ) (vs : List (Option ℕ)) (l : List Bool) → m.agreement.accepted.view ≡ m.agreement.promised → roster (accepted m) k ≡ y → turn (Said k (Accepted m.agreement.accepted y)) (polled vs l m) ≡ settle (polled (set vs k (Some y)) (set l k true) m)
  unfolding turn hears on_accepted then_do
  counts_vote k y vs l v e =
      cond-true (leads m.agreement.accepted.view (polled vs l m)) (then_do (still (count_vote k m.agreement.accepted y (polled vs l m))) settle) (still (polled vs l m)) (eq-eqb _ _ (ap rank v))
      ∙ ap (λ (z : Mind sv). then_do (still z) settle) (cond-true (holds m.agreement.accepted (polled vs l m) && names k y (accepted m)) (counted k y (heard_from k (polled vs l m))) (heard_from k (polled vs l m)) (and_from _ _ (eq-eqb _ _ refl) (eq-eqb _ _ e)))

  settle_yes : (vs : List (Option ℕ)) (l : List Bool) → m.agreement.chosen ≡ false → quorum m.agreement.all m.agreement.places vs ≡ true → settle (polled vs l m) ≡ settling (polled vs l m)
  unfolding settle
  settle_yes vs l c q = cond-true (is_leader Leader && is_settled (polled vs l m)) (settling (polled vs l m)) (still (polled vs l m)) (and_from (not m.agreement.chosen) _ (ap not c) q)

  settle_no : (vs : List (Option ℕ)) (l : List Bool) → quorum m.agreement.all m.agreement.places vs ≡ false → settle (polled vs l m) ≡ still (polled vs l m)
  unfolding settle
  settle_no vs l q = cond-false (is_leader Leader && is_settled (polled vs l m)) (settling (polled vs l m)) (still (polled vs l m)) (and_right (not m.agreement.chosen) _ q)

-- a leader's mind is itself
polled_self : {sv : Service} (m : Mind sv) → m.agreement.role ≡ Leader → m ≡ polled m.agreement.votes m.agreement.heard m
polled_self m e =
    λ z. record {
      agreement = record { me = m.agreement.me; all = m.agreement.all; incarnation = m.agreement.incarnation; role = e z; promised = m.agreement.promised; accepted = m.agreement.accepted; chosen = m.agreement.chosen; votes = m.agreement.votes; places = m.agreement.places; no = m.agreement.no; patience = m.agreement.patience; heard = m.agreement.heard; job = m.agreement.job; turn = m.agreement.turn; joins = m.agreement.joins };
      state = m.state;
      outcomes = m.outcomes;
      waiting = m.waiting;
      calls = m.calls;
    }

-- who follows does so as long as it is left as it is
pub follows_still : {sv : Service} {st : Steady sv} {d : ℕ} {v : View} {p : Proposal sv} {t u : Scene (Mind sv) (Msg sv)} {j : ℕ} → u.house j ≡ t.house j → Follows st d v p t j → Follows st d v p u j
follows_still e f = record { mind = f.mind; up = e ∙ f.up; role = f.role; promised = f.promised; below = f.below; held = f.held; size = f.size }

module _ {sv : Service} (st : Steady sv) (all : ℕ) (group : List ℕ) (s : Scene (Mind sv) (Msg sv)) (i : ℕ) where
  -- the others of the group that are whole follow the view v, and hold nothing above p
  abbrev pub Followed : (d : ℕ) → View → Proposal sv → Scene (Mind sv) (Msg sv) → Type 0
  Followed d v p t = (j : ℕ) → j < all → Memᴰ j group → s.frail j ≡ false → (j ≡ i → ⊥) → Follows st d v p t j

  -- LEADS: the group came from s to t, where the replica i leads as m, and has offered what it holds, which is not chosen yet, to all others. d: a bound of the numbers
  pub record Leads (d : ℕ) (t : Scene (Mind sv) (Msg sv)) (m : Mind sv) : Type 0 where
    pub came : Reaches all group s t
    pub frail : (j : ℕ) → t.frail j ≡ s.frail j
    pub up : t.house i ≡ there m
    pub role : m.agreement.role ≡ Leader
    pub view : m.agreement.accepted.view ≡ m.agreement.promised
    pub chosen : m.agreement.chosen ≡ false
    pub short : quorum m.agreement.all m.agreement.places m.agreement.votes ≡ false
    pub seats : length m.agreement.votes ≡ 7
    pub own : get_or m.agreement.votes i None ≡ Some m.agreement.incarnation
    pub number : m.agreement.promised.number ≤ d
    pub size : st.size m.state ≤ 64 * d
    pub told : (j : ℕ) → j < all → (j ≡ i → ⊥) → Since all group s t (letter i j (Propose (accepted m) false))
    pub voters : Followed d m.agreement.promised (accepted m) t

  abbrev is_voter : ℕ → Bool
  is_voter j = is_in j group && not (s.frail j)

  -- those that are frail are as they were in t, and what was said is still said in u
  pub record Beside (t u : Scene (Mind sv) (Msg sv)) : Type 0 where
    pub others : (j : ℕ) → s.frail j ≡ true → u.house j ≡ t.house j
    pub since : (l : Letter (Msg sv)) → Since all group s t l → Since all group s u l

  -- SETTLED: i, who led as m in the scene t, counts the vote that makes a quorum, in the scene before
  pub record Settled (d : ℕ) (t : Scene (Mind sv) (Msg sv)) (m : Mind sv) : Type 0 where
    pub votes : List (Option ℕ)
    pub heard : List Bool
    pub before : Scene (Mind sv) (Msg sv)
    pub led : Reaches all group s before
    pub came : Reaches all group s (turned (code sv) i (settling (polled votes heard m)) before)
    pub frail : (j : ℕ) → before.frail j ≡ s.frail j
    pub voters : Followed d m.agreement.promised (accepted m) before
    pub beside : Beside t before
    pub silent : (j : ℕ) → s.frail j ≡ true → get_or votes j None ≡ get_or m.agreement.votes j None

  -- the votes of the first k are counted, and are no quorum yet
  record Voting (d : ℕ) (t : Scene (Mind sv) (Msg sv)) (m : Mind sv) (k : ℕ) : Type 0 where
    votes : List (Option ℕ)
    heard : List Bool
    scene : Scene (Mind sv) (Msg sv)
    leads : Leads d scene (polled votes heard m)
    counted' : (j : ℕ) → j < k → is_voter j ≡ true → counts votes m.agreement.places j ≡ true
    beside : Beside t scene
    silent : (j : ℕ) → s.frail j ≡ true → get_or votes j None ≡ get_or m.agreement.votes j None

module _ {sv : Service} (st : Steady sv) (all : ℕ) (small : all ≤ 7) (group : List ℕ) {n : ℕ} {es : List (Seen sv.O sv.R)} (s : Scene (Mind sv) (Msg sv)) (go : Goes (code sv) all n es s) (i : ℕ) (il : i < all) (ig : Memᴰ i group) (iw : s.frail i ≡ false) where
  -- one that is a member, and holds nothing above what i holds, is named by that
  pub named_by : (t : Scene (Mind sv) (Msg sv)) (m : Mind sv) → Reaches all group s t → t.house i ≡ there m → (j : ℕ) (o : Mind sv) → j < all → t.house j ≡ there o → is_member o.agreement.role ≡ true → id_of (accepted o) ≤ id_of (accepted m) → roster (accepted m) j ≡ o.agreement.incarnation
  named_by t m w up j o jl at' mem le = let (x, low, f) = member_is_named sv all _ small _ t (among_goes_here go w.1).1 j o jl at' mem in f (accepted m) (held i m il up refl) (omega arith)

  -- THE VOTE of the replica k
  module _ (d : ℕ) (t : Scene (Mind sv) (Msg sv)) (m : Mind sv) (vs : List (Option ℕ)) (l : List Bool) (a : Leads st all group s i d t (polled vs l m)) (k : ℕ) (kl : k < all) (kg : Memᴰ k group) (kw : s.frail k ≡ false) (kc : k ≡ i → ⊥) where
    fk : Follows st d m.agreement.promised (accepted m) t k
    fk = a.voters k kl kg kw kc

    abbrev vote_turn : Turn sv
    vote_turn = turn (Said i (Propose (accepted m) false)) fk.mind

    voted : Voted i (accepted m) fk.mind.agreement.incarnation vote_turn
    voted = votes_for i (accepted m) fk.mind fk.role (fk.promised ∙ sym a.view) fk.below

    -- k has voted
    abbrev polls : Scene (Mind sv) (Msg sv)
    polls = turned (code sv) k vote_turn t

    polled_to : Reaches all group s polls
    polled_to = talk_to all group s t k fk.mind (letter i k (Propose (accepted m) false)) vote_turn kl kg ig a.came fk.up (a.told k kl kc) refl refl

    frail_at : (j : ℕ) → polls.frail j ≡ s.frail j
    frail_at j = whole_stays all group s t k vote_turn (a.frail k ∙ kw) j ∙ a.frail j

    voters_at : Followed st all group s i d m.agreement.promised (accepted m) polls
    voters_at j jl jg jw jc = ⊎_elim here' (λ ne. follows_still (house_there all group s t k vote_turn j ne) (a.voters j jl jg jw jc)) (cases_eq j k)
      where
        here' : j ≡ k → Follows st d m.agreement.promised (accepted m) polls j
        here' q = subst (Follows st d m.agreement.promised (accepted m) polls) (sym q)
            (record { mind = vote_turn.mind; up = house_here all group s t k vote_turn; role = voted.role; promised = voted.promised ∙ a.view; below = omega (arith, ap (λ (p : Proposal sv). id_of p) voted.holds); held = omega (arith, ap (λ (p : Proposal sv). p.id.view.number) voted.holds, ap (λ (v : View). v.number) a.view, a.number); size = omega (arith, ap (λ (p : Proposal sv). st.size p.content.state) voted.holds, a.size) })

    beside_at : Beside st all group s i t polls
    beside_at = record { others = λ j e. house_there all group s t k vote_turn j (λ q. true≢false (sym e ∙ (ap s.frail q ∙ kw))); since = λ x y. since_stays all group s t k vote_turn x y }

    up_at : polls.house i ≡ there (polled vs l m)
    up_at = house_there all group s t k vote_turn i (λ q. kc (sym q)) ∙ a.up

    abbrev now : List (Option ℕ)
    now = set vs k (Some fk.mind.agreement.incarnation)

    abbrev ears : List Bool
    ears = set l k true

    named : roster (accepted m) k ≡ fk.mind.agreement.incarnation
    named = named_by t (polled vs l m) a.came a.up k fk.mind kl fk.up (ap (λ (r : Role). is_member r) fk.role) fk.below

    -- i counts it
    counted_to : (x : Turn sv) → settle (polled now ears m) ≡ x → Reaches all group s (turned (code sv) i x polls)
    counted_to x e =
        talk_to all group s polls i (polled vs l m) (letter k i (Accepted m.agreement.accepted fk.mind.agreement.incarnation)) x il ig kg polled_to up_at
        (since_said all group s t k i (Accepted m.agreement.accepted fk.mind.agreement.incarnation) vote_turn a.came voted.said) refl
        (counts_vote m k fk.mind.agreement.incarnation vs l a.view named ∙ e)

    -- where it makes no quorum
    abbrev after' : Scene (Mind sv) (Msg sv)
    after' = turned (code sv) i (still (polled now ears m)) polls

    beside_after : Beside st all group s i t after'
    beside_after = record { others = λ j e. house_there all group s polls i (still (polled now ears m)) j (λ q. true≢false (sym e ∙ (ap s.frail q ∙ iw))) ∙ beside_at.others j e; since = λ x y. since_stays all group s polls i (still (polled now ears m)) x (beside_at.since x y) }

    leads_after : quorum m.agreement.all m.agreement.places now ≡ false → Leads st all group s i d after' (polled now ears m)
    leads_after q =
        record {
          came = counted_to (still (polled now ears m)) (settle_no m now ears q);
          frail = λ j. whole_stays all group s polls i (still (polled now ears m)) (frail_at i ∙ iw) j ∙ frail_at j;
          up = house_here all group s polls i (still (polled now ears m));
          role = refl;
          view = a.view;
          chosen = a.chosen;
          short = q;
          seats = length-set vs k _ ∙ a.seats;
          own = get_or-set_other vs k i _ None (λ e. kc (sym e)) ∙ a.own;
          number = a.number;
          size = a.size;
          told = λ j jl jc. beside_after.since _ (a.told j jl jc);
          voters = λ j jl jg jw jc. follows_still (house_there all group s polls i (still (polled now ears m)) j jc) (voters_at j jl jg jw jc);
        }

  module _ (d : ℕ) (t : Scene (Mind sv) (Msg sv)) (m : Mind sv) where
    beside_trans : {u v : Scene (Mind sv) (Msg sv)} → Beside st all group s i t u → Beside st all group s i u v → Beside st all group s i t v
    beside_trans a b = record { others = λ j e. b.others j e ∙ a.others j e; since = λ l z. b.since l (a.since l z) }

    -- k is not asked: it is no voter, or its vote counts already
    passed : (k : ℕ) (o : Voting st all group s i d t m k) → (is_voter st all group s i k ≡ true → counts o.votes m.agreement.places k ≡ true) → Voting st all group s i d t m (suc k)
    passed k o out = record { votes = o.votes; heard = o.heard; scene = o.scene; leads = o.leads; counted' = λ j lt e. ⊎_elim (λ q. rw q (out (rw q at e))) (λ q. o.counted' j (omega arith) e) (cases_eq j k); beside = o.beside; silent = o.silent }

    asked : (k : ℕ) (o : Voting st all group s i d t m k) → k < all → Memᴰ k group → s.frail k ≡ false → (k ≡ i → ⊥) → Voting st all group s i d t m (suc k) ⊎ Settled st all group s i d t m
    asked k o kl kg kw kc = go' (cases_Bool (quorum m.agreement.all m.agreement.places (now d o.scene m o.votes o.heard o.leads k kl kg kw kc)))
      where
        silent' : (j : ℕ) → s.frail j ≡ true → get_or (now d o.scene m o.votes o.heard o.leads k kl kg kw kc) j None ≡ get_or m.agreement.votes j None
        silent' j e = get_or-set_other o.votes k j _ None (λ q. true≢false (sym e ∙ (ap s.frail q ∙ kw))) ∙ o.silent j e

        counted'' : (j : ℕ) → j < suc k → is_voter st all group s i j ≡ true → (j ≡ k) ⊎ (j ≡ k → ⊥) → counts (now d o.scene m o.votes o.heard o.leads k kl kg kw kc) m.agreement.places j ≡ true
        counted'' j lt e (inl q) = rw (q, get_or-set_same o.votes k (Some (fk d o.scene m o.votes o.heard o.leads k kl kg kw kc).mind.agreement.incarnation) None (omega (arith, o.leads.seats))) (eq-eqb _ _ (sym (named d o.scene m o.votes o.heard o.leads k kl kg kw kc)))
        counted'' j lt e (inr q) = rw (get_or-set_other o.votes k j (Some (fk d o.scene m o.votes o.heard o.leads k kl kg kw kc).mind.agreement.incarnation) None q) (o.counted' j (omega arith) e)

        go' : (quorum m.agreement.all m.agreement.places (now d o.scene m o.votes o.heard o.leads k kl kg kw kc) ≡ true) ⊎ (quorum m.agreement.all m.agreement.places (now d o.scene m o.votes o.heard o.leads k kl kg kw kc) ≡ false) → Voting st all group s i d t m (suc k) ⊎ Settled st all group s i d t m
        go' (inl q) =
            inr (record {
              votes = now d o.scene m o.votes o.heard o.leads k kl kg kw kc;
              heard = set o.heard k true;
              before = polls d o.scene m o.votes o.heard o.leads k kl kg kw kc;
              led = polled_to d o.scene m o.votes o.heard o.leads k kl kg kw kc;
              came = counted_to d o.scene m o.votes o.heard o.leads k kl kg kw kc _ (settle_yes m _ _ o.leads.chosen q);
              frail = frail_at d o.scene m o.votes o.heard o.leads k kl kg kw kc;
              voters = voters_at d o.scene m o.votes o.heard o.leads k kl kg kw kc;
              beside = beside_trans o.beside (beside_at d o.scene m o.votes o.heard o.leads k kl kg kw kc);
              silent = silent';
            })
        go' (inr q) =
            inl (record {
              votes = now d o.scene m o.votes o.heard o.leads k kl kg kw kc;
              heard = set o.heard k true;
              scene = after' d o.scene m o.votes o.heard o.leads k kl kg kw kc;
              leads = leads_after d o.scene m o.votes o.heard o.leads k kl kg kw kc q;
              counted' = λ j lt e. counted'' j lt e (cases_eq j k);
              beside = beside_trans o.beside (beside_after d o.scene m o.votes o.heard o.leads k kl kg kw kc);
              silent = silent';
            })

    own_counts : (k : ℕ) (o : Voting st all group s i d t m k) → counts o.votes m.agreement.places i ≡ true
    own_counts k o = rw o.leads.own (eq-eqb _ _ (sym (named_by o.scene (polled o.votes o.heard m) o.leads.came o.leads.up i (polled o.votes o.heard m) il o.leads.up refl (omega arith))))

    one : (k : ℕ) → k < all → Voting st all group s i d t m k → Voting st all group s i d t m (suc k) ⊎ Settled st all group s i d t m
    one k kl o = go' (cases_Bool (is_voter st all group s i k)) (cases_eq k i)
      where
        go' : (is_voter st all group s i k ≡ true) ⊎ (is_voter st all group s i k ≡ false) → (k ≡ i) ⊎ (k ≡ i → ⊥) → Voting st all group s i d t m (suc k) ⊎ Settled st all group s i d t m
        go' (inr e) q = inl (passed k o (λ z. absurd (true≢false (sym z ∙ e))))
        go' (inl e) (inl q) = inl (passed k o (λ _. rw q (own_counts k o)))
        go' (inl e) (inr q) = let b = and_parts (is_in k group) (not (s.frail k)) e in asked k o kl (found_in k group b.0) (not-true _ b.1) q

    -- all were asked, and still there is no quorum
    never : Enough all group s → Voting st all group s i d t m all → ⊥
    never en o = true≢false (sym (lt-ltb m.agreement.all (2 * how_many m.agreement.all (counts o.votes m.agreement.places)) (rw every (omega (arith, how_many_mono all (is_voter st all group s i) (counts o.votes m.agreement.places) o.counted')))) ∙ o.leads.short)
      where
        every : m.agreement.all ≡ all
        every = let (h, r) = rel_at all group s small go o.scene o.leads.came in (r.replicas i (polled o.votes o.heard m) il o.leads.up).0.who.all'

    up_to : Voting st all group s i d t m 0 → (k : ℕ) → k ≤ all → Voting st all group s i d t m k ⊎ Settled st all group s i d t m
    up_to o zero le = inl o
    up_to o (suc k) le = ⊎_elim (λ v. one k (omega arith) v) (λ z. inr z) (up_to o k (omega arith))

    pub round : Enough all group s → Leads st all group s i d t m → Settled st all group s i d t m
    round en a = ⊎_elim (λ v. absurd (never en v)) (λ z. z) (up_to start all (omega arith))
      where
        start : Voting st all group s i d t m 0
        start = record { votes = m.agreement.votes; heard = m.agreement.heard; scene = t; leads = subst (Leads st all group s i d t) (polled_self m a.role) a; counted' = λ j lt e. absurd (omega arith); beside = record { others = λ j e. refl; since = λ l z. z }; silent = λ j e. refl }
