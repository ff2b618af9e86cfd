-- ELECTION: in a group with more than half of all replicas whole, any of these can come to lead, in a view above all views of the group. It hears the promises one by one; when all came, they are a quorum, since each whole replica is named by every proposal at or above its own.
use Rattle.std.proofs.Common.{◌≡◌, ℕ, zero, suc, ◌*◌, ◌<◌, ◌≤◌, Bool, true, false, ◌&&◌, eqb, ◌⊎◌, List, [], ◌∷◌, ◌++◌, length, get_or, is_some, Some, None, Option, sym, refl, ap, ◌∙◌, inl, inr, ⊎_elim, arith}
use Rattle.std.proofs.lemmas.List.{get_or-set_other, get_or-set_same, length-set}
use mathlib.Core.List.Memᴰ
use mathlib.Core.List.{Memᴰ}
use Rattle.std.proofs.lemmas.Bool.Decides.{nat_tests}
use Rattle.std.proofs.lemmas.Bool.{cond_both, cond-true, cond-false, and_parts, and_from, and_right, not_from_false, not_from_true, eq-eqb, ne_eqb, ltb-false, cases_eq, cases_Bool, true≢false}
use Rattle.runs.specs.Replicas.{Letter, Does, Says, Said, posted, Scene, Seen, there, how_many, is_in, Goes, turned}
use Rattle.runs.specs.Progress.{Enough}
use Rattle.agreement.specs.declared.View.{View}
use Rattle.agreement.specs.declared.Role.TheVariants.{Candidate}
use Rattle.agreement.specs.Content.{Service, Proposal, limit, rank, id_of, seven}
use Rattle.agreement.specs.Steady.{Steady}
use Rattle.agreement.specs.Agree.{held}
use Rattle.agreement.specs.Machine.{Msg, Promise, Propose, Mind, accepted, is_member, is_candidate, counts, quorum, own_vote, is_higher, higher, reported, making, Turn, still, then_do, tell_all, word_to, answer, copy_in, proposes, with_job, with_patience, with_heard, lead, elect, promised, on_promise, hears, turn, code}
use Rattle.agreement.proofs.Scenes.{at_same, at_other, un_there}
use Rattle.agreement.proofs.Runs.{run, member_is_named}
use Rattle.agreement.proofs.Clients.{clients}
use Rattle.agreement.proofs.Stages.{Low, Follows, view_above, Elected}
use Rattle.agreement.proofs.Among.{among_goes_here}
use Rattle.agreement.proofs.Counting.{one_is_few, how_many_mono, found_in, is_found}
use Rattle.agreement.proofs.Steps.{letter, to_each_says, said_posted, pushed, whole_stays, Reaches, Since, new_of, talk_to, since_stays}
use Rattle.agreement.proofs.Standing.{own_only, own_counts, not_alone, proposes_mind, Stood, stood}
use Rattle.agreement.proofs.Promises.{rank_higher, is_voter, Vowed, Asked, all_promise}

-- WHAT A CANDIDATE DOES WITH A PROMISE
module _ {sv : Service} where
  -- it leads with what it holds
  abbrev readied : Mind sv → Mind sv
  readied k = with_job None k.agreement.turn (with_patience 6 (with_heard (seven false) k))

  abbrev led : Mind sv → Mind sv
  led k = making (copy_in k.agreement.promised (accepted k)) (readied k)

  lead_mind : (k : Mind sv) → 2 ≤ k.agreement.all → (lead k).mind ≡ led k
  lead_mind k two = proposes_mind (copy_in k.agreement.promised (accepted k)) (readied k) two

  -- it offers that to each other
  proposes_tells : (p : Proposal sv) (m : Mind sv) → 2 ≤ m.agreement.all → (j : ℕ) → j < m.agreement.all → (j ≡ m.agreement.me → ⊥) → Memᴰ (Says j (Propose p false)) (proposes p m).does
  unfolding then_do tell_all
  proposes_tells p m two j jl ne = Memᴰ.append_left (answer (making p m)).does (to_each_says _ j _ (rw (cond-false {A = List (Does (Msg sv) sv.R)} (eqb j m.agreement.me) [] (Says j (word_to (making p m) j) ∷ []) (ne_eqb j m.agreement.me ne)) (Memᴰ.head (ap (λ (w : Msg sv). Says j w) (sym word)))) m.agreement.all jl)
    where
      word : word_to (making p m) j ≡ Propose p false
      word = cond-false (is_some (get_or (own_vote m.agreement) j None)) _ _ (ap (λ (o : Option ℕ). is_some o) (own_only m.agreement j ne)) ∙ ap (λ (c : Bool). Propose p c) (not_alone p m two)

  abbrev has_most : Mind sv → Bool
  has_most k = quorum k.agreement.all k.agreement.places k.agreement.votes

  hears_promise : (j : ℕ) (v : View) (x : ℕ) (p : Proposal sv) (n : Mind sv) → n.agreement.role ≡ Candidate → n.agreement.promised ≡ v → turn (Said j (Promise v x p)) n ≡ elect (reported j x p n)
  unfolding turn hears on_promise then_do
  hears_promise j v x p n r e = cond-true (is_candidate n.agreement.role && eqb (rank v) (rank n.agreement.promised)) (then_do (still (reported j x p n)) elect) (still n) (and_from _ _ (rw r refl) (eq-eqb _ _ (ap (λ (u : View). rank u) (sym e))))

  elects_to : (j x : ℕ) (p : Proposal sv) (n : Mind sv) → has_most (reported j x p n) ≡ true → elect (reported j x p n) ≡ lead (reported j x p n)
  unfolding elect
  elects_to j x p n e = cond-true (has_most (reported j x p n)) (lead (reported j x p n)) (still (reported j x p n)) e

  elects_not : (j x : ℕ) (p : Proposal sv) (n : Mind sv) → has_most (reported j x p n) ≡ false → elect (reported j x p n) ≡ still (reported j x p n)
  unfolding elect
  elects_not j x p n e = cond-false (has_most (reported j x p n)) (lead (reported j x p n)) (still (reported j x p n)) e

  higher_than : (p : Proposal sv) (n : Mind sv) → (id_of p ≤ id_of (higher p n)) × (id_of (accepted n) ≤ id_of (higher p n))
  higher_than p n = cond_both (is_higher p n) p (accepted n) (λ (q : Proposal sv). (id_of p ≤ id_of q) × (id_of (accepted n) ≤ id_of q)) (λ e. grind (arith, nat_tests)) (λ e. grind (arith, nat_tests))

-- GATHERS: i is a candidate with the mind d, and heard promises, which are no quorum yet. u: the scene in which all that vote promised
pub record Gathers {sv : Service} (st : Steady sv) (all : ℕ) (group : List ℕ) (b : ℕ) (s : Scene (Mind sv) (Msg sv)) (i : ℕ) (m : Mind sv) (u : Scene (Mind sv) (Msg sv)) (d : Mind sv) : Type 0 where
  pub scene : Scene (Mind sv) (Msg sv)
  pub came : Reaches all group s scene
  pub up : scene.house i ≡ there d
  pub others : (j : ℕ) → (j ≡ i → ⊥) → scene.house j ≡ u.house j
  pub frail : (j : ℕ) → scene.frail j ≡ s.frail j
  pub said : (l : Letter (Msg sv)) → Since all group s u l → Since all group s scene l
  pub role : d.agreement.role ≡ Candidate
  pub promised : d.agreement.promised ≡ view_above b i m.agreement.incarnation
  pub me : d.agreement.me ≡ i
  pub all' : d.agreement.all ≡ all
  pub incarnation : d.agreement.incarnation ≡ m.agreement.incarnation
  pub no : d.agreement.no ≡ m.agreement.no
  pub waiting : d.waiting ≡ m.waiting
  pub joins : d.agreement.joins ≡ seven None
  pub calls : d.calls ≡ seven None
  pub size : st.size d.state ≤ 64 * suc b
  pub seven_votes : length d.agreement.votes ≡ 7
  pub own : get_or d.agreement.votes i None ≡ Some m.agreement.incarnation
  pub none : has_most d ≡ false

-- the candidate, with the mind d, has the votes of the first k replicas, and holds as much as each of them
abbrev Heard : {sv : Service} → List ℕ → Scene (Mind sv) (Msg sv) → (i : ℕ) → Mind sv → ℕ → Type 0
Heard {sv} group s i d k =
    (j : ℕ) → j < k → is_voter group s j ≡ true → (j ≡ i → ⊥) → (q : Mind sv) → s.house j ≡ there q → (get_or d.agreement.votes j None ≡ Some q.agreement.incarnation) × (id_of (accepted q) ≤ id_of (accepted d))

module _ {sv : Service} (st : Steady sv) (all : ℕ) (two : 2 ≤ all) (few : all ≤ 7) (n : ℕ) (es : List (Seen sv.O sv.R)) (s : Scene (Mind sv) (Msg sv)) (g : Goes (code sv) all n es s) (group : List ℕ) (b : ℕ) (low : Low st all group b s) (i : ℕ) (lt : i < all) (ing : Memᴰ i group) (whole' : s.frail i ≡ false) (m : Mind sv)
    (c : Mind sv) (a : Asked all group s i (view_above b i m.agreement.incarnation) c all) where
  abbrev Gathering : Mind sv → Type 0
  Gathering d = Gathers st all group b s i m a.scene d

  abbrev Gathered : ℕ → Type 0
  Gathered k = (d : Mind sv) × Gathering d × Heard group s i d k

  abbrev own' : View
  own' = view_above b i m.agreement.incarnation

  -- a voter of the scene s holds less than whatever is made in the view above b
  below_view : (j : ℕ) (q : Mind sv) → j < all → Memᴰ j group → s.house j ≡ there q → is_member q.agreement.role ≡ true → id_of (accepted q) ≤ rank own' * 18446744073709551616
  below_view j q jl jg up mem =
      let (h, r) = run all few g in let v = (r.replicas j q jl up).0 in let above = rank_higher all b i m.agreement.incarnation q.agreement.promised few v.fits (low.views j q jl jg up) in
      omega (arith, (v.inside mem).view)

  -- i hears the promise of k, and goes on as x
  module _ (k : ℕ) (kl : k < all) (ne : k ≡ i → ⊥) (kg : Memᴰ k group) (w : Vowed all group s i own' a.scene k) (d : Mind sv) (r : Gathering d) where
    abbrev heard : Mind sv
    heard = reported k w.mind.agreement.incarnation (accepted w.mind) d

    hears_as : (x : Turn sv) → elect heard ≡ x → Reaches all group s (turned (code sv) i x r.scene)
    hears_as x e = talk_to all group s r.scene i d (letter k i (Promise own' w.mind.agreement.incarnation (accepted w.mind))) x lt ing kg r.came r.up (r.said _ w.said) refl
        (hears_promise k own' w.mind.agreement.incarnation (accepted w.mind) d r.role r.promised ∙ e)

    heard_size : st.size heard.state ≤ 64 * suc b
    heard_size = cond_both (is_higher (accepted w.mind) d) (accepted w.mind) (accepted d) (λ (q : Proposal sv). st.size q.content.state ≤ 64 * suc b) (λ _. omega (arith, low.sizes k w.mind kl kg w.was)) (λ _. r.size)

    -- no quorum yet
    gathers_on : has_most heard ≡ false → Gathering heard
    gathers_on e =
        record {
          scene = turned (code sv) i (still heard) r.scene;
          came = hears_as (still heard) (elects_not k w.mind.agreement.incarnation (accepted w.mind) d e);
          up = at_same i (there heard) r.scene.house i refl;
          others = λ j jn. at_other i (there heard) r.scene.house j jn ∙ r.others j jn;
          frail = λ j. whole_stays all group s r.scene i (still heard) (r.frail i ∙ whole') j ∙ r.frail j;
          said = λ l z. since_stays all group s r.scene i (still heard) l (r.said l z);
          role = refl;
          promised = r.promised;
          me = r.me;
          all' = r.all';
          incarnation = r.incarnation;
          no = r.no;
          waiting = r.waiting;
          joins = r.joins;
          calls = r.calls;
          size = heard_size;
          seven_votes = length-set d.agreement.votes k _ ∙ r.seven_votes;
          own = get_or-set_other d.agreement.votes k i _ None (λ z. ne (sym z)) ∙ r.own;
          none = e;
        }

    hears_of : Heard group s i d k → Heard group s i heard (suc k)
    hears_of old j jl f jn q up = go (cases_eq j k)
      where
        h : (id_of (accepted w.mind) ≤ id_of (accepted heard)) × (id_of (accepted d) ≤ id_of (accepted heard))
        h = higher_than (accepted w.mind) d

        go : (j ≡ k) ⊎ (j ≡ k → ⊥) → (get_or heard.agreement.votes j None ≡ Some q.agreement.incarnation) × (id_of (accepted q) ≤ id_of (accepted heard))
        go (inl z) = rw (z, un_there q w.mind (sym up ∙ (ap s.house z ∙ w.was))) (get_or-set_same d.agreement.votes k (Some w.mind.agreement.incarnation) None (omega (arith, r.seven_votes)), h.0)
        go (inr z) = let o = old j (omega arith) f jn q up in (get_or-set_other d.agreement.votes k j _ None z ∙ o.0, omega (arith, o.1, h.1))

    enough : 2 ≤ heard.agreement.all
    enough = omega (arith, two, r.all')

    -- who voted follows, and holds nothing above the copy
    follow : (t : Scene (Mind sv) (Msg sv)) → ((j : ℕ) → (j ≡ i → ⊥) → t.house j ≡ r.scene.house j) → (j : ℕ) → j < all → Memᴰ j group → s.frail j ≡ false → (j ≡ i → ⊥) → Follows st (suc b) d.agreement.promised (accepted (led heard)) t j
    follow t kept j jl jg jf jn =
        let o = a.vowed j jl (and_from _ _ (is_found j group jg) (not_from_false _ jf)) jn in
        record {
          mind = promised own' o.mind;
          up = kept j jn ∙ (r.others j jn ∙ o.up);
          role = refl;
          promised = sym r.promised;
          below = omega (arith, below_view j o.mind jl jg o.was o.member, ap (λ (v : View). rank v) r.promised);
          held = omega (arith, low.held j o.mind jl jg o.was);
          size = omega (arith, low.sizes j o.mind jl jg o.was);
        }

    -- a quorum: it leads
    leads : has_most heard ≡ true → Elected st all group b s i m
    leads e =
        record {
          seen = came.0;
          scene = turned (code sv) i x r.scene;
          among = came.1;
          new = posted i x.does ++ before.0;
          posts = pushed (posted i x.does) before.0 s.letters r.scene.letters before.1;
          frail = λ j. whole_stays all group s r.scene i x (r.frail i ∙ whole') j ∙ r.frail j;
          mind = led heard;
          up = at_same i (there x.mind) r.scene.house i refl ∙ ap (λ (y : Mind sv). there y) (lead_mind heard enough);
          role = refl;
          incarnation = r.incarnation;
          promised = r.promised;
          view = r.promised;
          seq = refl;
          chosen = not_alone (copy_in heard.agreement.promised (accepted heard)) (readied heard) enough;
          votes = refl;
          patience = refl;
          job = refl;
          joins = r.joins;
          calls = r.calls;
          no = r.no;
          waiting = r.waiting;
          size = heard_size;
          told = λ j jl jn. Memᴰ.append_left before.0 (said_posted i j _ x.does (proposes_tells (copy_in heard.agreement.promised (accepted heard)) (readied heard) enough j (omega (arith, jl, r.all')) (λ z. jn (z ∙ r.me))));
          voters = follow (turned (code sv) i x r.scene) (at_other i (there x.mind) r.scene.house);
          others = λ j f. let jn = λ (z : j ≡ i). true≢false (sym f ∙ (ap s.frail z ∙ whole')) in at_other i (there x.mind) r.scene.house j jn ∙ (r.others j jn ∙ a.others j jn (and_right (is_in j group) _ (not_from_true _ f)));
        }
      where
        x : Turn sv
        x = lead heard

        came : Reaches all group s (turned (code sv) i x r.scene)
        came = hears_as x (elects_to k w.mind.agreement.incarnation (accepted w.mind) d e)

        before : (new : List (Letter (Msg sv))) × (r.scene.letters ≡ new ++ s.letters)
        before = new_of all group s r.came.1

  -- a replica that does not vote, or i itself, is passed over
  passes : (k : ℕ) (d : Mind sv) → (is_voter group s k ≡ true → (k ≡ i → ⊥) → ⊥) → Heard group s i d k → Heard group s i d (suc k)
  passes k d out old j jl f jn = old j (less (cases_eq j k)) f jn
    where
      less : (j ≡ k) ⊎ (j ≡ k → ⊥) → j < k
      less (inl z) = absurd (out (rw z at f) (λ y. jn (z ∙ y)))
      less (inr z) = omega arith

  gathers : Gathered 0 → (k : ℕ) → k ≤ all → Elected st all group b s i m ⊎ Gathered k
  gathers o zero le = inr o
  gathers o (suc k) le = ⊎_elim (λ e. inl e) (λ r. one r (cases_Bool (is_voter group s k)) (cases_eq k i)) (gathers o k (omega arith))
    where
      one : Gathered k → (is_voter group s k ≡ true) ⊎ (is_voter group s k ≡ false) → (k ≡ i) ⊎ (k ≡ i → ⊥) → Elected st all group b s i m ⊎ Gathered (suc k)
      one (d, r, o) (inr e) z = inr (d, r, passes k d (λ f _. true≢false (sym f ∙ e)) o)
      one (d, r, o) (inl e) (inl z) = inr (d, r, passes k d (λ _ f. f z) o)
      one (d, r, o) (inl e) (inr z) =
          let kg = found_in k group (and_parts (is_in k group) _ e).0 in let w = a.vowed k (omega arith) e z in
          ⊎_elim (λ y. inl (leads k (omega arith) z kg w d r y)) (λ y. inr (heard k (omega arith) z kg w d r, gathers_on k (omega arith) z kg w d r y, hears_of k (omega arith) z kg w d r o)) (cases_Bool (has_most (heard k (omega arith) z kg w d r)))

  -- when all promises came, each counts; so they are a quorum
  is_counted : (d : Mind sv) → Gathering d → Heard group s i d all → (j : ℕ) → j < all → is_voter group s j ≡ true → (j ≡ i) ⊎ (j ≡ i → ⊥) → counts d.agreement.votes d.agreement.places j ≡ true
  is_counted d r o j jl f (inl z) =
      let (k, go) = among_goes_here g r.came.1 in let (_, le, nm) = member_is_named sv all _ few _ r.scene go i d lt r.up (rw r.role refl) in
      rw (z, r.own) (eq-eqb _ _ (sym (nm (accepted d) (held i d lt r.up refl) le ∙ r.incarnation)))
  is_counted d r o j jl f (inr z) =
      let w = a.vowed j jl f z in let y = o j jl f z w.mind w.was in
      let (k, go) = among_goes_here g r.came.1 in let (_, le, nm) = member_is_named sv all _ few _ r.scene go j (promised own' w.mind) jl (r.others j z ∙ w.up) refl in
      rw y.0 (eq-eqb _ _ (sym (nm (accepted d) (held i d lt r.up refl) (omega (arith, le, y.1)))))

  all_are_most : Enough all group s → Gathered all → ⊥
  all_are_most most (d, r, o) =
      let more = how_many_mono all (is_voter group s) (counts d.agreement.votes d.agreement.places) (λ j jl f. is_counted d r o j jl f (cases_eq j i)) in
      let z = rw r.all' at (ltb-false d.agreement.all (2 * how_many d.agreement.all (counts d.agreement.votes d.agreement.places)) r.none) in omega (arith, most)

  leads_at_last : Enough all group s → Gathered 0 → Elected st all group b s i m
  leads_at_last most o = ⊎_elim (λ e. e) (λ r. absurd (all_are_most most r)) (gathers o all (omega arith))

-- a candidate that has its own vote only
starts : {sv : Service} (st : Steady sv) (all : ℕ) → 2 ≤ all → all ≤ 7 → (group : List ℕ) (b : ℕ) (s : Scene (Mind sv) (Msg sv)) (i : ℕ) → i < all → (m : Mind sv) (r : Stood st all group b s i m b) (a : Asked all group s i (view_above b i m.agreement.incarnation) r.mind all) → Gathers st all group b s i m a.scene r.mind
starts st all two few group b s i lt m r a =
    record {
      scene = a.scene;
      came = a.came;
      up = a.up;
      others = λ j jn. refl;
      frail = a.frail;
      said = λ l d. d;
      role = r.role;
      promised = r.promised;
      me = r.alone'.me;
      all' = r.alone'.all';
      incarnation = r.alone'.incarnation;
      no = r.alone'.no;
      waiting = r.alone'.waiting;
      joins = r.joins;
      calls = r.calls;
      size = r.size;
      seven_votes = rw r.votes (length-set (seven None) r.mind.agreement.me _);
      own = rw r.votes own_here;
      none = rw r.votes (one_is_few r.mind.agreement.all r.mind.agreement.me (counts (own_vote r.mind.agreement) r.mind.agreement.places) (omega (arith, two, r.alone'.all')) (λ j jn. own_counts r.mind.agreement r.mind.agreement.places j jn));
    }
  where
    own_here : get_or (own_vote r.mind.agreement) i None ≡ Some m.agreement.incarnation
    own_here = rw (r.alone'.me, r.alone'.incarnation) (get_or-set_same (seven None) i (Some m.agreement.incarnation) None (omega (arith, lt, few)))

-- ANY WHOLE REPLICA OF SUCH A GROUP COMES TO LEAD
pub elected : {sv : Service} (st : Steady sv) (all : ℕ) → 2 ≤ all → all ≤ 7 → {n : ℕ} {es : List (Seen sv.O sv.R)} {s : Scene (Mind sv) (Msg sv)} → Goes (code sv) all n es s → (group : List ℕ) (b : ℕ) → Low st all group b s → suc b < limit → Enough all group s →
    (i : ℕ) (m : Mind sv) → i < all → Memᴰ i group → s.frail i ≡ false → s.house i ≡ there m → Elected st all group b s i m
elected {sv} st all two few {n} {es} {s} g group b low small most i m lt ing whole' up =
    leads_at_last st all two few n es s g group b low i lt ing whole' m r.mind a most (r.mind, starts st all two few group b s i lt m r a, λ j jl f jn q e. absurd (omega arith))
  where
    self : (m.agreement.me ≡ i) × (m.agreement.all ≡ all)
    self = let (h, v) = run all few g in let w = (v.replicas i m lt up).0.who in (w.me, w.all')

    member : is_member m.agreement.role ≡ true
    member = let (q, at', mem) = (clients g).whole' i whole' in rw (un_there q m (sym at' ∙ up)) at mem

    r : Stood st all group b s i m b
    r = stood st all two group b small s i lt ing whole' m up self.0 self.1 (low.sizes i m lt ing up) member (low.views i m lt ing up)

    a : Asked all group s i (view_above b i m.agreement.incarnation) r.mind all
    a = all_promise st all few n es s g group b low i lt ing m r
