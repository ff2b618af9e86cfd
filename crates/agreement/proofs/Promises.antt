-- PROMISES: once a replica of the group stands for a view above all views of the group, each of the others that is whole promises it that view, and tells it what it holds.
use Rattle.std.proofs.Common.{◌≡◌, ℕ, zero, suc, ◌<◌, ◌≤◌, Bool, true, false, not, ◌&&◌, eqb, ◌⊎◌, List, [], ◌∷◌, sym, refl, ap, ◌∙◌, subst, inl, inr, arith}
use mathlib.Core.List.{Memᴰ}
use Rattle.std.proofs.lemmas.Bool.{cond-true, cond-false, and_parts, and_from, not-true, not_from_false, ne_eqb, lt-ltb, le-ltb, and_left, cases_eq, cases_Bool, true≢false}
use Rattle.runs.specs.Replicas.{Does, Says, Said, Scene, Seen, there, is_in, Goes, turned}
use Rattle.agreement.specs.declared.View.{View}
use Rattle.agreement.specs.Content.{Service, rank, FitView}
use Rattle.agreement.specs.Steady.{Steady}
use Rattle.agreement.specs.Machine.{Msg, Prepare, Promise, Mind, accepted, is_member, Turn, still, is_below, is_own, may_promise, is_mine, promised, promise, catch_up, on_prepare, hears, turn, code}
use Rattle.agreement.proofs.Scenes.{at_same, at_other}
use Rattle.agreement.proofs.Runs.{run}
use Rattle.agreement.proofs.Clients.{clients}
use Rattle.agreement.proofs.Stages.{Low, view_above}
use Rattle.agreement.proofs.Steps.{letter, whole_stays, Reaches, Since, talk_to, since_stays, since_said}
use Rattle.agreement.proofs.Counting.{found_in}
use Rattle.agreement.proofs.Standing.{Stood}

-- a test for being in the group
-- a view of a higher number is higher
pub rank_higher : (all b i x : ℕ) (u : View) → all ≤ 7 → FitView all u → u.number ≤ b → rank u < rank (view_above b i x)
unfolding rank
rank_higher all b i x u few f le = omega (arith, f.leader, f.incarnation)

-- a member promises a view of another that is above what it promised
pub promises : {sv : Service} (i : ℕ) (v : View) (k : Mind sv) → is_member k.agreement.role ≡ true → (v.leader ≡ k.agreement.me → ⊥) → rank k.agreement.promised < rank v → rank k.agreement.accepted.view < rank v →
    turn (Said i (Prepare v)) k ≡ record { does = Says v.leader (Promise v k.agreement.incarnation (accepted k)) ∷ []; mind = promised v k }
unfolding turn hears on_prepare
promises {sv} i v k mem ne lt le =
    cond-true (is_member k.agreement.role && not (is_own v k)) _ (still k) (and_from _ _ mem (not_from_false _ (and_left _ _ other))) ∙
    cond-false (is_below v k) (catch_up i k) _ (le-ltb _ _ (omega arith)) ∙
    cond-true (may_promise v k) (promise v k) (still k) (lt-ltb _ _ le) ∙
    ap (λ (ds : List (Does (Msg sv) sv.R)). record { does = ds; mind = promised v k }) (cond-false (is_mine v k) [] _ other)
  where
    other : eqb v.leader k.agreement.me ≡ false
    other = ne_eqb _ _ ne

-- who votes: in the group, and whole
abbrev pub is_voter : {sv : Service} → List ℕ → Scene (Mind sv) (Msg sv) → ℕ → Bool
is_voter group s j = is_in j group && not (s.frail j)

-- VOWED: the replica j, whose mind in the scene s was this, promised v, and told i what it holds
pub record Vowed {sv : Service} (all : ℕ) (group : List ℕ) (s : Scene (Mind sv) (Msg sv)) (i : ℕ) (v : View) (t : Scene (Mind sv) (Msg sv)) (j : ℕ) : Type 0 where
  pub mind : Mind sv
  pub was : s.house j ≡ there mind
  pub member : is_member mind.agreement.role ≡ true
  pub up : t.house j ≡ there (promised v mind)
  pub said : Since all group s t (letter j i (Promise v mind.agreement.incarnation (accepted mind)))

-- ASKED: of the first k replicas all that vote promised v to i, whose mind is c; nobody else did anything
pub record Asked {sv : Service} (all : ℕ) (group : List ℕ) (s : Scene (Mind sv) (Msg sv)) (i : ℕ) (v : View) (c : Mind sv) (k : ℕ) : Type 0 where
  pub scene : Scene (Mind sv) (Msg sv)
  pub came : Reaches all group s scene
  pub up : scene.house i ≡ there c
  pub frail : (j : ℕ) → scene.frail j ≡ s.frail j
  pub asks : (j : ℕ) → j < all → (j ≡ i → ⊥) → Since all group s scene (letter i j (Prepare v))
  pub vowed : (j : ℕ) → j < k → is_voter group s j ≡ true → (j ≡ i → ⊥) → Vowed all group s i v scene j
  pub later : (j : ℕ) → k ≤ j → (j ≡ i → ⊥) → scene.house j ≡ s.house j
  pub others : (j : ℕ) → (j ≡ i → ⊥) → is_voter group s j ≡ false → scene.house j ≡ s.house j

module _ {sv : Service} (st : Steady sv) (all : ℕ) (few : all ≤ 7) (n : ℕ) (es : List (Seen sv.O sv.R)) (s : Scene (Mind sv) (Msg sv)) (g : Goes (code sv) all n es s) (group : List ℕ) (b : ℕ) (low : Low st all group b s) (i : ℕ) (lt : i < all) (ing : Memᴰ i group) (x : ℕ) (c : Mind sv) where
  abbrev pub view : View
  view = view_above b i x

  pub voter_in : (j : ℕ) → is_voter group s j ≡ true → Memᴰ j group
  voter_in j e = found_in j group (and_parts (is_in j group) _ e).0

  pub voter_whole : (j : ℕ) → is_voter group s j ≡ true → s.frail j ≡ false
  voter_whole j e = not-true _ (and_parts (is_in j group) _ e).1

  can_promise : (j : ℕ) (q : Mind sv) → j < all → is_voter group s j ≡ true → (j ≡ i → ⊥) → s.house j ≡ there q → is_member q.agreement.role ≡ true → turn (Said i (Prepare view)) q ≡ record { does = Says i (Promise view q.agreement.incarnation (accepted q)) ∷ []; mind = promised view q }
  can_promise j q jl e ne up mem =
      let (h, r) = run all few g in let v = (r.replicas j q jl up).0 in let above = rank_higher all b i x q.agreement.promised few v.fits (low.views j q jl (voter_in j e) up) in
      promises i view q mem (λ z. ne (sym (z ∙ v.who.me))) above (omega (arith, (v.inside mem).view))

  -- the replica k promises
  vows : (k : ℕ) → k < all → is_voter group s k ≡ true → (k ≡ i → ⊥) → (q : Mind sv) → s.house k ≡ there q → is_member q.agreement.role ≡ true → Asked all group s i view c k → Asked all group s i view c (suc k)
  vows k kl e ne q was mem a =
      record {
        scene = t;
        came = talk_to all group s a.scene k q (letter i k (Prepare view)) y kl (voter_in k e) ing a.came (a.later k (omega arith) ne ∙ was) (a.asks k kl ne) refl (can_promise k q kl e ne was mem);
        up = at_other k (there (promised view q)) a.scene.house i (λ z. ne (sym z)) ∙ a.up;
        frail = λ j. whole_stays all group s a.scene k y (a.frail k ∙ voter_whole k e) j ∙ a.frail j;
        asks = λ j jl jn. since_stays all group s a.scene k y (letter i j (Prepare view)) (a.asks j jl jn);
        vowed = λ j jl f jn. vowed j jl f jn (cases_eq j k);
        later = λ j le jn. at_other k (there (promised view q)) a.scene.house j (λ z. omega arith) ∙ a.later j (omega arith) jn;
        others = λ j jn f. at_other k (there (promised view q)) a.scene.house j (λ z. true≢false (sym e ∙ (rw z at f))) ∙ a.others j jn f;
      }
    where
      y : Turn sv
      y = record { does = Says i (Promise view q.agreement.incarnation (accepted q)) ∷ []; mind = promised view q }

      t : Scene (Mind sv) (Msg sv)
      t = turned (code sv) k y a.scene

      vowed : (j : ℕ) → j < suc k → is_voter group s j ≡ true → (j ≡ i → ⊥) → (j ≡ k) ⊎ (j ≡ k → ⊥) → Vowed all group s i view t j
      vowed j jl f jn (inl z) =
          subst (Vowed all group s i view t) (sym z) (record { mind = q; was = was; member = mem; up = at_same k (there (promised view q)) a.scene.house k refl; said = since_said all group s a.scene k i (Promise view q.agreement.incarnation (accepted q)) y a.came (Memᴰ.head refl) })
      vowed j jl f jn (inr z) =
          let o = a.vowed j (omega arith) f jn in
          record { mind = o.mind; was = o.was; member = o.member; up = at_other k (there (promised view q)) a.scene.house j z ∙ o.up; said = since_stays all group s a.scene k y (letter j i (Promise view o.mind.agreement.incarnation (accepted o.mind))) o.said }

  -- the replica k does not vote, or is i
  skips : (k : ℕ) → (is_voter group s k ≡ true → (k ≡ i → ⊥) → ⊥) → Asked all group s i view c k → Asked all group s i view c (suc k)
  skips k out a =
      record { scene = a.scene; came = a.came; up = a.up; frail = a.frail; asks = a.asks; vowed = λ j jl f jn. a.vowed j (less j jl f jn (cases_eq j k)) f jn; later = λ j le jn. a.later j (omega arith) jn; others = a.others }
    where
      less : (j : ℕ) → j < suc k → is_voter group s j ≡ true → (j ≡ i → ⊥) → (j ≡ k) ⊎ (j ≡ k → ⊥) → j < k
      less j jl f jn (inl z) = absurd (out (rw z at f) (λ w. jn (z ∙ w)))
      less j jl f jn (inr z) = omega arith

  asked : Asked all group s i view c 0 → (k : ℕ) → k ≤ all → Asked all group s i view c k
  asked a zero le = a
  asked a (suc k) le = one (asked a k (omega arith)) (cases_Bool (is_voter group s k)) (cases_eq k i)
    where
      one : Asked all group s i view c k → (is_voter group s k ≡ true) ⊎ (is_voter group s k ≡ false) → (k ≡ i) ⊎ (k ≡ i → ⊥) → Asked all group s i view c (suc k)
      one o (inr e) z = skips k (λ f _. true≢false (sym f ∙ e)) o
      one o (inl e) (inl z) = skips k (λ _ f. f z) o
      one o (inl e) (inr z) = let (q, was, mem) = (clients g).whole' k (voter_whole k e) in vows k (omega arith) e z q was mem o

-- all that vote promise the view for which i stood
pub all_promise : {sv : Service} (st : Steady sv) (all : ℕ) → all ≤ 7 → (n : ℕ) (es : List (Seen sv.O sv.R)) (s : Scene (Mind sv) (Msg sv)) → Goes (code sv) all n es s → (group : List ℕ) (b : ℕ) → Low st all group b s → (i : ℕ) → i < all → Memᴰ i group → (m : Mind sv) (r : Stood st all group b s i m b) →
    Asked all group s i (view_above b i m.agreement.incarnation) r.mind all
all_promise st all few n es s g group b low i lt ing m r =
    asked st all few n es s g group b low i lt ing m.agreement.incarnation r.mind (record { scene = r.scene; came = r.alone'.came; up = r.alone'.up; frail = r.alone'.frail; asks = r.asked; vowed = λ j jl f jn. absurd (omega arith); later = λ j le jn. r.alone'.others j jn; others = λ j jn f. r.alone'.others j jn }) all (omega arith)
