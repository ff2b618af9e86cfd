-- A group gets on by phases: as long as a call waits at one of it that is whole, that one comes to lead and answers its oldest; when none waits, one that is frail is woken, if it is down, and made whole. Each phase leaves less to do, so after a few of them nothing is left.
-- What a phase does is taken for granted here (CallPhase, HealPhase); it is shown in Answering.antt and Healing.antt.
use Rattle.std.proofs.Common.{◌≡◌, ℕ, zero, suc, ◌+◌, ◌*◌, ◌<◌, ◌≤◌, Bool, true, false, cond, not, ◌&&◌, T, ltb, ◌⊎◌, List, [], ◌∷◌, ◌++◌, length, sym, refl, ap, ◌∙◌, subst, inl, inr, ⊎_elim, arith}
use mathlib.Core.List.Memᴰ
use mathlib.Core.List.{Memᴰ}
use Rattle.std.proofs.lemmas.Bool.{and_parts, and_from, not-true, ltb-true, ltb-false, cases_eq, false≢true}
use Rattle.runs.specs.Replicas.{Said, Beat, House, there, gone, Scene, Seen, gave, Waits, at, is_in, Goes, woken}
use Rattle.runs.specs.Progress.{Among, stay, talk, beat, wake, Enough}
use Rattle.agreement.specs.Content.{Service}
use Rattle.agreement.specs.Machine.{Msg, Waiting, Mind, hears, on_beat, turn, woke, code}
use Rattle.agreement.specs.Steady.{Steady}
use Rattle.agreement.proofs.Scenes.{at_same, at_other, un_there}
use Rattle.agreement.proofs.Clients.{clients}
use Rattle.agreement.proofs.CameIn.{fewer_wait, hears_counts, on_beat_counts}
use Rattle.agreement.proofs.Slowly.{sized}
use Rattle.agreement.proofs.Bounds.{Bounded, bounded}
use Rattle.agreement.proofs.Among.{among_goes_here, among_then, among_whole, among_waits}
use Rattle.agreement.proofs.Finding.{sum_to, sum_le, sum_lt, sum_at_most, sum_none, find, not_in}
use Rattle.agreement.proofs.Counting.{how_many_mono, how_many_none, found_in, is_found}
use Rattle.agreement.proofs.Stages.{Low}

module _ {sv : Service} where
  -- how many calls a replica has waiting; is it down
  unfoldable pub waiting_at : House (Mind sv) → ℕ
  waiting_at gone = 0
  waiting_at (there m) = length m.waiting

  unfoldable pub down_at : House (Mind sv) → ℕ
  down_at gone = 1
  down_at (there m) = 0

  down_few : (h : House (Mind sv)) → down_at h ≤ 9
  unfolding down_at
  down_few gone = omega arith
  down_few (there m) = omega arith

module _ {sv : Service} (st : Steady sv) where
  module _ (all : ℕ) (group : List ℕ) where
    waiting_turn : (s : Scene (Mind sv) (Msg sv)) (i j : ℕ) (m n : Mind sv) → s.house i ≡ there m → length n.waiting ≤ length m.waiting → (j ≡ i) ⊎ (j ≡ i → ⊥) → waiting_at (at i (there n) s.house j) ≤ waiting_at (s.house j)
    unfolding waiting_at
    waiting_turn s i j m n e le (inl q) = rw (at_same i (there n) s.house j q, q, e) le
    waiting_turn s i j m n e le (inr ne) = rw (at_other i (there n) s.house j ne) (omega arith)

    waiting_woken : (s : Scene (Mind sv) (Msg sv)) (i r j : ℕ) → (j ≡ i) ⊎ (j ≡ i → ⊥) → waiting_at (at i (there (woke sv i all r)) s.house j) ≤ waiting_at (s.house j)
    unfolding waiting_at
    waiting_woken s i r j (inl q) = rw (at_same i (there (woke sv i all r)) s.house j q) (omega arith)
    waiting_woken s i r j (inr ne) = rw (at_other i (there (woke sv i all r)) s.house j ne) (omega arith)

    pub among_fewer : {s : Scene (Mind sv) (Msg sv)} {fs : List (Seen sv.O sv.R)} {t : Scene (Mind sv) (Msg sv)} → Among (code sv) all group s fs t → (j : ℕ) → waiting_at (t.house j) ≤ waiting_at (s.house j)
    unfolding turn
    among_fewer stay j = omega arith
    among_fewer (talk {t = t} i m l new lt in' by' a here posts d to) j = omega (arith, waiting_turn t i j m (hears l.by l.word m).mind here (fewer_wait m (hears l.by l.word m).mind (hears_counts l.by l.word m)) (cases_eq j i), among_fewer a j)
    among_fewer (beat {t = t} i m lt in' a here) j = omega (arith, waiting_turn t i j m (on_beat m).mind here (fewer_wait m (on_beat m).mind (on_beat_counts m)) (cases_eq j i), among_fewer a j)
    among_fewer (wake {t = t} i r lt in' new a here) j = omega (arith, waiting_woken t i r j (cases_eq j i), among_fewer a j)

    -- incarnations are drawn only for replicas that are down
    down_turn : (s : Scene (Mind sv) (Msg sv)) (i : ℕ) (n : Mind sv) (j : ℕ) → (j ≡ i) ⊎ (j ≡ i → ⊥) → down_at (at i (there n) s.house j) ≤ down_at (s.house j)
    unfolding down_at
    down_turn s i n j (inl q) = rw (at_same i (there n) s.house j q) (omega arith)
    down_turn s i n j (inr ne) = rw (at_other i (there n) s.house j ne) (omega arith)

    down_woken : (s : Scene (Mind sv) (Msg sv)) (i : ℕ) (n : Mind sv) → s.house i ≡ gone → down_at (at i (there n) s.house i) < down_at (s.house i)
    unfolding down_at
    down_woken s i n e = rw (at_same i (there n) s.house i refl, e) (omega arith)

    abbrev downs : Scene (Mind sv) (Msg sv) → ℕ
    downs s = sum_to all (λ j. down_at (s.house j))

    pub among_drawn : {s : Scene (Mind sv) (Msg sv)} {fs : List (Seen sv.O sv.R)} {t : Scene (Mind sv) (Msg sv)} → Among (code sv) all group s fs t → length t.drawn + downs t ≤ length s.drawn + downs s
    among_drawn stay = omega arith
    among_drawn (talk {t = t} i m l new lt in' by' a here posts d to) =
        let n = ((code sv).turns (Said l.by l.word) m).mind in omega (arith, among_drawn a, sum_le all (λ j. down_at (at i (there n) t.house j)) (λ j. down_at (t.house j)) (λ j _. down_turn t i n j (cases_eq j i)))
    among_drawn (beat {t = t} i m lt in' a here) =
        let n = ((code sv).turns Beat m).mind in omega (arith, among_drawn a, sum_le all (λ j. down_at (at i (there n) t.house j)) (λ j. down_at (t.house j)) (λ j _. down_turn t i n j (cases_eq j i)))
    among_drawn (wake {t = t} i r lt in' new a here) =
        let n = woke sv i all r in omega (arith, among_drawn a, sum_lt all (λ j. down_at (at i (there n) t.house j)) (λ j. down_at (t.house j)) (λ j _. down_turn t i n j (cases_eq j i)) i lt (down_woken t i n here))

    -- WHAT IS LEFT TO DO at each replica: its calls that wait, and to make it whole, if it is of the group
    unfoldable pub frail_at : Scene (Mind sv) (Msg sv) → ℕ → ℕ
    frail_at s j = cond (is_in j group && s.frail j) 1 0

    abbrev pub left : Scene (Mind sv) (Msg sv) → ℕ → ℕ
    left s j = waiting_at (s.house j) + frail_at s j

    frail_le : (g a b : Bool) → (a ≡ false → b ≡ false) → cond (g && b) 1 0 ≤ cond (g && a) 1 0
    frail_le false a b f = omega arith
    frail_le true true true f = omega arith
    frail_le true true false f = omega arith
    frail_le true false b f = rw (f refl) (omega arith)

    frail_less : (g a b : Bool) → g ≡ true → a ≡ true → b ≡ false → cond (g && b) 1 0 < cond (g && a) 1 0
    frail_less g a b e f h = rw (e, f, h) (omega arith)

    left_le : {s : Scene (Mind sv) (Msg sv)} {fs : List (Seen sv.O sv.R)} {t : Scene (Mind sv) (Msg sv)} → Among (code sv) all group s fs t → (j : ℕ) → left t j ≤ left s j
    unfolding frail_at
    left_le {s} {fs} {t} a j = omega (arith, among_fewer a j, frail_le (is_in j group) (s.frail j) (t.frail j) (among_whole a j))

    -- at the end
    pub record Mended (t : Scene (Mind sv) (Msg sv)) : Type 0 where
      pub whole : (i : ℕ) → i < all → Memᴰ i group → t.frail i ≡ false
      pub none : (i : ℕ) → i < all → Memᴰ i group → waiting_at (t.house i) ≡ 0

    abbrev pub Gets : Scene (Mind sv) (Msg sv) → (Scene (Mind sv) (Msg sv) → Type 0) → Type 0
    Gets s P = (fs : List (Seen sv.O sv.R)) × (t : Scene (Mind sv) (Msg sv)) × Among (code sv) all group s fs t × P t

    gets_then : {P : Scene (Mind sv) (Msg sv) → Type 0} {s : Scene (Mind sv) (Msg sv)} {fs : List (Seen sv.O sv.R)} {t : Scene (Mind sv) (Msg sv)} → Among (code sv) all group s fs t → Gets t P → Gets s P
    gets_then {fs = fs} a (gs, u, b, p) = (gs ++ fs, u, among_then a b, p)

    frail_none : (g f : Bool) → g ≡ true → ◌≡◌ {A = ℕ} (cond (g && f) 1 0) 0 → f ≡ false
    frail_none true true e z = absurd (omega (arith, z))
    frail_none false true e z = absurd (false≢true e)
    frail_none g false e z = refl

    nothing_left : (t : Scene (Mind sv) (Msg sv)) → ((j : ℕ) → j < all → left t j ≡ 0) → Mended t
    unfolding frail_at
    nothing_left t z =
        record { whole = λ i lt d. frail_none (is_in i group) (t.frail i) (is_found i group d) (omega (arith, z i lt)); none = λ i lt d. omega (arith, z i lt) }

    enough_stays : {s : Scene (Mind sv) (Msg sv)} {fs : List (Seen sv.O sv.R)} {t : Scene (Mind sv) (Msg sv)} → Among (code sv) all group s fs t → Enough all group s → Enough all group t
    enough_stays {s} {fs} {t} a e =
        omega (arith, e, how_many_mono all (λ i. is_in i group && not (s.frail i)) (λ i. is_in i group && not (t.frail i)) (λ i _ k. let (g, f) = and_parts (is_in i group) (not (s.frail i)) k in and_from (is_in i group) (not (t.frail i)) g (ap not (among_whole a i (not-true (s.frail i) f)))))

    -- A PHASE from a scene s, whose numbers are at most b
    pub record From (n b : ℕ) (es : List (Seen sv.O sv.R)) (s : Scene (Mind sv) (Msg sv)) : Type 0 where
      pub goes : Goes (code sv) all n es s
      pub low : Low st all group b s
      pub small : b < st.most + 255
      pub enough : Enough all group s

    -- its replica i, which has the mind m, is up, of the group and not frail
    pub record Whole (s : Scene (Mind sv) (Msg sv)) (i : ℕ) (m : Mind sv) : Type 0 where
      pub lt : i < all
      pub of : Memᴰ i group
      pub whole : s.frail i ≡ false
      pub up : s.house i ≡ there m

    -- i answers its oldest call
    abbrev pub CallPhase : Type 0
    CallPhase =
        (n b : ℕ) (es : List (Seen sv.O sv.R)) (s : Scene (Mind sv) (Msg sv)) → From n b es s → (i : ℕ) (m : Mind sv) → Whole s i m → 0 < length m.waiting → Gets s (λ t. Low st all group (3 + b) t × (waiting_at (t.house i) < length m.waiting))

    -- i, at which no call waits, makes j whole
    abbrev pub HealPhase : Type 0
    HealPhase =
        (n b : ℕ) (es : List (Seen sv.O sv.R)) (s : Scene (Mind sv) (Msg sv)) → From n b es s → (i : ℕ) (m : Mind sv) → Whole s i m → length m.waiting ≡ 0 →
        (j : ℕ) (k : Mind sv) → j < all → Memᴰ j group → s.frail j ≡ true → s.house j ≡ there k → Gets s (λ t. Low st all group (3 + b) t × (t.frail j ≡ false))

    -- one of the group that is down is woken
    low_woken : (b : ℕ) (s : Scene (Mind sv) (Msg sv)) (i r : ℕ) → Low st all group b s → Low st all group b (woken (code sv) all i r s)
    low_woken b s i r l =
        record {
          views = λ j k lt d e. is j k e (cases_eq j i) (λ (m : Mind sv). m.agreement.promised.number ≤ b) (omega arith) (λ e. l.views j k lt d e);
          held = λ j k lt d e. is j k e (cases_eq j i) (λ (m : Mind sv). m.agreement.accepted.view.number ≤ b) (omega arith) (λ e. l.held j k lt d e);
          calls = λ j k lt d e. is j k e (cases_eq j i) (λ (m : Mind sv). m.agreement.no + length m.waiting ≤ b) (omega arith) (λ e. l.calls j k lt d e);
          sizes = λ j k lt d e. is j k e (cases_eq j i) (λ (m : Mind sv). st.size m.state ≤ 64 * b) (rw st.starts (omega arith)) (λ e. l.sizes j k lt d e);
        }
      where
        is : (j : ℕ) (k : Mind sv) → at i (there (woke sv i all r)) s.house j ≡ there k → (j ≡ i) ⊎ (j ≡ i → ⊥) → (P : Mind sv → Type 0) → P (woke sv i all r) → (s.house j ≡ there k → P k) → P k
        is j k e (inl q) P a f = subst P (un_there (woke sv i all r) k (sym (at_same i (there (woke sv i all r)) s.house j q) ∙ e)) a
        is j k e (inr ne) P a f = f (sym (at_other i (there (woke sv i all r)) s.house j ne) ∙ e)

    -- j is up, and else nothing changed but what was drawn
    pub record Woken (b : ℕ) (s : Scene (Mind sv) (Msg sv)) (j : ℕ) (t : Scene (Mind sv) (Msg sv)) : Type 0 where
      pub low : Low st all group b t
      pub mind : Mind sv
      pub up : t.house j ≡ there mind
      pub frail : (i : ℕ) → t.frail i ≡ s.frail i
      pub others : (i : ℕ) (m : Mind sv) → s.house i ≡ there m → t.house i ≡ there m

    gone_there : {m : Mind sv} → gone ≡ there m → ⊥
    gone_there e = let z : ◌≡◌ {A = ℕ} 0 1 = cc in omega arith

    awake : (b : ℕ) (s : Scene (Mind sv) (Msg sv)) (j : ℕ) → j < all → Memᴰ j group → Low st all group b s → suc (length s.drawn) < 18446744073709551616 → (h : House (Mind sv)) → s.house j ≡ h → Gets s (Woken b s j)
    awake b s j lt d l few (there m) e = ([], s, stay, record { low = l; mind = m; up = e; frail = λ i. refl; others = λ i k y. y })
    awake b s j lt d l few gone e = with' (not_in (suc (length s.drawn)) s.drawn (omega arith))
      where
        with' : (r : ℕ) × (r < suc (length s.drawn)) × (is_in r s.drawn ≡ false) → Gets s (Woken b s j)
        with' (r, small, out) = (
          [],
          woken (code sv) all j r s,
          wake j r lt d (omega (arith, few, small), subst (λ (x : Bool). T (not x)) (sym out) tt) stay e,
          record { low = low_woken b s j r l; mind = woke sv j all r; up = at_same j (there (woke sv j all r)) s.house j refl; frail = λ i. refl; others = λ i k y. at_other j (there (woke sv j all r)) s.house i (λ q. gone_there (sym e ∙ (ap s.house (sym q) ∙ y))) ∙ y },
        )

    -- ALL PHASES, one after the other: k bounds what is left to do
    module _ (call : CallPhase) (heal : HealPhase) where
      abbrev Rest : ℕ → Type 0
      Rest k =
          (n b : ℕ) (es : List (Seen sv.O sv.R)) (s : Scene (Mind sv) (Msg sv)) → From n b es s → b + 3 * k < st.most + 255 → suc (length s.drawn + downs s) < 18446744073709551616 → sum_to all (left s) ≤ k → Gets s Mended

      abbrev has_call : Scene (Mind sv) (Msg sv) → ℕ → Bool
      has_call s i = is_in i group && (not (s.frail i) && ltb 0 (waiting_at (s.house i)))

      waiting_is : (h : House (Mind sv)) (m : Mind sv) → h ≡ there m → waiting_at h ≡ length m.waiting
      unfolding waiting_at
      waiting_is h m e = rw e refl

      -- what is left after a phase in which i answered a call, or was made whole
      less_waiting : {s : Scene (Mind sv) (Msg sv)} {fs : List (Seen sv.O sv.R)} {t : Scene (Mind sv) (Msg sv)} → Among (code sv) all group s fs t → (i : ℕ) → i < all → waiting_at (t.house i) < waiting_at (s.house i) → sum_to all (left t) < sum_to all (left s)
      unfolding frail_at
      less_waiting {s} {fs} {t} a i lt less =
          sum_lt all (left t) (left s) (λ j _. left_le a j) i lt (omega (arith, less, frail_le (is_in i group) (s.frail i) (t.frail i) (among_whole a i)))

      less_frail : {s : Scene (Mind sv) (Msg sv)} {fs : List (Seen sv.O sv.R)} {t : Scene (Mind sv) (Msg sv)} → Among (code sv) all group s fs t → (i : ℕ) → i < all → Memᴰ i group → s.frail i ≡ true → t.frail i ≡ false → sum_to all (left t) < sum_to all (left s)
      unfolding frail_at
      less_frail {s} {fs} {t} a i lt d e f = sum_lt all (left t) (left s) (λ j _. left_le a j) i lt (omega (arith, among_fewer a i, frail_less (is_in i group) (s.frail i) (t.frail i) (is_found i group d) e f))

      -- after a phase, the rest
      onward : (k n b : ℕ) (es : List (Seen sv.O sv.R)) (s : Scene (Mind sv) (Msg sv)) → Rest k → From n b es s → b + 3 * suc k < st.most + 255 → suc (length s.drawn + downs s) < 18446744073709551616 → sum_to all (left s) ≤ suc k →
          (fs : List (Seen sv.O sv.R)) (t : Scene (Mind sv) (Msg sv)) → Among (code sv) all group s fs t → Low st all group (3 + b) t → sum_to all (left t) < sum_to all (left s) → Gets s Mended
      onward k n b es s rest f small few le fs t a low less =
          let (c, g) = among_goes_here f.goes a in
          gets_then a (rest c (3 + b) (fs ++ es) t (record { goes = g; low = low; small = omega (arith, small); enough = enough_stays a f.enough }) (omega (arith, small)) (omega (arith, few, among_drawn a)) (omega (arith, less, le)))

      call_step : (k n b : ℕ) (es : List (Seen sv.O sv.R)) (s : Scene (Mind sv) (Msg sv)) → Rest k → From n b es s → b + 3 * suc k < st.most + 255 → suc (length s.drawn + downs s) < 18446744073709551616 → sum_to all (left s) ≤ suc k →
          (i : ℕ) → i < all → has_call s i ≡ true → Gets s Mended
      call_step k n b es s rest f small few le i lt e =
          let (g, r) = and_parts (is_in i group) (not (s.frail i) && ltb 0 (waiting_at (s.house i))) e in let (w, z) = and_parts (not (s.frail i)) (ltb 0 (waiting_at (s.house i))) r in
          let whole = not-true (s.frail i) w in let (m, up, _) = (clients f.goes).whole' i whole in let is = waiting_is (s.house i) m up in
          let (fs, t, a, (low, less)) = call n b es s f i m (record { lt = lt; of = found_in i group g; whole = whole; up = up }) (omega (arith, ltb-true 0 (waiting_at (s.house i)) z, is)) in
          onward k n b es s rest f small few le fs t a low (less_waiting a i lt (omega (arith, less, is)))

      -- one of the group is whole
      some_whole : (s : Scene (Mind sv) (Msg sv)) → Enough all group s → (i : ℕ) × (i < all) × ((is_in i group && not (s.frail i)) ≡ true)
      some_whole s e = ⊎_elim (λ y. y) (λ none. absurd (let z = how_many_none all (λ i. is_in i group && not (s.frail i)) none in omega (arith, e, z))) (find all (λ i. is_in i group && not (s.frail i)))

      idle : (s : Scene (Mind sv) (Msg sv)) (i : ℕ) → is_in i group ≡ true → s.frail i ≡ false → has_call s i ≡ false → waiting_at (s.house i) ≡ 0
      idle s i g w e =
          let h : (not (s.frail i) && ltb 0 (waiting_at (s.house i))) ≡ false = subst (λ (y : Bool). (y && (not (s.frail i) && ltb 0 (waiting_at (s.house i)))) ≡ false) g e in
          let z : ltb 0 (waiting_at (s.house i)) ≡ false = subst (λ (y : Bool). (not y && ltb 0 (waiting_at (s.house i))) ≡ false) w h in
          omega (arith, ltb-false 0 (waiting_at (s.house i)) z)

      heal_step : (k n b : ℕ) (es : List (Seen sv.O sv.R)) (s : Scene (Mind sv) (Msg sv)) → Rest k → From n b es s → b + 3 * suc k < st.most + 255 → suc (length s.drawn + downs s) < 18446744073709551616 → sum_to all (left s) ≤ suc k → ((i : ℕ) → i < all → has_call s i ≡ false) →
          (j : ℕ) → j < all → (is_in j group && s.frail j) ≡ true → Gets s Mended
      heal_step k n b es s rest f small few le none j lt e =
          let (g, fr) = and_parts (is_in j group) (s.frail j) e in let d = found_in j group g in
          let (gs, u, a, w) = awake b s j lt d f.low (omega (arith, few)) (s.house j) refl in
          let (i, li, y) = some_whole s f.enough in let (gi, wi) = and_parts (is_in i group) (not (s.frail i)) y in let whole = not-true (s.frail i) wi in
          let (m, up, _) = (clients f.goes).whole' i whole in let (c, run) = among_goes_here f.goes a in
          let (fs, t, a', (low, healed)) = heal c b (gs ++ es) u (record { goes = run; low = w.low; small = omega (arith, small); enough = enough_stays a f.enough }) i m (record { lt = li; of = found_in i group gi; whole = w.frail i ∙ whole; up = w.others i m up })
          (omega (arith, waiting_is (s.house i) m up, idle s i gi whole (none i li))) j w.mind lt d (w.frail j ∙ fr) w.up in
          let both = among_then a a' in onward k n b es s rest f small few le (fs ++ gs) t both low (less_frail both j lt d fr healed)

      -- neither a call nor anyone frail: nothing is left
      quiet : (s : Scene (Mind sv) (Msg sv)) → ((i : ℕ) → i < all → has_call s i ≡ false) → ((i : ℕ) → i < all → (is_in i group && s.frail i) ≡ false) → Mended s
      quiet s none nobody =
          record { whole = λ i lt d. whole i lt (is_found i group d); none = λ i lt d. idle s i (is_found i group d) (whole i lt (is_found i group d)) (none i lt) }
        where
          whole : (i : ℕ) → i < all → is_in i group ≡ true → s.frail i ≡ false
          whole i lt g = subst (λ (y : Bool). (y && s.frail i) ≡ false) g (nobody i lt)

      pub get_on : (k : ℕ) → Rest k
      get_on zero n b es s f small few le = ([], s, stay, nothing_left s (λ j lt. sum_none all (left s) le j lt))
      get_on (suc k) n b es s f small few le =
          ⊎_elim (λ (i, lt, e). call_step k n b es s (get_on k) f small few le i lt e)
          (λ none. ⊎_elim (λ (j, lt, e). heal_step k n b es s (get_on k) f small few le none j lt e) (λ nobody. ([], s, stay, quiet s none nobody)) (find all (λ i. is_in i group && s.frail i))) (find all (has_call s))

      left_few : (n : ℕ) (s : Scene (Mind sv) (Msg sv)) → Bounded (sized st) all n s → (j : ℕ) → left s j ≤ 9
      unfolding frail_at waiting_at
      left_few n s b j = omega (arith, waits (s.house j) refl, one (is_in j group && s.frail j))
        where
          waits : (h : House (Mind sv)) → s.house j ≡ h → waiting_at h ≤ 8
          waits gone e = omega arith
          waits (there m) e = b.eight j m e

          one : (x : Bool) → cond x 1 0 ≤ 1
          one true = omega arith
          one false = omega arith

      low_first : (n : ℕ) (s : Scene (Mind sv) (Msg sv)) → Bounded (sized st) all n s → Low st all group n s
      low_first n s b = record { views = λ i m _ _ e. (b.minds i m e).view; held = λ i m _ _ e. (b.minds i m e).held.view; calls = λ i m _ _ e. b.calls i m e; sizes = λ i m _ _ e. (b.minds i m e).held.state }

      -- where nothing is left, whatever waited was answered
      answered : (n : ℕ) (es : List (Seen sv.O sv.R)) (s : Scene (Mind sv) (Msg sv)) → Goes (code sv) all n es s → (fs : List (Seen sv.O sv.R)) (t : Scene (Mind sv) (Msg sv)) → Among (code sv) all group s fs t → Mended t →
          (a : Waits) → Memᴰ a s.waits → Memᴰ a.house group → (r : sv.R) × Memᴰ (gave a.house a.number r) fs
      answered n es s g fs t a done w d of =
          ⊎_elim (λ z. absurd (let (k, run) = among_goes_here g a in let h = (bounded (sized st) all run).back w z in empty h.mind.waiting (sym (waiting_is (t.house w.house) h.mind h.up) ∙ done.none w.house h.there' of) h.call h.waits)) (λ y. y) (among_waits a w d)
        where
          empty : (l : List (Waiting sv)) → length l ≡ 0 → (x : Waiting sv) → Memᴰ x l → ⊥
          empty [] e x m = Memᴰ.not-nil m
          empty (y ∷ l) e x m = omega (arith, e)

      pub answers_them : (n : ℕ) → all ≤ 7 → n < st.most → (es : List (Seen sv.O sv.R)) (s : Scene (Mind sv) (Msg sv)) → Goes (code sv) all n es s → Enough all group s →
          (fs : List (Seen sv.O sv.R)) × (t : Scene (Mind sv) (Msg sv)) × Among (code sv) all group s fs t × ((a : Waits) → Memᴰ a s.waits → Memᴰ a.house group → (r : sv.R) × Memᴰ (gave a.house a.number r) fs) × ((i : ℕ) → i < all → Memᴰ i group → t.frail i ≡ false)
      answers_them n few short es s g e =
          let b = bounded (sized st) all g in
          let (fs, t, a, done) = get_on 63 n n es s (record { goes = g; low = low_first n s b; small = omega (arith, short); enough = e }) (omega (arith, short)) (omega (arith, short, few, b.drawn, sum_at_most all (λ j. down_at (s.house j)) (λ j _. down_few (s.house j)))) (omega (arith, few, sum_at_most all (left s) (λ j _. left_few n s b j))) in
          (fs, t, a, answered n es s g fs t a done, done.whole)
