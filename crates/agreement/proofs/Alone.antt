-- One replica alone: it leads the first view for ever, whatever it holds is chosen, each call is answered in the turn in which it comes, and it never falls. So nothing ever waits.
use Rattle.std.proofs.Common.{◌≡◌, ℕ, suc, ◌+◌, ◌*◌, ◌<◌, ◌≤◌, Bool, true, false, not, ◌&&◌, eqb, ltb, List, [], ◌∷◌, ◌++◌, Some, None, Option, sym, refl, ap, ◌∙◌, subst, arith}
use mathlib.Core.List.Memᴰ
use mathlib.Core.List.{Memᴰ}
use Rattle.std.proofs.lemmas.Bool.{eq-eqb, lt-ltb}
use Rattle.runs.specs.Replicas.{Does, Gives, Letter, there, gone, Scene, Seen, at, posted, whole, how_many, Goes, first, hears, is_asked, beats, falls, wakes, turned, with_call}
use Rattle.agreement.specs.declared.Role.TheVariants.{Leader}
use Rattle.agreement.specs.Content.{Service, limit, seven, first_view, fresh_place}
use Rattle.agreement.specs.Machine.{Msg, Mind, Turn, ticks, then_do, to_each, tell_all, forward_head, hands, answer_head, first_from, own_head, does, serve, wait_or_not, quick_or_not, on_call, say_again, stand_or_not, on_beat, turn, code}
use Rattle.agreement.specs.Steady.{Steady}
use Rattle.agreement.proofs.Scenes.{at_same, un_there}
use Rattle.agreement.proofs.Slowly.{sized}
use Rattle.agreement.proofs.Bounds.{bounded}

-- the mind of a replica alone that has answered k calls by q proposals
abbrev lone : (sv : Service) → (votes : List (Option ℕ)) → (patience : ℕ) → (heard : List Bool) → (job : Option ℕ) → (q k : ℕ) → sv.clerk.State → Option sv.K → Mind sv
lone sv vs pt hd jb q k s o =
    record {
      agreement = record { me = 0; all = 1; incarnation = 0; role = Leader; promised = first_view; accepted = record { view = first_view; seq = q }; chosen = true; votes = vs; places = record { incarnation = 0; no = k } ∷ fresh_place 0 ∷ fresh_place 0 ∷ fresh_place 0 ∷ fresh_place 0 ∷ fresh_place 0 ∷ fresh_place 0 ∷ []; no = k; patience = pt; heard = hd; job = jb; turn = 0; joins = seven None };
      state = s;
      outcomes = o ∷ None ∷ None ∷ None ∷ None ∷ None ∷ None ∷ [];
      waiting = [];
      calls = seven None;
    }

abbrev own_vote_only : List (Option ℕ)
own_vote_only = Some 0 ∷ None ∷ None ∷ None ∷ None ∷ None ∷ None ∷ []

module _ (sv : Service) (vs : List (Option ℕ)) (pt : ℕ) (hd : List Bool) (jb : Option ℕ) (q k : ℕ) (s : sv.clerk.State) (o : Option sv.K) where
  read_turn : (n : ℕ) (c : sv.O) → sv.quick c ≡ None → sv.is_read c ≡ true → ltb (suc k) limit ≡ true → ltb (suc q) limit ≡ true → eqb (suc k) (suc k) ≡ true → sv.calm s ≡ true →
      ◌≡◌ {A = Turn sv} (on_call n c (lone sv vs pt hd jb q k s o)) (record { does = Gives n (sv.clerk.reply c s) ∷ []; mind = lone sv own_vote_only pt hd (Some 0) (suc q) (suc k) s o })
  unfolding then_do to_each tell_all forward_head hands answer_head first_from own_head does serve wait_or_not quick_or_not how_many
  read_turn n c e r a b z y = rw (e, a, b, z, a, y, r, z) refl

  write_turn : (n : ℕ) (c : sv.O) → sv.quick c ≡ None → sv.is_read c ≡ false → ltb (suc k) limit ≡ true → ltb (suc q) limit ≡ true → eqb (suc k) (suc k) ≡ true → sv.calm s ≡ true →
      ◌≡◌ {A = Turn sv} (on_call n c (lone sv vs pt hd jb q k s o)) (record { does = Gives n (sv.say c (sv.keep c s)) ∷ []; mind = lone sv own_vote_only pt hd (Some 0) (suc q) (suc k) (sv.clerk.next c s) (Some (sv.keep c s)) })
  unfolding then_do to_each tell_all forward_head hands answer_head first_from own_head does serve wait_or_not quick_or_not how_many
  write_turn n c e r a b z y = rw (e, a, b, z, a, y, r, z) refl

  quick_turn : (n : ℕ) (c : sv.O) (r : sv.R) → sv.quick c ≡ Some r → ◌≡◌ {A = Turn sv} (on_call n c (lone sv vs pt hd jb q k s o)) (record { does = Gives n r ∷ []; mind = lone sv vs pt hd jb q k s o })
  unfolding quick_or_not
  quick_turn n c r e = rw e refl

  -- at a tick it does nothing: it may not stand, has nothing to do, and nobody to speak to
  beat_turn : (b : Bool) → eqb (ticks (lone sv vs pt hd jb q k s o)).agreement.patience 0 ≡ b → ltb (suc q) limit ≡ true →
      ◌≡◌ {A = Turn sv} (on_beat (lone sv vs pt hd jb q k s o)) (record { does = []; mind = lone sv vs (ticks (lone sv vs pt hd jb q k s o)).agreement.patience (ticks (lone sv vs pt hd jb q k s o)).agreement.heard jb q k s o })
  unfolding then_do to_each tell_all forward_head first_from own_head say_again stand_or_not on_beat
  beat_turn true e z = rw (e, z) refl
  beat_turn false e z = rw (e, z) refl

-- the scene of a replica alone, after n steps
pub record Lone {sv : Service} (n : ℕ) (s : Scene (Mind sv) (Msg sv)) : Type 0 where
  pub votes : List (Option ℕ)
  pub patience : ℕ
  pub heard : List Bool
  pub job : Option ℕ
  pub seq : ℕ
  pub no : ℕ
  pub state : sv.clerk.State
  pub kept : Option sv.K
  pub up : s.house 0 ≡ there (lone sv votes patience heard job seq no state kept)
  pub letters : s.letters ≡ []
  pub whole' : s.frail 0 ≡ false
  pub few : seq ≤ n
  pub calls : no ≤ n

module _ {sv : Service} (st : Steady sv) where
  zero_only : (i : ℕ) → i < 1 → i ≡ 0
  zero_only i lt = omega (arith, lt)

  gone_there : {m : Mind sv} → gone ≡ there m → ⊥
  gone_there e = let z : ◌≡◌ {A = ℕ} 0 1 = cc in omega arith

  -- one of one is more than half
  always_most : (s : Scene (Mind sv) (Msg sv)) (i : ℕ) → i ≡ 0 → 1 ≤ how_many 1 (at i true s.frail)
  unfolding how_many
  always_most s i z = rw (at_same i true s.frail 0 (sym z)) (omega arith)

  -- a turn of the replica, after which its mind is this and nothing was said
  turned_lone : (n : ℕ) (s t : Scene (Mind sv) (Msg sv)) → Lone n s → (vs : List (Option ℕ)) (pt : ℕ) (hd : List Bool) (jb : Option ℕ) (q k : ℕ) (c : sv.clerk.State) (o : Option sv.K) → q ≤ suc n → k ≤ suc n →
      t.house 0 ≡ there (lone sv vs pt hd jb q k c o) → t.letters ≡ s.letters → t.frail 0 ≡ false → Lone (suc n) t
  turned_lone n s t l vs pt hd jb q k c o a b e p f = record { votes = vs; patience = pt; heard = hd; job = jb; seq = q; no = k; state = c; kept = o; up = e; letters = p ∙ l.letters; whole' = f; few = a; calls = b }

  -- the scene after a turn x of the replica 0 with the mind m
  turned_by : (n : ℕ) (s : Scene (Mind sv) (Msg sv)) (ws : Scene (Mind sv) (Msg sv)) → ws.house ≡ s.house → ws.letters ≡ s.letters → ws.frail ≡ s.frail → Lone n s → (x : Turn sv) (ds : List (Does (Msg sv) sv.R)) → (vs : List (Option ℕ)) (pt : ℕ) (hd : List Bool) (jb : Option ℕ) (q k : ℕ) (c : sv.clerk.State) (o : Option sv.K) → q ≤ suc n → k ≤ suc n →
      x ≡ record { does = ds; mind = lone sv vs pt hd jb q k c o } → posted {R = sv.R} 0 ds ≡ [] → (i : ℕ) → i ≡ 0 → Lone (suc n) (turned (code sv) i x ws)
  turned_by n s ws h g f l x ds vs pt hd jb q k c o a b e p i z =
      let y : posted {R = sv.R} i x.does ≡ [] = rw (z, e) p in
      turned_lone n s (turned (code sv) i x ws) l vs pt hd jb q k c o a b (at_same i (there x.mind) ws.house 0 (sym z) ∙ ap (λ (y : Turn sv). there y.mind) e) (ap (λ (l : List (Letter (Msg sv))). l ++ ws.letters) y ∙ g) (at_same i (ws.frail i && not (whole x.does)) ws.frail 0 (sym z) ∙ ap (λ (b : Bool). b && not (whole x.does)) (ap (λ (w : ℕ → Bool). w i) f ∙ (ap s.frail z ∙ l.whole')))

  -- every run of one replica that is not too long
  pub alone : {n : ℕ} {es : List (Seen sv.O sv.R)} {s : Scene (Mind sv) (Msg sv)} → Goes (code sv) 1 n es s → n < st.most + 256 → Lone n s
  unfolding posted turn how_many
  alone first short = record { votes = seven None; patience = 6; heard = seven false; job = None; seq = 0; no = 0; state = sv.clerk.start; kept = None; up = refl; letters = refl; whole' = refl; few = omega arith; calls = omega arith }
  alone (hears {s = s} i m l lt g e d to) short = absurd (Memᴰ.not-nil (subst (Memᴰ l) (alone g (omega (arith, short))).letters d))
  alone (is_asked {n = n} {s = s} i k o m lt fits g e new) short =
      let l = alone g (omega (arith, short)) in let z = zero_only i lt in let is : m ≡ lone sv l.votes l.patience l.heard l.job l.seq l.no l.state l.kept = un_there _ _ (sym e ∙ (ap s.house z ∙ l.up)) in
      subst (λ (y : Mind sv). Lone (suc n) (turned (code sv) i (on_call k o y) (with_call i k s))) (sym is) (called' n s l i k o z short ((bounded (sized st) 1 g).minds 0 _ l.up).held.state)
    where
      called' : (n : ℕ) (s : Scene (Mind sv) (Msg sv)) (l : Lone n s) (i k : ℕ) (o : sv.O) → i ≡ 0 → suc n < st.most + 256 → st.size l.state ≤ 64 * n → Lone (suc n) (turned (code sv) i (on_call k o (lone sv l.votes l.patience l.heard l.job l.seq l.no l.state l.kept)) (with_call i k s))
      called' n s l i k o z short small = by (sv.quick o) refl (sv.is_read o) refl
        where
          by : (q : Option sv.R) → sv.quick o ≡ q → (b : Bool) → sv.is_read o ≡ b → Lone (suc n) (turned (code sv) i (on_call k o (lone sv l.votes l.patience l.heard l.job l.seq l.no l.state l.kept)) (with_call i k s))
          by (Some r) e b f = turned_by n s (with_call i k s) refl refl refl l _ (Gives k r ∷ []) l.votes l.patience l.heard l.job l.seq l.no l.state l.kept (omega (arith, l.few)) (omega (arith, l.calls)) (quick_turn sv l.votes l.patience l.heard l.job l.seq l.no l.state l.kept k o r e) refl i z
          by None e true f =
              turned_by n s (with_call i k s) refl refl refl l _ (Gives k (sv.clerk.reply o l.state) ∷ []) own_vote_only l.patience l.heard (Some 0) (suc l.seq) (suc l.no) l.state l.kept (omega (arith, l.few)) (omega (arith, l.calls))
              (read_turn sv l.votes l.patience l.heard l.job l.seq l.no l.state l.kept k o e f (lt-ltb _ _ (omega (arith, l.calls, short))) (lt-ltb _ _ (omega (arith, l.few, short))) (eq-eqb _ _ refl) (st.calm l.state (omega (arith, small, short)))) refl i z
          by None e false f =
              turned_by n s (with_call i k s) refl refl refl l _ (Gives k (sv.say o (sv.keep o l.state)) ∷ []) own_vote_only l.patience l.heard (Some 0) (suc l.seq) (suc l.no) (sv.clerk.next o l.state) (Some (sv.keep o l.state)) (omega (arith, l.few)) (omega (arith, l.calls))
              (write_turn sv l.votes l.patience l.heard l.job l.seq l.no l.state l.kept k o e f (lt-ltb _ _ (omega (arith, l.calls, short))) (lt-ltb _ _ (omega (arith, l.few, short))) (eq-eqb _ _ refl) (st.calm l.state (omega (arith, small, short)))) refl i z
  alone (beats {n = n} {s = s} i m lt g e) short =
      let l = alone g (omega (arith, short)) in let z = zero_only i lt in let is : m ≡ lone sv l.votes l.patience l.heard l.job l.seq l.no l.state l.kept = un_there _ _ (sym e ∙ (ap s.house z ∙ l.up)) in
      subst (λ (y : Mind sv). Lone (suc n) (turned (code sv) i (on_beat y) s)) (sym is)
      (turned_by n s s refl refl refl l _ [] l.votes _ _ l.job l.seq l.no l.state l.kept (omega (arith, l.few)) (omega (arith, l.calls)) (beat_turn sv l.votes l.patience l.heard l.job l.seq l.no l.state l.kept _ refl (lt-ltb _ _ (omega (arith, l.few, short)))) refl i z)
  alone (falls {s = s} i m lt g e few) short = absurd (omega (arith, few, always_most s i (zero_only i lt)))
  alone (wakes {s = s} i x lt new g e) short = absurd (let l = alone g (omega (arith, short)) in gone_there (sym e ∙ (ap s.house (zero_only i lt) ∙ l.up)))
