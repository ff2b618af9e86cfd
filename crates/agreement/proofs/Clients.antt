-- Whatever happens: what a replica has waiting waits, whoever is whole is a member and the other way, and no call is answered twice. By induction over runs; then the sentences about clients.
use Rattle.std.proofs.Common.{◌≡◌, ℕ, ◌+◌, ◌<◌, ◌≤◌, Bool, true, false, cond, not, ◌&&◌, ◌||◌, T, eqb, ◌⊎◌, List, [], ◌∷◌, ◌++◌, length, Some, None, Option, sym, refl, ap, ◌∙◌, subst, inl, inr, ⊎_elim, arith, T_not}
use mathlib.Core.List.Memᴰ
use mathlib.Core.List.{Memᴰ}
use Rattle.std.proofs.lemmas.Bool.Decides.{nat_tests}
use Rattle.std.proofs.lemmas.Bool.{cond_both, and_parts, and_from, and_cases, not-true, not-false, leb-true, eqb-true, eq-eqb, ne_eqb, or_left, or_right, cases_eq, cases_Bool, true≢false, false≢true}
use Rattle.runs.specs.Replicas.{Does, Says, Gives, Whole', there, gone, Scene, Seen, asked, Waits, Said, Call', Beat, at, given, without, answered_off, left_by, count_of, was_asked, whole, is_in, Goes, first, hears, is_asked, beats, falls, wakes, turned, with_call, woken, fallen}
use Rattle.agreement.specs.declared.Role.{Role}
use Rattle.agreement.specs.declared.Role.TheVariants.{Recovering, Follower, Leader}
use Rattle.agreement.specs.Content.{Service, Lawful}
use Rattle.agreement.specs.Machine.{Msg, Waiting, is_member, Mind, Turn, turn, first_role, woke, code}
use Rattle.agreement.specs.Waiting.{AnswersWaiting, HandsBack, WholeIsMember, times_given, AnsweredOnce}
use Rattle.agreement.proofs.Scenes.{at_same, at_other, un_there, was_given}
use Rattle.agreement.proofs.Waits.{Wait, Match, Taken, Fair, May, off_in, taken_in, kept_in, match_more, hears_fair, on_beat_fair, on_call_fair, on_call_gives}

-- how often a call of this number waits
unfoldable pub times_waiting : ℕ → List Waits → ℕ
times_waiting k [] = 0
times_waiting k (a ∷ ws) = cond (eqb k a.number) (1 + times_waiting k ws) (times_waiting k ws)

-- match: what a replica has waiting waits; an answer could break it. asked': what waits was asked; only a call adds to it. whole', frail': who is whole is a member, and no other that is there; a turn that makes a member could break them.
-- once: a call waits or was answered at most once, and not before it was asked; an answer could break it, and a call under a number that was used
pub record Clients {sv : Service} (es : List (Seen sv.O sv.R)) (s : Scene (Mind sv) (Msg sv)) : Type 0 where
  pub match : (j : ℕ) (m : Mind sv) → s.house j ≡ there m → Match j m.waiting s.waits
  pub asked' : (a : Waits) → Memᴰ a s.waits → was_asked a.number es ≡ true
  pub whole' : (j : ℕ) → s.frail j ≡ false → (m : Mind sv) × (s.house j ≡ there m) × (is_member m.agreement.role ≡ true)
  pub frail' : (j : ℕ) (m : Mind sv) → s.frail j ≡ true → s.house j ≡ there m → is_member m.agreement.role ≡ false
  pub once : (k : ℕ) → times_given k es + times_waiting k s.waits ≤ cond (was_asked k es) 1 0

-- an answer is taken off those that wait
pub less_waits : (i n k : ℕ) (ws : List Waits) → times_waiting k (without i n ws) ≤ times_waiting k ws
unfolding without times_waiting
less_waits i n k [] = omega arith
less_waits i n k (b ∷ ws) = let ih = less_waits i n k ws in cond_both (eqb i b.house && eqb n b.number) (without i n ws) (b ∷ without i n ws) (λ l. times_waiting k l ≤ times_waiting k (b ∷ ws)) (λ e. grind (arith, nat_tests)) (λ e. grind (arith, nat_tests))

pub off_waits : (i n k : ℕ) (ws : List Waits) → Memᴰ (Wait i n) ws → cond (eqb k n) 1 0 + times_waiting k (without i n ws) ≤ times_waiting k ws
unfolding without times_waiting
off_waits i n k [] d = absurd (Memᴰ.not-nil d)
off_waits i n k (b ∷ ws) d =
    ⊎_elim (λ e. here' (eq-eqb i b.house (ap (λ (a : Waits). a.house) e)) (eq-eqb n b.number (ap (λ (a : Waits). a.number) e)) (ap (λ (a : Waits). a.number) e)) (λ r. later (off_waits i n k ws r)) (Memᴰ.cases_cons d)
  where
    here' : eqb i b.house ≡ true → eqb n b.number ≡ true → n ≡ b.number → cond (eqb k n) 1 0 + times_waiting k (cond (eqb i b.house && eqb n b.number) (without i n ws) (b ∷ without i n ws)) ≤ cond (eqb k b.number) (1 + times_waiting k ws) (times_waiting k ws)
    here' e f q = rw (e, f) (let l = less_waits i n k ws in grind (arith, nat_tests))

    later : cond (eqb k n) 1 0 + times_waiting k (without i n ws) ≤ times_waiting k ws → cond (eqb k n) 1 0 + times_waiting k (cond (eqb i b.house && eqb n b.number) (without i n ws) (b ∷ without i n ws)) ≤ cond (eqb k b.number) (1 + times_waiting k ws) (times_waiting k ws)
    later ih = cond_both (eqb i b.house && eqb n b.number) (without i n ws) (b ∷ without i n ws) (λ l. cond (eqb k n) 1 0 + times_waiting k l ≤ cond (eqb k b.number) (1 + times_waiting k ws) (times_waiting k ws)) (λ e. grind (arith, nat_tests)) (λ e. grind (arith, nat_tests))

-- what a turn answers is no more than what it takes off
one_more : (b : Bool) (t w g v u : ℕ) → t + w ≤ g + v → cond b 1 0 + v ≤ u → cond b (1 + t) t + w ≤ g + u
one_more true t w g v u a c = omega arith
one_more false t w g v u a c = omega arith

pub given_once : {sv : Service} (i k : ℕ) (P : sv.R → Type 0) (ds : List (Does (Msg sv) sv.R)) (ws : List Waits) (es : List (Seen sv.O sv.R)) → Taken i P ds ws → times_given k (given i ds ++ es) + times_waiting k (answered_off i ds ws) ≤ times_given k es + times_waiting k ws
unfolding given answered_off times_given
given_once i k P [] ws es a = omega arith
given_once i k P (Says j w ∷ ds) ws es a = given_once i k P ds ws es a
given_once i k P (Gives n r ∷ ds) ws es (d, p, a) = one_more (eqb k n) _ _ _ _ _ (given_once i k P ds (without i n ws) es a) (off_waits i n k ws d)
given_once i k P (Whole' ∷ ds) ws es a = given_once i k P ds ws es a

left_waits : (i k : ℕ) (ws : List Waits) → times_waiting k (left_by i ws) ≤ times_waiting k ws
unfolding left_by times_waiting
left_waits i k [] = omega arith
left_waits i k (b ∷ ws) = let ih = left_waits i k ws in cond_both (eqb i b.house) (left_by i ws) (b ∷ left_by i ws) (λ l. times_waiting k l ≤ times_waiting k (b ∷ ws)) (λ e. grind (arith, nat_tests)) (λ e. grind (arith, nat_tests))

-- what another replica answers, or forgets, leaves a replica's calls as they are
off_kept : {sv : Service} (i j n : ℕ) → (j ≡ i → ⊥) → (ds : List (Does (Msg sv) sv.R)) (ws : List Waits) → Memᴰ (Wait j n) ws → Memᴰ (Wait j n) (answered_off i ds ws)
unfolding answered_off
off_kept i j n ne [] ws d = d
off_kept i j n ne (Says k w ∷ ds) ws d = off_kept i j n ne ds ws d
off_kept i j n ne (Gives k r ∷ ds) ws d = off_kept i j n ne ds (without i k ws) (kept_in i k j n (λ e _. ne e) ws d)
off_kept i j n ne (Whole' ∷ ds) ws d = off_kept i j n ne ds ws d

left_kept : (i j n : ℕ) → (j ≡ i → ⊥) → (ws : List Waits) → Memᴰ (Wait j n) ws → Memᴰ (Wait j n) (left_by i ws)
unfolding left_by
left_kept i j n ne [] d = absurd (Memᴰ.not-nil d)
left_kept i j n ne (b ∷ ws) d =
    cond_both (eqb i b.house) (left_by i ws) (b ∷ left_by i ws) (Memᴰ (Wait j n)) (λ e. ⊎_elim (λ q. absurd (ne (ap (λ (a : Waits). a.house) q ∙ sym (eqb-true i b.house e)))) (λ r. left_kept i j n ne ws r) (Memᴰ.cases_cons d))
    (λ _. ⊎_elim (λ q. Memᴰ.head q) (λ r. Memᴰ.tail (left_kept i j n ne ws r)) (Memᴰ.cases_cons d))

left_in : (i : ℕ) (a : Waits) (ws : List Waits) → Memᴰ a (left_by i ws) → Memᴰ a ws
unfolding left_by
left_in i a [] d = d
left_in i a (b ∷ ws) d =
    cond_both (eqb i b.house) (left_by i ws) (b ∷ left_by i ws) (λ l. Memᴰ a l → Memᴰ a (b ∷ ws)) (λ _ z. Memᴰ.tail (left_in i a ws z)) (λ _ z. ⊎_elim (λ e. Memᴰ.head e) (λ r. Memᴰ.tail (left_in i a ws r)) (Memᴰ.cases_cons z)) d

first_member : (i : ℕ) → is_member (cond (eqb i 0) Leader Follower) ≡ true
first_member i = cond_both (eqb i 0) Leader Follower (λ (r : Role). is_member r ≡ true) (λ _. refl) (λ _. refl)

gone_there : {A : Type 0} {n : A} → gone ≡ there n → ⊥
gone_there a = let z : ◌≡◌ {A = ℕ} 0 1 = cc in omega arith

-- one that wakes is no member: its incarnation is not the first
woken_role : (i x : ℕ) → (x ≡ 0 → ⊥) → is_member (first_role i x) ≡ false
woken_role i x n = ap (λ (b : Bool). is_member (cond b (cond (eqb i 0) Leader Follower) Recovering)) (ne_eqb x 0 n)

module _ {sv : Service} where
  -- a turn
  turned_clients : (P : sv.R → Type 0) (es : List (Seen sv.O sv.R)) (s : Scene (Mind sv) (Msg sv)) (i : ℕ) (m : Mind sv) (x : Turn sv) → s.house i ≡ there m → Clients es s → Fair i P s.waits m x → Clients (given i x.does ++ es) (turned (code sv) i x s)
  turned_clients P es s i m x here' c f =
      record {
        match = λ j n e. matches j n e (cases_eq j i);
        asked' = λ a d. was_given {sv = sv} i a.number x.does es ∙ c.asked' a (off_in i x.does a s.waits d);
        whole' = λ j e. wholes j e (cases_eq j i);
        frail' = λ j n e y. frails j n e y (cases_eq j i);
        once = λ k. rw (was_given {sv = sv} i k x.does es) (omega (arith, c.once k, given_once i k P x.does s.waits es f.gives));
      }
    where
      matches : (j : ℕ) (n : Mind sv) → at i (there x.mind) s.house j ≡ there n → (j ≡ i) ⊎ (j ≡ i → ⊥) → Match j n.waiting (answered_off i x.does s.waits)
      matches j n e (inl q) = rw (q, ← un_there x.mind n (sym (at_same i (there x.mind) s.house j q) ∙ e)) f.fit
      matches j n e (inr ne) = match_more j n.waiting s.waits _ (λ k d. off_kept {sv = sv} i j k ne x.does s.waits d) (c.match j n (sym (at_other i (there x.mind) s.house j ne) ∙ e))

      -- it was whole, or says so now
      now : (s.frail i && not (whole x.does)) ≡ false → is_member x.mind.agreement.role ≡ true
      now e = ⊎_elim (λ a. let (n, y, k) = c.whole' i a in f.member (rw (un_there n m (sym y ∙ here')) at k)) (λ a. f.whole' (not-false _ a)) (and_cases _ _ e)

      wholes : (j : ℕ) → at i (s.frail i && not (whole x.does)) s.frail j ≡ false → (j ≡ i) ⊎ (j ≡ i → ⊥) → (n : Mind sv) × (at i (there x.mind) s.house j ≡ there n) × (is_member n.agreement.role ≡ true)
      wholes j e (inl q) = (x.mind, at_same i (there x.mind) s.house j q, now (sym (at_same i (s.frail i && not (whole x.does)) s.frail j q) ∙ e))
      wholes j e (inr ne) = let (n, y, k) = c.whole' j (sym (at_other i (s.frail i && not (whole x.does)) s.frail j ne) ∙ e) in (n, at_other i (there x.mind) s.house j ne ∙ y, k)

      -- it was frail, and does not say that it is whole: so it became no member
      not_yet : (s.frail i && not (whole x.does)) ≡ true → is_member x.mind.agreement.role ≡ false
      not_yet e =
          let b = and_parts (s.frail i) (not (whole x.does)) e in
          ⊎_elim (λ k. absurd (true≢false (sym (f.entered (c.frail' i m b.0 here') k) ∙ not-true _ b.1))) (λ k. k) (cases_Bool (is_member x.mind.agreement.role))

      frails : (j : ℕ) (n : Mind sv) → at i (s.frail i && not (whole x.does)) s.frail j ≡ true → at i (there x.mind) s.house j ≡ there n → (j ≡ i) ⊎ (j ≡ i → ⊥) → is_member n.agreement.role ≡ false
      frails j n e y (inl q) = rw (un_there x.mind n (sym (at_same i (there x.mind) s.house j q) ∙ y)) at (not_yet (sym (at_same i (s.frail i && not (whole x.does)) s.frail j q) ∙ e))
      frails j n e y (inr ne) = c.frail' j n (sym (at_other i (s.frail i && not (whole x.does)) s.frail j ne) ∙ e) (sym (at_other i (there x.mind) s.house j ne) ∙ y)

  pub fresh : (es : List (Seen sv.O sv.R)) (s : Scene (Mind sv) (Msg sv)) → Clients es s → (i k : ℕ) → T (not (was_asked k es)) → Memᴰ (Wait i k) s.waits → ⊥
  fresh es s r i k new d = T_not (was_asked k es) new (rw (r.asked' (Wait i k) d) tt)

  -- a call comes in
  pub called_clients : (es : List (Seen sv.O sv.R)) (s : Scene (Mind sv) (Msg sv)) (i k : ℕ) (o : sv.O) → T (not (was_asked k es)) → Clients es s → Clients (asked i k o ∷ es) (with_call i k s)
  unfolding was_asked times_given times_waiting
  called_clients es s i k o new r =
      record {
        match = λ j n y. match_more j n.waiting s.waits (Wait i k ∷ s.waits) (λ x d. Memᴰ.tail d) (r.match j n y);
        asked' = λ a d. ⊎_elim (λ q. or_left (eqb a.number k) (was_asked a.number es) (eq-eqb a.number k (ap (λ (b : Waits). b.number) q))) (λ z. or_right (eqb a.number k) (was_asked a.number es) (r.asked' a z)) (Memᴰ.cases_cons d);
        whole' = r.whole';
        frail' = r.frail';
        once = λ q. ⊎_elim (λ e. now q e) (λ e. later q e) (cases_Bool (eqb q k));
      }
    where
      unasked : was_asked k es ≡ false
      unasked = ⊎_elim (λ e. absurd (T_not (was_asked k es) new (rw e tt))) (λ e. e) (cases_Bool (was_asked k es))

      now : (q : ℕ) → eqb q k ≡ true → times_given q es + cond (eqb q k) (1 + times_waiting q s.waits) (times_waiting q s.waits) ≤ cond (eqb q k || was_asked q es) 1 0
      now q e = rw e (let b = r.once q in let z : was_asked q es ≡ false = rw (eqb-true q k e) unasked in let c : times_given q es + times_waiting q s.waits ≤ 0 = rw z at b in omega arith)

      later : (q : ℕ) → eqb q k ≡ false → times_given q es + cond (eqb q k) (1 + times_waiting q s.waits) (times_waiting q s.waits) ≤ cond (eqb q k || was_asked q es) 1 0
      later q e = rw e (r.once q)

  fallen_clients : (es : List (Seen sv.O sv.R)) (s : Scene (Mind sv) (Msg sv)) (i : ℕ) → Clients es s → Clients es (fallen i s)
  fallen_clients es s i r =
      record { match = λ j n y. matches j n y (cases_eq j i); asked' = λ a d. r.asked' a (left_in i a s.waits d); whole' = λ j y. wholes j y (cases_eq j i); frail' = λ j n e y. frails j n e y (cases_eq j i); once = λ k. omega (arith, r.once k, left_waits i k s.waits) }
    where
      matches : (j : ℕ) (n : Mind sv) → at i gone s.house j ≡ there n → (j ≡ i) ⊎ (j ≡ i → ⊥) → Match j n.waiting (left_by i s.waits)
      matches j n y (inl q) = absurd (gone_there (sym (at_same i gone s.house j q) ∙ y))
      matches j n y (inr ne) = match_more j n.waiting s.waits _ (λ k d. left_kept i j k ne s.waits d) (r.match j n (sym (at_other i gone s.house j ne) ∙ y))

      wholes : (j : ℕ) → at i true s.frail j ≡ false → (j ≡ i) ⊎ (j ≡ i → ⊥) → (n : Mind sv) × (at i gone s.house j ≡ there n) × (is_member n.agreement.role ≡ true)
      wholes j y (inl q) = absurd (true≢false (sym (at_same i true s.frail j q) ∙ y))
      wholes j y (inr ne) = let (n, z, k) = r.whole' j (sym (at_other i true s.frail j ne) ∙ y) in (n, at_other i gone s.house j ne ∙ z, k)

      frails : (j : ℕ) (n : Mind sv) → at i true s.frail j ≡ true → at i gone s.house j ≡ there n → (j ≡ i) ⊎ (j ≡ i → ⊥) → is_member n.agreement.role ≡ false
      frails j n e y (inl q) = absurd (gone_there (sym (at_same i gone s.house j q) ∙ y))
      frails j n e y (inr ne) = r.frail' j n (sym (at_other i true s.frail j ne) ∙ e) (sym (at_other i gone s.house j ne) ∙ y)

  woken_clients : (all : ℕ) (es : List (Seen sv.O sv.R)) (s : Scene (Mind sv) (Msg sv)) (i x : ℕ) → (x ≡ 0 → ⊥) → s.house i ≡ gone → Clients es s → Clients es (woken (code sv) all i x s)
  woken_clients all es s i x nz e r = record { match = λ j n y. matches j n y (cases_eq j i); asked' = r.asked'; whole' = λ j y. wholes j (r.whole' j y) (cases_eq j i); frail' = λ j n f y. frails j n f y (cases_eq j i); once = r.once }
    where
      matches : (j : ℕ) (n : Mind sv) → at i (there (woke sv i all x)) s.house j ≡ there n → (j ≡ i) ⊎ (j ≡ i → ⊥) → Match j n.waiting s.waits
      matches j n y (inl q) = rw (← un_there (woke sv i all x) n (sym (at_same i (there (woke sv i all x)) s.house j q) ∙ y)) tt
      matches j n y (inr ne) = r.match j n (sym (at_other i (there (woke sv i all x)) s.house j ne) ∙ y)

      wholes : (j : ℕ) → (n : Mind sv) × (s.house j ≡ there n) × (is_member n.agreement.role ≡ true) → (j ≡ i) ⊎ (j ≡ i → ⊥) → (n : Mind sv) × (at i (there (woke sv i all x)) s.house j ≡ there n) × (is_member n.agreement.role ≡ true)
      wholes j (n, z, k) (inl q) = absurd (gone_there (sym e ∙ (ap s.house (sym q) ∙ z)))
      wholes j (n, z, k) (inr ne) = (n, at_other i (there (woke sv i all x)) s.house j ne ∙ z, k)

      frails : (j : ℕ) (n : Mind sv) → s.frail j ≡ true → at i (there (woke sv i all x)) s.house j ≡ there n → (j ≡ i) ⊎ (j ≡ i → ⊥) → is_member n.agreement.role ≡ false
      frails j n f y (inl q) = subst (λ (z : Mind sv). is_member z.agreement.role ≡ false) (un_there (woke sv i all x) n (sym (at_same i (there (woke sv i all x)) s.house j q) ∙ y)) (woken_role i x nz)
      frails j n f y (inr ne) = r.frail' j n f (sym (at_other i (there (woke sv i all x)) s.house j ne) ∙ y)

  -- 0 was drawn at the first beginning
  zero_used : {all n : ℕ} {es : List (Seen sv.O sv.R)} {s : Scene (Mind sv) (Msg sv)} → Goes (code sv) all n es s → is_in 0 s.drawn ≡ true
  unfolding is_in
  zero_used first = refl
  zero_used (hears i m l lt g e d to) = zero_used g
  zero_used (is_asked i k o m lt fits g e new) = zero_used g
  zero_used (beats i m lt g e) = zero_used g
  zero_used (falls i m lt g e few) = zero_used g
  zero_used (wakes {s = s} i x lt new g e) = or_right (eqb 0 x) (is_in 0 s.drawn) (zero_used g)

  pub clients : {all n : ℕ} {es : List (Seen sv.O sv.R)} {s : Scene (Mind sv) (Msg sv)} → Goes (code sv) all n es s → Clients es s
  unfolding turn was_asked times_given times_waiting
  clients {all = all} first =
      record { match = λ j m e. rw (← un_there (woke sv j all 0) m e) tt; asked' = λ a d. absurd (Memᴰ.not-nil d); whole' = λ j e. (woke sv j all 0, refl, first_member j); frail' = λ j m f e. absurd (false≢true f); once = λ k. omega arith }
  clients (hears {es = es} {s = s} i m l lt g e d to) =
      let r = clients g in turned_clients (λ _. Unit {0}) es s i m (turn (Said l.by l.word) m) e r (hears_fair sv i (λ _. Unit {0}) (λ o t. tt) (λ o k. tt) l.by l.word s.waits m (r.match i m e))
  clients (is_asked {es = es} {s = s} i k o m lt fits g e new) =
      let r = clients g in turned_clients (λ _. Unit {0}) (asked i k o ∷ es) (with_call i k s) i m (turn (Call' k o) m) e (called_clients es s i k o new r) (on_call_fair i k o s.waits m (r.match i m e) (fresh es s r i k new))
  clients (beats {es = es} {s = s} i m lt g e) =
      let r = clients g in turned_clients (λ _. Unit {0}) es s i m (turn Beat m) e r (on_beat_fair sv i (λ _. Unit {0}) (λ o t. tt) (λ o k. tt) s.waits m (r.match i m e))
  clients (falls {es = es} {s = s} i m lt g e few) = fallen_clients es s i (clients g)
  clients {all = all} (wakes {es = es} {s = s} i x lt new g e) = woken_clients all es s i x (λ z. T_not (is_in x s.drawn) new.1 (rw (z, zero_used g) tt)) e (clients g)

pub whole_is_member : (sv : Service) → WholeIsMember sv
whole_is_member sv all n es s g i = let c = clients g in (c.whole' i, c.frail' i)

pub answers_waiting : (sv : Service) → AnswersWaiting sv
unfolding turn
answers_waiting sv all n one few most es s g i q r m (Said j w) e d =
    inr (taken_in i (λ _. Unit {0}) _ _ (hears_fair sv i (λ _. Unit {0}) (λ o t. tt) (λ o k. tt) j w s.waits m ((clients g).match i m e)).gives q r d).0
answers_waiting sv all n one few most es s g i q r m (Call' k o) e d = let z = on_call_gives sv i (λ _. Unit {0}) (λ o t. tt) (λ o k. tt) k o (any_may (sv.quick o)) m q r d in inl (o, ap (λ (y : ℕ). Call' y o) (sym z.0))
  where
    any_may : (o : Option sv.R) → May (λ _. Unit {0}) o
    any_may None = tt
    any_may (Some r) = tt
answers_waiting sv all n one few most es s g i q r m Beat e d = inr (taken_in i (λ _. Unit {0}) _ _ (on_beat_fair sv i (λ _. Unit {0}) (λ o t. tt) (λ o k. tt) s.waits m ((clients g).match i m e)).gives q r d).0

pub answered_once : (sv : Service) → AnsweredOnce sv
answered_once sv all n es s g k = let b = (clients g).once k in ⊎_elim (λ e. let z : times_given k es + times_waiting k s.waits ≤ 1 = rw e at b in omega arith) (λ e. let z : times_given k es + times_waiting k s.waits ≤ 0 = rw e at b in omega arith) (cases_Bool (was_asked k es))

-- as many calls wait at a replica as it has in its mind
fewer : (i n : ℕ) (ws : List Waits) → count_of i (without i n ws) ≤ count_of i ws
unfolding without count_of
fewer i n [] = omega arith
fewer i n (b ∷ ws) = let ih = fewer i n ws in cond_both (eqb i b.house && eqb n b.number) (without i n ws) (b ∷ without i n ws) (λ l. count_of i l ≤ count_of i (b ∷ ws)) (λ e. grind (arith, nat_tests)) (λ e. grind (arith, nat_tests))

one_less : (i n : ℕ) (ws : List Waits) → Memᴰ (Wait i n) ws → count_of i (without i n ws) < count_of i ws
unfolding without count_of
one_less i n [] d = absurd (Memᴰ.not-nil d)
one_less i n (b ∷ ws) d =
    ⊎_elim (λ e. here' (and_from _ _ (eq-eqb i b.house (ap (λ (a : Waits). a.house) e)) (eq-eqb n b.number (ap (λ (a : Waits). a.number) e))) (eq-eqb i b.house (ap (λ (a : Waits). a.house) e)))
    (λ r. later (one_less i n ws r)) (Memᴰ.cases_cons d)
  where
    here' : (eqb i b.house && eqb n b.number) ≡ true → eqb i b.house ≡ true → count_of i (cond (eqb i b.house && eqb n b.number) (without i n ws) (b ∷ without i n ws)) < cond (eqb i b.house) (1 + count_of i ws) (count_of i ws)
    here' e h = rw (e, h) (omega (arith, fewer i n ws))

    later : count_of i (without i n ws) < count_of i ws → count_of i (cond (eqb i b.house && eqb n b.number) (without i n ws) (b ∷ without i n ws)) < cond (eqb i b.house) (1 + count_of i ws) (count_of i ws)
    later ih = cond_both (eqb i b.house && eqb n b.number) (without i n ws) (b ∷ without i n ws) (λ l. count_of i l < cond (eqb i b.house) (1 + count_of i ws) (count_of i ws)) (λ e. grind (arith, nat_tests)) (λ e. grind (arith, nat_tests))

pub count_match : {sv : Service} (i : ℕ) (ts : List (Waiting sv)) (ws : List Waits) → Match i ts ws → length ts ≤ count_of i ws
count_match i [] ws w = omega arith
count_match i (t ∷ ts) ws w = omega (arith, count_match i ts (without i t.number ws) w.1, one_less i t.number ws w.0)

-- what may be said is never busy, where the service is lawful
module _ (sv : Service) (law : Lawful sv) where
  abbrev NotBusy : sv.R → Type 0
  NotBusy r = r ≡ sv.clerk.busy → ⊥

  quick_may : (o : sv.O) (q : Option sv.R) → sv.quick o ≡ q → May NotBusy q
  quick_may o None e = tt
  quick_may o (Some r) e = λ b. law.replies o sv.clerk.start (law.quickly o r sv.clerk.start e ∙ b)

pub hands_back : (sv : Service) → Lawful sv → HandsBack sv
unfolding turn
hands_back sv law all n one few most es s g i q m (Said j w) e d =
    absurd ((taken_in i (NotBusy sv law) _ _ (hears_fair sv i (NotBusy sv law) law.replies law.says j w s.waits m ((clients g).match i m e)).gives q _ d).1 refl)
hands_back sv law all n one few most es s g i q m Beat e d = absurd ((taken_in i (NotBusy sv law) _ _ (on_beat_fair sv i (NotBusy sv law) law.replies law.says s.waits m ((clients g).match i m e)).gives q _ d).1 refl)
hands_back sv law all n one few most es s g i q m (Call' k o) e d =
    let z = on_call_gives sv i (NotBusy sv law) law.replies law.says k o (quick_may sv law o (sv.quick o) refl) m q _ d in
    (o, ap (λ (y : ℕ). Call' y o) (sym z.0), ⊎_elim (λ f. omega (arith, leb-true _ _ f, count_match i m.waiting s.waits ((clients g).match i m e))) (λ f. absurd (f refl)) z.1)
