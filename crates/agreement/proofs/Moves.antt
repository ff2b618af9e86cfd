-- A move keeps the invariant (Good, Keeps): what that is, that one move after another does, and that those do which only say something, forward a call or answer one.
use Rattle.std.proofs.Common.{◌≡◌, ℕ, zero, suc, ◌<◌, true, false, ◌&&◌, ◌||◌, eqb, ltb, List, [], ◌∷◌, ◌++◌, length, get_or, is_some, Some, None, Option, sym, refl, ap, ◌∙◌, inl, inr, arith}
use Rattle.std.proofs.lemmas.Bool.{cond_both, and_parts, or_parts, ltb-true, eqb-true, eqb-false}
use Rattle.runs.specs.Replicas.{Does, Says, Gives, Whole'}
use Rattle.agreement.specs.Facts.{Chosen, at_first, by_votes}
use Rattle.agreement.specs.Content.{Service, Proposal, limit, roster, place_at}
use Rattle.agreement.specs.Log.{Event, draws, asks, makes, votes, pledges, age_in, ask_of, is_used, world, Ok, Log, goes_on}
use Rattle.agreement.specs.Machine.{Msg, is_member, Waiting, Mind, accepted, Turn, still, says, then_do, to_each, catch_up, word_to, alive_to, tell, tell_all, tell_done, sends, forward_head, forward, names, with_waiting, may_answer, say_kept, reply_to, hands, answer_head, answer, counts, ask_all}
use Rattle.agreement.proofs.History.{drawn, made_fits}
use Rattle.agreement.proofs.Inv.{by_replica, Self, answered_by, VoterInv, AskedAs, Lined, QueueInv, MindInv, WordInv, Other, Replied, Answered, Well, jobs_stay, word_stays, well_stays}

-- neither a waking nor a call that comes in
abbrev pub Plain : {sv : Service} → Event sv → Type 0
Plain (draws s x) = ⊥
Plain (asks s x k n o) = ⊥
Plain (makes p) = Unit {0}
Plain (votes s x p) = Unit {0}
Plain (pledges s x v p) = Unit {0}

plain_age : {sv : Service} (e : Event sv) → Plain e → (h : List (Event sv)) (s x : ℕ) → age_in (e ∷ h) s x ≡ age_in h s x
plain_age (draws j y) a h s x = absurd a
plain_age (asks j y k n o) a h s x = refl
plain_age (makes p) a h s x = refl
plain_age (votes j y p) a h s x = refl
plain_age (pledges j y v p) a h s x = refl

plain_ask : {sv : Service} (e : Event sv) → Plain e → (s x : ℕ) → ask_of s x e ≡ 0
plain_ask (draws j y) a s x = refl
plain_ask (asks j y k n o) a s x = absurd a
plain_ask (makes p) a s x = refl
plain_ask (votes j y p) a s x = refl
plain_ask (pledges j y v p) a s x = refl

plain_used : {sv : Service} (e : Event sv) → Plain e → (h : List (Event sv)) (n : ℕ) → is_used n (e ∷ h) ≡ is_used n h
plain_used (draws j y) a h n = refl
plain_used (asks j y k m o) a h n = absurd a
plain_used (makes p) a h n = refl
plain_used (votes j y p) a h n = refl
plain_used (pledges j y v p) a h n = refl

-- k is h with things done by the replica i behind it
pub data Ext {sv : Service} (all i : ℕ) (h : List (Event sv)) : List (Event sv) → Type 0 where
  same : Ext all i h h
  more : {k : List (Event sv)} {e : Event sv} → Ext all i h k → Ok all k e → by_replica e ≡ i → Plain e → Ext all i h (e ∷ k)

-- after the turn x of the replica i there is a history, which goes on from h by what i did, and over which the invariant holds of its mind and of what it said
pub record Good {sv : Service} (all : ℕ) (h : List (Event sv)) (i : ℕ) (x : Turn sv) : Type 0 where
  pub then : List (Event sv)
  pub ext : Ext all i h then
  pub mind : MindInv all then i x.mind
  pub words : Well all then i x.does

-- a move that may be made at any time
abbrev pub Keeps : {sv : Service} → (all i : ℕ) → (Mind sv → Turn sv) → Type 0
Keeps {sv = sv} all i f = (h : List (Event sv)) → Log all h → (m : Mind sv) → MindInv all h i m → Good all h i (f m)

module _ {sv : Service} (all i : ℕ) where
  pub ext_log : (h : List (Event sv)) {k : List (Event sv)} → Ext all i h k → Log all h → Log all k
  ext_log h same l = l
  ext_log h (more x ok b a) l = goes_on (ext_log h x l) ok

  pub ext_age : (h : List (Event sv)) {k : List (Event sv)} → Ext all i h k → (s x : ℕ) → age_in k s x ≡ age_in h s x
  ext_age h same s x = refl
  ext_age h (more {k = k} {e = e} y ok b a) s x = plain_age e a k s x ∙ ext_age h y s x

  pub ext_used : (h : List (Event sv)) {k : List (Event sv)} → Ext all i h k → (n : ℕ) → is_used n k ≡ is_used n h
  ext_used h same n = refl
  ext_used h (more {k = k} {e = e} y ok b a) n = plain_used e a k n ∙ ext_used h y n

  pub ext_word : (h : List (Event sv)) {k : List (Event sv)} → Ext all i h k → (b c : ℕ) (w : Msg sv) → WordInv all h b c w → WordInv all k b c w
  ext_word h same b c w v = v
  ext_word h (more {k = k} {e = e} x ok b' a) b c w v = word_stays all k e ok b c w (ext_word h x b c w v)

  ext_well : (h : List (Event sv)) {k : List (Event sv)} → Ext all i h k → (ds : List (Does (Msg sv) sv.R)) → Well all h i ds → Well all k i ds
  ext_well h same ds v = v
  ext_well h (more {k = k} {e = e} x ok b a) ds v = well_stays all k e ok i ds (ext_well h x ds v)

  ext_trans : (h : List (Event sv)) {k l : List (Event sv)} → Ext all i h k → Ext all i k l → Ext all i h l
  ext_trans h x same = x
  ext_trans h x (more y ok b a) = more (ext_trans h x y) ok b a

  pub ext_queue : (h : List (Event sv)) {k : List (Event sv)} → Ext all i h k → (m : Mind sv) → QueueInv all h i m → QueueInv all k i m
  ext_queue h same m v = v
  ext_queue h (more {k = k} {e = e} x ok b a) m v =
      jobs_stay all k e ok i m.agreement.incarnation m.agreement.joins m.agreement.job m.agreement.turn m.agreement.no m.waiting m.calls (plain_ask e a i m.agreement.incarnation) (ext_queue h x m v)

  well_append : (h : List (Event sv)) (ds es : List (Does (Msg sv) sv.R)) → Well all h i ds → Well all h i es → Well all h i (ds ++ es)
  well_append h [] es a b = b
  well_append h (Says j w ∷ ds) es (o, a, r) b = (o, a, well_append h ds es r b)
  well_append h (Gives n r ∷ ds) es (c, a) b = (c, well_append h ds es a b)
  well_append h (Whole' ∷ ds) es a b = well_append h ds es a b

  -- one move, and then another
  pub then_good : (h : List (Event sv)) → Log all h → (x : Turn sv) (f : Mind sv → Turn sv) → Good all h i x → ((k : List (Event sv)) → Ext all i h k → Log all k → MindInv all k i x.mind → Good all k i (f x.mind)) → Good all h i (then_do x f)
  unfolding then_do
  then_good h lg x f g c =
      let d = c g.then g.ext (ext_log h g.ext lg) g.mind in
      record { then = d.then; ext = ext_trans h g.ext d.ext; mind = d.mind; words = well_append d.then x.does (f x.mind).does (ext_well g.then d.ext x.does g.words) d.words }

  pub then_keeps : (h : List (Event sv)) → Log all h → (x : Turn sv) (f : Mind sv → Turn sv) → Good all h i x → Keeps all i f → Good all h i (then_do x f)
  then_keeps h lg x f g c = then_good h lg x f g (λ k e l v. c k l x.mind v)

  pub still_good : (h : List (Event sv)) (m : Mind sv) → MindInv all h i m → Good all h i (still m)
  still_good h m v = record { then = h; ext = same; mind = v; words = tt }

  pub still_keeps : Keeps {sv = sv} all i still
  still_keeps h lg m v = still_good h m v

  pub says_good : (h : List (Event sv)) (j : ℕ) (w : Msg sv) (m : Mind sv) → Other all i j → WordInv all h i j w → MindInv all h i m → Good all h i (says j w m)
  says_good h j w m o a v = record { then = h; ext = same; mind = v; words = (o, a, tt) }

  pub catch_up_good : (h : List (Event sv)) (j : ℕ) (m : Mind sv) → Other all i j → MindInv all h i m → Good all h i (catch_up j m)
  catch_up_good h j m o v = says_good h j _ m o v.0.fits v

  -- who is not me is another
  pub others : (h : List (Event sv)) (j me n x : ℕ) → Self all h i me n x → j < all → eqb j me ≡ false → Other all i j
  others h j me n x s lt e = (lt, λ q. eqb-false j me e (q ∙ sym s.me))

  each_well : (h : List (Event sv)) (f : ℕ → List (Does (Msg sv) sv.R)) → (n : ℕ) → ((j : ℕ) → j < n → Well all h i (f j)) → Well all h i (to_each n f)
  unfolding to_each
  each_well h f zero a = tt
  each_well h f (suc n) a = well_append h (to_each n f) (f n) (each_well h f n (λ j lt. a j (omega arith))) (a n (omega arith))

  -- what a leader says
  alive_well : (h : List (Event sv)) → Log all h → (m : Mind sv) → VoterInv all h i m → (j : ℕ) → WordInv all h i j (alive_to m j)
  alive_well h lg m v j =
      (drawn all h lg (accepted m) v.made j, ((made_fits all (omega (arith, v.who.here)) h lg (accepted m) v.made).places j).incarnation, accepted m, refl, v.made, v.known)

  word_well : (h : List (Event sv)) → Log all h → (m : Mind sv) → VoterInv all h i m → (j : ℕ) → WordInv all h i j (word_to m j)
  word_well h lg m v j = cond_both (is_some (get_or m.agreement.votes j None)) _ _ (WordInv all h i j) (λ _. alive_well h lg m v j) (λ _. (v.made, v.known))

  pub tell_keeps : (j : ℕ) → j < all → Keeps {sv = sv} all i (tell j)
  unfolding tell
  tell_keeps j lt h lg m v = cond_both (eqb j m.agreement.me) _ _ (Good all h i) (λ _. still_good h m v) (λ e. says_good h j _ m (others h j _ _ _ v.0.who lt e) (word_well h lg m v.0 j) v)

  pub tell_done_keeps : (o : Option ℕ) → ((j : ℕ) → o ≡ Some j → j < all) → Keeps {sv = sv} all i (tell_done o)
  unfolding tell_done
  tell_done_keeps None f h lg m v = still_good h m v
  tell_done_keeps (Some j) f h lg m v = cond_both (eqb j m.agreement.me) _ _ (Good all h i) (λ _. still_good h m v) (λ e. says_good h j _ m (others h j _ _ _ v.0.who (f j refl) e) (alive_well h lg m v.0 j) v)

  pub tell_all_keeps : Keeps {sv = sv} all i tell_all
  unfolding tell_all
  tell_all_keeps h lg m v =
      record {
        then = h;
        ext = same;
        mind = v;
        words = each_well h _ m.agreement.all (λ j lt. cond_both (eqb j m.agreement.me) _ _ (Well all h i) (λ _. tt) (λ e. (others h j _ _ _ v.0.who (omega (arith, v.0.who.all')) e, word_well h lg m v.0 j, tt)));
      }

  pub ask_all_keeps : Keeps {sv = sv} all i ask_all
  unfolding ask_all
  ask_all_keeps h lg m v =
      record {
        then = h;
        ext = same;
        mind = v;
        words = each_well h _ m.agreement.all (λ j lt. cond_both (eqb j m.agreement.me || counts m.agreement.votes m.agreement.places j) _ _ (Well all h i) (λ _. tt)
            (λ e. (others h j _ _ _ v.0.who (omega (arith, v.0.who.all')) (or_parts _ _ e).0, v.0.fits, tt)));
      }

  -- forwarding and answering change nothing that is agreed on
  sends_good : (t : Waiting sv) (h : List (Event sv)) (m : Mind sv) → MindInv all h i m → t.number < limit → AskedAs h i m.agreement.incarnation (suc m.agreement.no) t.number t.call → suc m.agreement.no < limit → Good all h i (sends t m)
  sends_good t h m v n a f =
      cond_both (eqb m.agreement.promised.leader m.agreement.me) _ _ (Good all h i) (λ _. still_good h m v)
      (λ e. says_good h _ _ m (others h _ _ _ _ v.0.who v.0.fits.leader e) (v.0.who.fits, f, n, a) v)

  forward_head_good : (ts : List (Waiting sv)) (h : List (Event sv)) (m : Mind sv) → MindInv all h i m → Lined h i m.agreement.incarnation (suc m.agreement.no) ts → Good all h i (forward_head ts m)
  unfolding forward_head
  forward_head_good [] h m v w = still_good h m v
  forward_head_good (t ∷ ts) h m v (n, a, w) =
      cond_both (is_member m.agreement.role && ltb (suc m.agreement.no) limit) _ _ (Good all h i) (λ e. sends_good t h m v n a (ltb-true _ _ (and_parts _ _ e).1)) (λ _. still_good h m v)

  pub forward_keeps : Keeps {sv = sv} all i forward
  forward_keeps h lg m v = forward_head_good m.waiting h m v v.1.waits

  -- an answer is made of accepted, which is chosen
  abbrev MayGive : List (Event sv) → ℕ → Option sv.R → Type 0
  MayGive h n None = Unit {0}
  MayGive h n (Some r) = Answered all h i n r

  kept_gives : (h : List (Event sv)) (m : Mind sv) (n : ℕ) (o : sv.O) (k : Option sv.K) → get_or m.outcomes i None ≡ k → sv.is_read o ≡ false → ((r : sv.R) → Replied (accepted m) i o r → Answered all h i n r) → MayGive h n (say_kept sv o k)
  kept_gives h m n o None e w f = tt
  kept_gives h m n o (Some k) e w f = f (sv.say o k) (inr (w, k, e, refl))

  -- what is tested before an answer: accepted is chosen, names this incarnation, and counts one call more than was answered
  answerable : (h : List (Event sv)) (m : Mind sv) → MindInv all h i m → may_answer m ≡ true → (m.agreement.chosen ≡ true) × (roster (accepted m) i ≡ m.agreement.incarnation) × ((place_at (accepted m) i).no ≡ suc m.agreement.no)
  answerable h m v e = (b.0, ap (λ (y : ℕ). roster (accepted m) y) (sym v.0.who.me) ∙ eqb-true _ _ c.0, ap (λ (y : ℕ). (place_at (accepted m) y).no) (sym v.0.who.me) ∙ eqb-true _ _ c.1)
    where
      b : (m.agreement.chosen ≡ true) × ((names m.agreement.me m.agreement.incarnation (accepted m) && eqb (place_at (accepted m) m.agreement.me).no (suc m.agreement.no)) ≡ true)
      b = and_parts _ _ (and_parts (is_member m.agreement.role) _ e).1

      c : (names m.agreement.me m.agreement.incarnation (accepted m) ≡ true) × (eqb (place_at (accepted m) m.agreement.me).no (suc m.agreement.no) ≡ true)
      c = and_parts (names m.agreement.me m.agreement.incarnation (accepted m)) (eqb (place_at (accepted m) m.agreement.me).no (suc m.agreement.no)) b.1

  reply_gives : (h : List (Event sv)) (m : Mind sv) → MindInv all h i m → (t : Waiting sv) → AskedAs h i m.agreement.incarnation (suc m.agreement.no) t.number t.call → may_answer m ≡ true → MayGive h t.number (reply_to t.call m)
  reply_gives h m v t (u, a) e = cond_both (sv.is_read t.call) _ _ (MayGive h t.number) (λ z. gives (sv.clerk.reply t.call m.state) (inl (z, refl)))
      (λ z. kept_gives h m t.number t.call (get_or m.outcomes m.agreement.me None) (ap (λ (y : ℕ). get_or m.outcomes y None) (sym v.0.who.me)) z gives)
    where
      b : (m.agreement.chosen ≡ true) × (roster (accepted m) i ≡ m.agreement.incarnation) × ((place_at (accepted m) i).no ≡ suc m.agreement.no)
      b = answerable h m v e

      gives : (r : sv.R) → Replied (accepted m) i t.call r → Answered all h i t.number r
      gives r z = record { from = accepted m; inc = m.agreement.incarnation; call = t.call; chosen = v.0.known b.0; named = b.1; asked = (u, rw b.2 a); reply = z }

  -- after an answer
  once_more : (h : List (Event sv)) (m : Mind sv) → MindInv all h i m → (ts : List (Waiting sv)) → may_answer m ≡ true → VoterInv all h i (with_waiting ts (suc m.agreement.no) m)
  once_more h m v ts e =
      let b = answerable h m v e in
      record { who = v.0.who; fits = v.0.fits; made = v.0.made; known = v.0.known; inside = v.0.inside; outside = v.0.outside; stands = v.0.stands; leads = v.0.leads; answered = answered_by (accepted m) (v.0.known b.0) b.1 (omega (arith, b.2)) (omega arith) }

  hands_good : (n : ℕ) (ts : List (Waiting sv)) (r : Option sv.R) (h : List (Event sv)) → Log all h → (m : Mind sv) → MindInv all h i m → MindInv all h i (with_waiting ts (suc m.agreement.no) m) → MayGive h n r → Good all h i (hands n ts r m)
  unfolding hands
  hands_good n ts None h lg m v w g = still_good h m v
  hands_good n ts (Some r) h lg m v w g = then_keeps h lg _ forward (record { then = h; ext = same; mind = w; words = (g, tt) }) forward_keeps

  answer_head_good : (ts : List (Waiting sv)) (h : List (Event sv)) → Log all h → (m : Mind sv) → MindInv all h i m → m.waiting ≡ ts → Lined h i m.agreement.incarnation (suc m.agreement.no) ts → Good all h i (answer_head ts m)
  unfolding answer_head
  answer_head_good [] h lg m v is w = still_good h m v
  answer_head_good (t ∷ ts) h lg m v is (n, a, w) =
      cond_both (may_answer m) _ _ (Good all h i)
      (λ e. hands_good t.number ts (reply_to t.call m) h lg m v (once_more h m v ts e, record { joins = v.1.joins; calls = v.1.calls; job = v.1.job; turn = v.1.turn; waits = w; last = omega (arith, v.1.last, ap length is) }) (reply_gives h m v t a e)) (λ _. still_good h m v)

  pub answer_keeps : Keeps {sv = sv} all i answer
  answer_keeps h lg m v = answer_head_good m.waiting h lg m v refl v.1.waits

pub chosen_made : {sv : Service} {all : ℕ} (h : List (Event sv)) {t : ℕ} {p : Proposal sv} → Chosen (world all h) t p → (world all h).Made p
chosen_made h at_first = inl refl
chosen_made h (by_votes m q) = m
