-- The tree is a service that replicas can keep: what is kept of a write says its answer, looking leaves the tree, what is answered at once does not depend on the tree, and no answer is busy. Assumes nothing.
use Rattle.std.proofs.Common.{◌≡◌, ℕ, ◌≤◌, Bool, true, false, cond, not, ◌||◌, eqb, ltb, List, [], ◌∷◌, Some, None, Option, sym, refl, ap, ◌∙◌, subst, inl, inr, arith, Ok, Err}
use Rattle.std.proofs.lemmas.Bool.{cond_both, cond-true, cond-false, false≢true, eqb-true}
use Rattle.std.proofs.lemmas.Bool.Decides.{nat_tests}
use Rattle.std.specs.Option.{option_map}
use Rattle.model.specs.Tree.{State, Act, Make, Put, Drop, Check, Call, Do, Look, Kids, Open, End, Reply, No, Done, Entry', Names, Session, Entry, does, core, one, told, find, at, there, path_ok, none, unless, acts, Step, Bad, stepped, goes, all_of, closed, values_in, kid_names, Out}
use Rattle.calls.specs.Format.{encode_reply, decode_call}
use Rattle.calls.specs.Screening.{Screen, NotBuilt, NoCall, LetIn, screened, decoded, front_not_built}
use Rattle.tree.specs.Answers.{reason}
use Rattle.tree.specs.declared.refusal.Refusal.{Refusal}
use Rattle.tree.specs.declared.refusal.Refusal.TheVariants.{OutOfRange, NotThere, AlreadyThere, OtherVersion, HasKids, NoSession, UnderSession, UsedUp, Full}
use Rattle.service.specs.Service.{Outcome, reply_to, next_to, act_in_range, in_range, at_once, looks, refusal_of, outcome_of, keep_to, say_to, screened_call, lines, calls}
use Rattle.service.proofs.Shapes.{one_shape, Shape}
use Rattle.agreement.specs.Content.{Lawful}

-- only the core is let in
abbrev pub Core : Screen → Type 0
Core NotBuilt = Unit {0}
Core NoCall = Unit {0}
Core (LetIn c) = core c ≡ true

core_let : (c : Call) → Core (cond (core c) (LetIn c) NotBuilt)
core_let c = cond_both (core c) (LetIn c) NotBuilt Core (λ e. e) (λ e. tt)

pub core_screened : (bs : List ℕ) → Core (screened bs)
core_screened bs = cond_both (front_not_built bs) NotBuilt (decoded (decode_call bs)) Core (λ e. tt) (λ e. go (decode_call bs))
  where
    go : (o : Option Call) → Core (decoded o)
    go None = tt
    go (Some c) = core_let c

by_number : (k n : ℕ) (r rest : Refusal) → reason r ≡ n → (eqb k n ≡ false → reason rest ≡ k) → reason (cond (eqb k n) r rest) ≡ k
by_number k n r rest e more = cond_both (eqb k n) r rest (λ (x : Refusal). reason x ≡ k) (λ b. e ∙ sym (eqb-true k n b)) more

reason_back : (k : ℕ) → 1 ≤ k → k ≤ 9 → reason (refusal_of k) ≡ k
reason_back k low high =
    by_number k 1 OutOfRange _ refl (λ a. by_number k 2 NotThere _ refl (λ b. by_number k 3 AlreadyThere _ refl (λ c. by_number k 4 OtherVersion _ refl (λ d. by_number k 5 HasKids _ refl (λ e. by_number k 6 NoSession _ refl
    (λ f. by_number k 7 UnderSession _ refl (λ g. by_number k 8 UsedUp Full refl (λ h. grind (arith, nat_tests)))))))))

-- KEPT. A write of the core is one act
pub kept_at : (room : ℕ) (sc : Screen) (s : State) → Core sc → looks sc ≡ false → say_to sc (keep_to room sc s) ≡ reply_to room sc s
unfolding core one
kept_at room NotBuilt s c h = refl
kept_at room NoCall s c h = refl
kept_at room (LetIn (Do [])) s c h = absurd (false≢true c)
kept_at room (LetIn (Do (a ∷ []))) s c h = go (does room (Do (a ∷ [])) s).reply (one_shape room a s c)
  where
    go : (r : Reply) → Shape a r → say_to (LetIn (Do (a ∷ []))) (outcome_of r) ≡ r
    go r (inl k) = subst (λ (x : Reply). say_to (LetIn (Do (a ∷ []))) (outcome_of x) ≡ x) (sym k.2) (ap (No 0) (reason_back k.0 k.1.0 k.1.1))
    go r (inr d) = subst (λ (x : Reply). say_to (LetIn (Do (a ∷ []))) (outcome_of x) ≡ x) (sym d) refl
kept_at room (LetIn (Do (a ∷ b ∷ as'))) s c h = absurd (false≢true c)
kept_at room (LetIn (Look p)) s c h = absurd (false≢true (sym h))
kept_at room (LetIn (Kids p)) s c h = absurd (false≢true (sym h))
kept_at room (LetIn Open) s c h = absurd (false≢true c)
kept_at room (LetIn (End k)) s c h = absurd (false≢true c)

-- LOOKING
looks_at : (room : ℕ) (sc : Screen) (s : State) → looks sc ≡ true → next_to room sc s ≡ s
unfolding does
looks_at room NotBuilt s h = refl
looks_at room NoCall s h = refl
looks_at room (LetIn (Do as')) s h = absurd (false≢true h)
looks_at room (LetIn (Look p)) s h = refl
looks_at room (LetIn (Kids p)) s h = refl
looks_at room (LetIn Open) s h = absurd (false≢true h)
looks_at room (LetIn (End k)) s h = absurd (false≢true h)

-- AT ONCE: an act out of range is refused by 1
first_refuses : (b : Bool) (o : Step) → not b ≡ false → unless 1 b o ≡ Bad 1
unfolding unless
first_refuses true o h = refl
first_refuses false o h = absurd (false≢true (sym h))

out_of_range : (a : Act) (s : State) → act_in_range a ≡ false → acts a s ≡ Bad 1
unfolding acts
out_of_range (Make p v n o) s h = first_refuses _ _ h
out_of_range (Put p v x) s h = first_refuses _ _ h
out_of_range (Drop p x) s h = first_refuses _ _ h
out_of_range (Check p x) s h = first_refuses _ _ h

range_reply : (room : ℕ) (c : Call) (s : State) → in_range c ≡ false → ((does room c s).reply ≡ No 0 1) × ((does room c s).state ≡ s)
unfolding does all_of goes stepped closed
range_reply room (Do []) s h = absurd (false≢true (sym h))
range_reply room (Do (a ∷ [])) s h =
    cond_both (ltb 64 1 || ltb 262144 (values_in (a ∷ []))) _ (closed s (stepped room 0 [] s (acts a s))) (λ (o : Out). (o.reply ≡ No 0 1) × (o.state ≡ s)) (λ e. (refl, refl))
    (λ e. let r = out_of_range a s h in (ap (λ (x : Step). (closed s (stepped room 0 [] s x)).reply) r, ap (λ (x : Step). (closed s (stepped room 0 [] s x)).state) r))
range_reply room (Do (a ∷ b ∷ as')) s h = absurd (false≢true (sym h))
range_reply room (Look p) s h = (cond-false (path_ok p) (told (find (at p) s.entries)) (No 0 1) h, refl)
range_reply room (Kids p) s h = (cond-false (none p || path_ok p) _ (No 0 1) h, refl)
range_reply room Open s h = absurd (false≢true (sym h))
range_reply room (End k) s h = absurd (false≢true (sym h))

pub at_once_lem : (room : ℕ) (sc : Screen) (s : State) (r : Reply) → at_once sc ≡ Some r → (reply_to room sc s ≡ r) × (next_to room sc s ≡ s)
at_once_lem room NotBuilt s r e = (cc, refl)
at_once_lem room NoCall s r e = (cc, refl)
at_once_lem room (LetIn c) s r e =
    cond_both (in_range c) None (Some (No 0 1)) (λ (o : Option Reply). o ≡ Some r → ((does room c s).reply ≡ r) × ((does room c s).state ≡ s)) (λ b z. absurd (let u : ◌≡◌ {A = ℕ} 0 1 = cc in omega arith))
    (λ b z. let is : No 0 1 ≡ r = cc in let q = range_reply room c s b in (q.0 ∙ is, q.1)) e

-- NEVER BUSY
says_at : (sc : Screen) (k : Outcome) → say_to sc k ≡ No 0 11 → ⊥
says_at NotBuilt k e = let z : ◌≡◌ {A = ℕ} 12 11 = cc in omega arith
says_at NoCall k e = let z : ◌≡◌ {A = ℕ} 1 11 = cc in omega arith
says_at (LetIn c) (Ok u) e = let z : ◌≡◌ {A = ℕ} 0 1 = cc in omega arith
says_at (LetIn c) (Err k) e = let z : reason k ≡ 11 = cc in not_eleven k z
  where
    not_eleven : (k : Refusal) → reason k ≡ 11 → ⊥
    not_eleven OutOfRange h = omega arith
    not_eleven NotThere h = omega arith
    not_eleven AlreadyThere h = omega arith
    not_eleven OtherVersion h = omega arith
    not_eleven HasKids h = omega arith
    not_eleven NoSession h = omega arith
    not_eleven UnderSession h = omega arith
    not_eleven UsedUp h = omega arith
    not_eleven Full h = omega arith

told_not_busy : (es : List Entry) → told es ≡ No 0 11 → ⊥
unfolding told
told_not_busy [] e = let z : ◌≡◌ {A = ℕ} 2 11 = cc in omega arith
told_not_busy (x ∷ es) e = let z : ◌≡◌ {A = ℕ} 0 1 = cc in omega arith

one_not_busy : (a : Act) (r : Reply) → Shape a r → r ≡ No 0 11 → ⊥
one_not_busy a r (inl k) e = let z : k.0 ≡ 11 = let f = sym k.2 ∙ e in cc in omega (arith, k.1.1)
one_not_busy a r (inr d) e = let f = sym d ∙ e in let z : ◌≡◌ {A = ℕ} 0 1 = cc in omega arith

abbrev Calm : Reply → Type 0
Calm r = r ≡ No 0 11 → ⊥

replies_at : (room : ℕ) (sc : Screen) (s : State) → Core sc → reply_to room sc s ≡ No 0 11 → ⊥
unfolding core one does
replies_at room NotBuilt s c e = let z : ◌≡◌ {A = ℕ} 12 11 = cc in omega arith
replies_at room NoCall s c e = let z : ◌≡◌ {A = ℕ} 1 11 = cc in omega arith
replies_at room (LetIn (Do [])) s c e = false≢true c
replies_at room (LetIn (Do (a ∷ []))) s c e = one_not_busy a (does room (Do (a ∷ [])) s).reply (one_shape room a s c) e
replies_at room (LetIn (Do (a ∷ b ∷ as'))) s c e = false≢true c
replies_at room (LetIn (Look p)) s c e = cond_both (path_ok p) (told (find (at p) s.entries)) (No 0 1) Calm (λ b. told_not_busy (find (at p) s.entries)) (λ b h. let z : ◌≡◌ {A = ℕ} 1 11 = cc in omega arith) e
replies_at room (LetIn (Kids p)) s c e =
    cond_both (none p || path_ok p) (cond (none p || there p s) (Names (kid_names p s)) (No 0 2)) (No 0 1) Calm
    (λ b. cond_both (none p || there p s) (Names (kid_names p s)) (No 0 2) Calm (λ b h. let z : ◌≡◌ {A = ℕ} 0 1 = cc in omega arith) (λ b h. let z : ◌≡◌ {A = ℕ} 2 11 = cc in omega arith))
    (λ b h. let z : ◌≡◌ {A = ℕ} 1 11 = cc in omega arith) e
replies_at room (LetIn Open) s c e = false≢true c
replies_at room (LetIn (End k)) s c e = false≢true c

-- only busy is written as busy is
busy_bytes : (r : Reply) → encode_reply r ≡ encode_reply (No 0 11) → r ≡ No 0 11
unfolding encode_reply
busy_bytes (No a k) e = let x : a ≡ 0 = cc in let y : k ≡ 11 = cc in λ i. No (x i) (y i)
busy_bytes (Done ps) e = absurd (let z : ◌≡◌ {A = ℕ} 1 0 = cc in omega arith)
busy_bytes (Entry' v n m c k o) e = absurd (let z : ◌≡◌ {A = ℕ} 2 0 = cc in omega arith)
busy_bytes (Names ns) e = absurd (let z : ◌≡◌ {A = ℕ} 3 0 = cc in omega arith)
busy_bytes (Session k) e = absurd (let z : ◌≡◌ {A = ℕ} 4 0 = cc in omega arith)

mapped_some : {A B : Type 0} (f : A → B) (o : Option A) (r : B) → option_map f o ≡ Some r → (x : A) × (o ≡ Some x) × (f x ≡ r)
mapped_some f None r e = absurd (let z : ◌≡◌ {A = ℕ} 0 1 = cc in omega arith)
mapped_some f (Some x) r e = (x, refl, cc)

pub lines_lawful : (room : ℕ) → Lawful (lines room)
lines_lawful room = record {
  kept = λ bs s h. ap encode_reply (kept_at room (screened bs) s (core_screened bs) h);
  reads = λ bs s h. looks_at room (screened bs) s h;
  quickly = λ bs r s e. let q = mapped_some encode_reply (at_once (screened bs)) r e in ap encode_reply (at_once_lem room (screened bs) s q.0 q.1).0 ∙ q.2;
  stays = λ bs r s e. let q = mapped_some encode_reply (at_once (screened bs)) r e in (at_once_lem room (screened bs) s q.0 q.1).1;
  replies = λ bs s e. replies_at room (screened bs) s (core_screened bs) (busy_bytes (reply_to room (screened bs) s) e);
  says = λ bs k e. says_at (screened bs) k (busy_bytes (say_to (screened bs) k) e);
}

-- over calls themselves, the clerk is that of the promise
clerk_reply : (room : ℕ) (c : Call) (s : State) → cond (core c) (does room c s).reply (No 0 12) ≡ reply_to room (screened_call c) s
clerk_reply room c s = cond_both (core c) (LetIn c) NotBuilt (λ (sc : Screen). cond (core c) (does room c s).reply (No 0 12) ≡ reply_to room sc s) (λ b. cond-true (core c) _ _ b) (λ b. cond-false (core c) _ _ b)

clerk_next : (room : ℕ) (c : Call) (s : State) → cond (core c) (does room c s).state s ≡ next_to room (screened_call c) s
clerk_next room c s = cond_both (core c) (LetIn c) NotBuilt (λ (sc : Screen). cond (core c) (does room c s).state s ≡ next_to room sc s) (λ b. cond-true (core c) _ _ b) (λ b. cond-false (core c) _ _ b)

pub calls_lawful : (room : ℕ) → Lawful (calls room)
calls_lawful room = record {
  kept = λ c s h. kept_at room (screened_call c) s (core_let c) h ∙ sym (clerk_reply room c s);
  reads = λ c s h. clerk_next room c s ∙ looks_at room (screened_call c) s h;
  quickly = λ c r s e. clerk_reply room c s ∙ (at_once_lem room (screened_call c) s r e).0;
  stays = λ c r s e. clerk_next room c s ∙ (at_once_lem room (screened_call c) s r e).1;
  replies = λ c s e. replies_at room (screened_call c) s (core_let c) (sym (clerk_reply room c s) ∙ e);
  says = λ c k e. says_at (screened_call c) k e;
}

-- a refusal is told by its number
refusal_round : (k : Refusal) → k ≡ refusal_of (reason k)
refusal_round OutOfRange = refl
refusal_round NotThere = refl
refusal_round AlreadyThere = refl
refusal_round OtherVersion = refl
refusal_round HasKids = refl
refusal_round NoSession = refl
refusal_round UnderSession = refl
refusal_round UsedUp = refl
refusal_round Full = refl

pub refusal_back : (k : Refusal) → Err k ≡ outcome_of (No 0 (reason k))
refusal_back k = ap (λ (x : Refusal). Err x) (refusal_round k)
