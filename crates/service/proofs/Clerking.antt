-- From what each kind of call is answered to what one clerk answers and leaves. Assumes nothing.
use Rattle.std.proofs.Common.{◌≡◌, ℕ, ◌*◌, ◌≤◌, Bool, true, false, cond, not, List, [], ◌∷◌, length, IfSome, IfOk, Some, None, Option, Ok, Err, Result, sym, refl, ap, ◌∙◌, subst, arith}
use Rattle.std.specs.Result.{MatchResult, IsOkAnd, result_ok}
use Rattle.std.proofs.lemmas.Bool.{not-true, or_parts, not-false}
use Rattle.model.specs.Tree.{Path, Entry, State, Act, Do, Look, Kids, Reply, No, Out, does, path_ok, value_ok, weight_of}
use Rattle.calls.specs.declared.types.ActKind.{ActKind}
use Rattle.calls.specs.declared.types.ActKind.TheVariants as kind
use Rattle.calls.specs.Reading.{act_from}
use Rattle.calls.specs.Screening.{Screen, LetIn, screened}
use Rattle.cells.specs.declared.draft.Size.{Size}
use Rattle.cells.specs.Drafts.{Drafts, drafting}
use Rattle.cells.specs.Fits.{Fits}
use Rattle.service.specs.declared.clerk.Answered.{Answered}
use Rattle.tree.specs.declared.refusal.Refusal.{Refusal}
use Rattle.tree.specs.Answers.{made_by, out_of}
use Rattle.service.specs.declared.asking.Asked.{Asked}
use Rattle.service.specs.declared.asking.AtOnce.{AtOnce}
use Rattle.service.specs.Asking.{AskedAs}
use Rattle.service.specs.Service.{Outcome, reply_to, next_to, outcome_of, at_once, act_in_range, say_to}
use Rattle.service.specs.Answering.{Says, left_by, kept_of, next_of, Wrote, Answers}
use Rattle.service.proofs.Lawfulness.{at_once_lem, refusal_back, kept_at, Core, core_screened}

-- entries weigh more than their number tells
pub weight_count : (es : List Entry) → 1280 * length es ≤ weight_of es
unfolding weight_of
weight_count [] = omega arith
weight_count (e ∷ es) = omega (arith, weight_count es)

-- an act in range has a path in range
pub range_path : (k : ActKind) (p : Path) (v : List ℕ) → act_in_range (act_from k p v) ≡ true → path_ok p ≡ true
range_path (kind.Make n s) p v h = not-false (path_ok p) (or_parts (not (path_ok p)) (not (value_ok v)) (or_parts _ _ (not-true _ h)).0).0
range_path (kind.Put x) p v h = not-false (path_ok p) (or_parts (not (path_ok p)) (not (value_ok v)) (not-true _ h)).0
range_path (kind.Drop x) p v h = not-false (path_ok p) (not-true _ h)
range_path (kind.Check x) p v h = not-false (path_ok p) (not-true _ h)

none_in_range : (b : Bool) (r : Reply) → cond b None (Some r) ≡ None → b ≡ true
none_in_range true r e = refl
none_in_range false r e = absurd (let z : ◌≡◌ {A = ℕ} 0 1 = cc in omega arith)

pub asked_range : (a : Act) → at_once (LetIn (Do (a ∷ []))) ≡ None → act_in_range a ≡ true
asked_range a e = none_in_range (act_in_range a) (No 0 1) e

-- what a call asks, by a case of it
pub asked_is : (sc : Screen) (x y : Asked) → AskedAs sc (Ok x) → x ≡ y → AskedAs sc (Ok y)
asked_is sc x y a e = subst (λ (z : Asked). AskedAs sc (Ok z)) e a

-- what a call asks that is not refused at once
pub asked_ok : (sc : Screen) (r : Result Asked AtOnce) (x : Asked) → AskedAs sc r → result_ok r ≡ Some x → AskedAs sc (Ok x)
asked_ok sc (Ok y) x a e = asked_is sc y x a (cc)
asked_ok sc (Err k) x a e = absurd (let z : ◌≡◌ {A = ℕ} 0 1 = cc in omega arith)

-- what is kept of a write, and the tree that it wrote, as the code takes them
pub kept_by : (w : Result Size Refusal) (k : Outcome) (P : Size → Unit {0} → Type 0) → MatchResult w (λ z. IsOkAnd k (P z)) (λ e. k ≡ Err e) → k ≡ kept_of w
kept_by (Ok z) (Ok u) P h = refl
kept_by (Ok z) (Err e) P h = absurd h
kept_by (Err k) o P h = h

pub next_by : (w : Result Size Refusal) (o : Option Size) → o ≡ result_ok w → o ≡ next_of w
next_by (Ok z) o e = e
next_by (Err k) o e = e

-- what a call of one act did is what the service keeps of it and leaves
pub wrote : (room : ℕ) (a : Act) (s : State) (w : Result Size Refusal) (out ps : List ℕ) → out_of (made_by a) w out ps s ≡ does room (Do (a ∷ [])) s → IfOk w (λ z. Drafts out ps z) → IfOk w (λ z. Fits room (drafting out ps z)) → Wrote room a s w out ps
wrote room a s (Ok z) out ps e d f = record { kept = ap (λ (o : Out). outcome_of o.reply) e; state = ap (λ (o : Out). o.state) e; drafts = d; fits = f }
wrote room a s (Err k) out ps e d f = record { kept = refusal_back k ∙ ap (λ (o : Out). outcome_of o.reply) e; state = ap (λ (o : Out). o.state) e; drafts = tt; fits = tt }

module _ (room : ℕ) (call : List ℕ) (s : State) (out ps reply : List ℕ) where
  -- what was said and left, by what the call is
  pub answers_as : (sc : Screen) → screened call ≡ sc → (a : Answered) → Says (reply_to room sc s) reply a.reply → left_by a.next out ps s ≡ next_to room sc s → IfSome a.next (λ z. Drafts out ps z × Fits room (drafting out ps z)) → Answers room call s a out ps reply
  answers_as sc is a said left tree =
      subst (λ (x : Screen). Says (reply_to room x s) reply a.reply → left_by a.next out ps s ≡ next_to room x s → Answers room call s a out ps reply) is
      (λ u v. record { inside = u.inside; bytes = u.bytes; state = v; tree = tree }) said left

  pub answers_at_once : (k n : ℕ) → at_once (screened call) ≡ Some (No 0 k) → Says (No 0 k) reply n → Answers room call s (record { reply = n; next = None }) out ps reply
  answers_at_once k n e said =
      let r = at_once_lem room (screened call) s (No 0 k) e in
      answers_as (screened call) refl (record { reply = n; next = None }) (subst (λ (x : Reply). Says x reply n) (sym r.0) said) (sym r.1) tt

  pub answers_look : (p : Path) (n : ℕ) → screened call ≡ LetIn (Look p) → Says (does room (Look p) s).reply reply n → Answers room call s (record { reply = n; next = None }) out ps reply
  unfolding does
  answers_look p n is said = answers_as (LetIn (Look p)) is (record { reply = n; next = None }) said refl tt

  pub answers_kids : (p : Path) (n : ℕ) → screened call ≡ LetIn (Kids p) → Says (does room (Kids p) s).reply reply n → Answers room call s (record { reply = n; next = None }) out ps reply
  unfolding does
  answers_kids p n is said = answers_as (LetIn (Kids p)) is (record { reply = n; next = None }) said refl tt

  pub answers_write : (a : Act) (w : Result Size Refusal) (n : ℕ) → screened call ≡ LetIn (Do (a ∷ [])) → Wrote room a s w out ps → Says (say_to (LetIn (Do (a ∷ []))) (kept_of w)) reply n → Answers room call s (record { reply = n; next = next_of w }) out ps reply
  answers_write a w n is wrote said =
      let sc = LetIn (Do (a ∷ [])) in
      let told : say_to sc (kept_of w) ≡ reply_to room sc s = ap (say_to sc) wrote.kept ∙ kept_at room sc s (subst Core is (core_screened call)) refl in
      answers_as sc is (record { reply = n; next = next_of w }) (subst (λ (r : Reply). Says r reply n) told said) wrote.state (both (next_of w) wrote.drafts wrote.fits)
    where
      both : (o : Option Size) → IfSome o (λ z. Drafts out ps z) → IfSome o (λ z. Fits room (drafting out ps z)) → IfSome o (λ z. Drafts out ps z × Fits room (drafting out ps z))
      both None u v = tt
      both (Some z) u v = (u, v)
