-- Which acts a call `do` of the core has: just one, that is no numbered making and none for a session. Assumes nothing.
use Rattle.std.proofs.Common.{◌≡◌, ℕ, zero, suc, Bool, false, cond, List, [], ◌∷◌, length, Some, None, Option, sym, refl, ap, ◌∙◌, arith}
use Rattle.model.specs.Tree.{Path, Act, Make, Put, Drop, Check, one, core}
use Rattle.calls.specs.Format.{and_then, many_at, act_at, acts_at, decode_call}
use Rattle.calls.specs.Reading.{past, rest, acts_or, acts_in, act_from, call_of}
use Rattle.calls.specs.Screening.{plain_kind, core_call, front_not_built, screened, decoded, LetIn, NotBuilt}
use Rattle.calls.specs.declared.types.ActKind.{ActKind}
use Rattle.calls.specs.declared.types.ActKind.TheVariants as kind
use Rattle.calls.specs.declared.types.Call as code
use Rattle.calls.specs.declared.types.Call.TheVariants as call
use Rattle.calls.proofs.Back.{then_some, some_parts}

many_long : {A : Type 0} (f : List ℕ → Option (A × List ℕ)) (k : ℕ) (xs : List ℕ) (as' : List A) (ys : List ℕ) → many_at f k xs ≡ Some (as', ys) → length as' ≡ k
unfolding many_at
many_long {A} f zero xs as' ys e = ap length (sym (some_parts [] as' xs ys e).0)
many_long f (suc k) xs as' ys e =
    let r = then_some (f xs) (λ r. and_then (many_at f k r.1) (λ q. Some (r.0 ∷ q.0, q.1))) (as', ys) e in
    let q = then_some (many_at f k r.0.1) (λ q. Some (r.0.0 ∷ q.0, q.1)) (as', ys) r.2 in
    ap length (sym (some_parts (r.0.0 ∷ q.0.0) as' q.0.1 ys q.2).0) ∙ ap suc (many_long f k r.0.1 q.0.0 q.0.1 q.1)

not_one : (as' : List Act) → (length as' ≡ 1 → ⊥) → one as' ≡ false
unfolding one
not_one [] h = refl
not_one (Make p v n o ∷ []) h = absurd (h refl)
not_one (Put p v x ∷ []) h = absurd (h refl)
not_one (Drop p x ∷ []) h = absurd (h refl)
not_one (Check p x ∷ []) h = absurd (h refl)
not_one (a ∷ b ∷ as') h = refl

-- other than one act
pub many_not_core : (n : ℕ) (xs : List ℕ) → past act_at n xs ≡ Some [] → (n ≡ 1 → ⊥) → one (acts_in n xs) ≡ false
many_not_core n xs e h = go (acts_at n xs) refl e
  where
    go : (o : Option (List Act × List ℕ)) → acts_at n xs ≡ o → rest o ≡ Some [] → one (acts_or o) ≡ false
    go None s r = absurd (let z : ◌≡◌ {A = ℕ} 0 1 = cc in omega arith)
    go (Some q) s r = not_one q.0 (λ l. h (sym (many_long act_at n xs q.0 q.1 s) ∙ l))

-- one act
pub one_act : (xs : List ℕ) (a : Act) (ys : List ℕ) → act_at xs ≡ Some (a, ys) → acts_in 1 xs ≡ a ∷ []
unfolding many_at
one_act xs a ys e = ap (λ (o : Option (Act × List ℕ)). acts_or (and_then o (λ r. and_then (many_at act_at 0 r.1) (λ q. Some (r.0 ∷ q.0, q.1))))) e

pub no_act : (xs : List ℕ) → act_at xs ≡ None → acts_in 1 xs ≡ []
unfolding many_at
no_act xs e = ap (λ (o : Option (Act × List ℕ)). acts_or (and_then o (λ r. and_then (many_at act_at 0 r.1) (λ q. Some (r.0 ∷ q.0, q.1))))) e

pub plain_one : (k : ActKind) (p : Path) (v : List ℕ) → plain_kind k ≡ one (act_from k p v ∷ [])
unfolding one
plain_one (kind.Make n s) p v = refl
plain_one (kind.Put x) p v = refl
plain_one (kind.Drop x) p v = refl
plain_one (kind.Check x) p v = refl

pub core_call_lem : (c : code.Call) → core_call c ≡ core (call_of c)
unfolding core
core_call_lem (call.Do as') = refl
core_call_lem (call.Look p) = refl
core_call_lem (call.Kids p) = refl
core_call_lem call.Open = refl
core_call_lem (call.End s) = refl

-- what is told of a call that was read
pub screened_call : (xs : List ℕ) (c : code.Call) (b : Bool) → false ≡ front_not_built xs → decode_call xs ≡ Some (call_of c) → b ≡ core_call c → screened xs ≡ cond b (LetIn (call_of c)) NotBuilt
screened_call xs c b front is core' =
    (λ i. cond (sym front i) NotBuilt (decoded (is i))) ∙ ap (λ (t : Bool). cond t (LetIn (call_of c)) NotBuilt) (sym (core' ∙ core_call_lem c))
