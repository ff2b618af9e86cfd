-- Acts that are read one behind the other: what a loop over them keeps. Assumes nothing.
use Rattle.std.proofs.Common.{◌≡◌, ℕ, zero, suc, ◌+◌, ◌<◌, ◌≤◌, List, [], ◌∷◌, length, Some, None, Option, sym, refl, ap, ◌∙◌, subst, arith}
use Rattle.model.specs.Tree.{Act, Make, Put, Drop, Check, values_in}
use Rattle.calls.specs.Format.{and_then, act_at, acts_at, many_at}
use Rattle.calls.specs.Reading.{act_read, acts_in, acts_or, past, rest}
use Rattle.calls.specs.declared.types.Act as code
use Rattle.std.specs.Borrow.{Bor}
use Rattle.std.specs.Option.{option_map, IsSome}
use Rattle.acts.specs.Several.{brought}

-- where there is an act, it is read
pub is_read : (r : Option (code.Act × Bor (List ℕ))) (o : Option (Act × List ℕ)) → option_map act_read r ≡ o → (o ≡ None → ⊥) → IsSome r
is_read None o e some = absurd (some (sym e))
is_read (Some a) o e some = refl

-- what was read is what is there
pub read_as : (r : Option (code.Act × Bor (List ℕ))) (a : code.Act × Bor (List ℕ)) (o : Option (Act × List ℕ)) → option_map act_read r ≡ o → r ≡ Some a → o ≡ Some (act_read a)
read_as r a o e is = sym e ∙ ap (option_map act_read) is

-- bytes are so many acts, these, and nothing else
abbrev pub Reads : ℕ → List ℕ → List Act → Type 0
Reads k bytes left = acts_at k bytes ≡ Some (left, [])

clash : {A : Type 0} {X : Type 0} (x : A) → ◌≡◌ {A = Option A} None (Some x) → X
clash x e = absurd (let z : ◌≡◌ {A = ℕ} 0 1 = cc in omega arith)

pair_of : (p q : List Act × List ℕ) → ◌≡◌ {A = Option (List Act × List ℕ)} (Some p) (Some q) → p ≡ q
pair_of p q e = cc

pub reads_first : (k : ℕ) (bytes : List ℕ) → past act_at k bytes ≡ Some [] → Reads k bytes (acts_in k bytes)
reads_first k bytes e = go (acts_at k bytes) e
  where
    go : (o : Option (List Act × List ℕ)) → rest o ≡ Some [] → o ≡ Some (acts_or o, [])
    go None h = clash [] h
    go (Some r) h = let none : r.1 ≡ [] = cc in ap (λ (l : List ℕ). Some (r.0, l)) none

module _ (k : ℕ) (bytes : List ℕ) (left : List Act) (h : Reads (suc k) bytes left) where
  pub reads_stop : act_at bytes ≡ None → ⊥
  unfolding many_at
  reads_stop e = clash (left, []) (sym (ap (λ (o : Option (Act × List ℕ)). and_then o (λ r. and_then (many_at act_at k r.1) (λ q. Some (r.0 ∷ q.0, q.1)))) e) ∙ h)

  -- one more is read
  pub reads_step : (a : Act) (more : List ℕ) → act_at bytes ≡ Some (a, more) → (as' : List Act) × (left ≡ a ∷ as') × Reads k more as'
  unfolding many_at
  reads_step a more e = go (many_at act_at k more) refl (sym (ap (λ (o : Option (Act × List ℕ)). and_then o (λ r. and_then (many_at act_at k r.1) (λ q. Some (r.0 ∷ q.0, q.1)))) e) ∙ h)
    where
      go : (o : Option (List Act × List ℕ)) → many_at act_at k more ≡ o → and_then {B = List Act × List ℕ} o (λ q. Some (a ∷ q.0, q.1)) ≡ Some (left, []) → (as' : List Act) × (left ≡ a ∷ as') × Reads k more as'
      go None is f = clash (left, []) f
      go (Some q) is f =
          let both = pair_of (a ∷ q.0, q.1) (left, []) f in
          let none = ap (λ (p : List Act × List ℕ). p.1) both in
          (q.0, sym (ap (λ (p : List Act × List ℕ). p.0) both), is ∙ ap (λ (l : List ℕ). Some (q.0, l)) none)

pub reads_end : (bytes : List ℕ) (left : List Act) → Reads 0 bytes left → left ≡ []
unfolding many_at
reads_end bytes left h = sym (ap (λ (p : List Act × List ℕ). p.0) (pair_of ([], bytes) (left, []) h))

pub reads_length : (k : ℕ) (bytes : List ℕ) (left : List Act) → Reads k bytes left → length left ≡ k
unfolding many_at
reads_length zero bytes left h = ap length (reads_end bytes left h)
reads_length (suc k) bytes left h = go (act_at bytes) refl (reads_length k)
  where
    go : (o : Option (Act × List ℕ)) → act_at bytes ≡ o → ((more : List ℕ) (as' : List Act) → Reads k more as' → length as' ≡ k) → length left ≡ suc k
    go None e fewer = absurd (reads_stop k bytes left h e)
    go (Some r) e fewer = let s = reads_step k bytes left h r.0 r.1 e in ap length s.1 ∙ ap suc (fewer r.1 s.0 s.2)

pub values_cons : (a : Act) (as' : List Act) → values_in (a ∷ as') ≡ brought a + values_in as'
unfolding values_in
values_cons (Make p v n o) as' = refl
values_cons (Put p v x) as' = refl
values_cons (Drop p x) as' = omega arith
values_cons (Check p x) as' = omega arith

-- what a loop that sums the values of acts keeps: so many are left, and so much was summed
pub record Summed (all : List Act) (k : ℕ) (bytes : List ℕ) (sum : ℕ) : Type 0 where
  pub left : List Act
  pub reads : Reads k bytes left
  pub same : values_in all ≡ sum + values_in left
  pub low : sum ≤ 262144

module _ (all : List Act) (k m : ℕ) (bytes : List ℕ) (sum : ℕ) (s : Summed all k bytes sum) (more : k ≡ suc m) where
  on : Reads (suc m) bytes s.left
  on = subst (λ (n : ℕ). Reads n bytes s.left) more s.reads

  pub summed_stop : act_at bytes ≡ None → ⊥
  summed_stop e = reads_stop m bytes s.left on e

  module _ (a : Act) (rest' : List ℕ) (e : act_at bytes ≡ Some (a, rest')) where
    next : (as' : List Act) × (s.left ≡ a ∷ as') × Reads m rest' as'
    next = reads_step m bytes s.left on a rest' e

    values : values_in all ≡ sum + brought a + values_in next.0
    values = s.same ∙ omega (arith, ap values_in next.1, values_cons a next.0)

    pub summed_more : sum + brought a ≤ 262144 → Summed all m rest' (sum + brought a)
    summed_more l = record { left = next.0; reads = next.2; same = values; low = l }

    pub summed_over : 262144 < sum + brought a → 262144 < values_in all
    summed_over l = omega (arith, values)

pub summed_first : (k : ℕ) (bytes : List ℕ) → past act_at k bytes ≡ Some [] → Summed (acts_in k bytes) k bytes 0
summed_first k bytes e = record { left = acts_in k bytes; reads = reads_first k bytes e; same = omega arith; low = omega arith }

pub summed_all : (all : List Act) (bytes : List ℕ) (sum : ℕ) (k : ℕ) → k ≡ 0 → Summed all k bytes sum → values_in all ≤ 262144
unfolding values_in
summed_all all bytes sum k e s =
    let none = reads_end bytes s.left (subst (λ (n : ℕ). Reads n bytes s.left) e s.reads) in
    omega (arith, s.same, s.low, ap values_in none)

pub count_is : (k : ℕ) (bytes : List ℕ) → past act_at k bytes ≡ Some [] → length (acts_in k bytes) ≡ k
count_is k bytes e = reads_length k bytes (acts_in k bytes) (reads_first k bytes e)
