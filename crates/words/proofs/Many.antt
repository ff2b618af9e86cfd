-- The steps of a loop that reads one thing behind the other: what is still to read, behind what was read, is what there was to read.
use Rattle.std.proofs.Common.{◌≡◌, ℕ, zero, suc, ◌+◌, ◌-◌, ◌<◌, ◌≤◌, Bool, true, false, List, [], ◌∷◌, ◌++◌, length, Some, None, Option, sym, refl, ap, ◌∙◌, append_assoc, arith}
use Rattle.std.proofs.lemmas.Bool.{cond-true, cond-false}
use Rattle.std.proofs.lemmas.List.{append-nil}
use Rattle.calls.specs.Format.{and_then}
use Rattle.words.specs.Words.{many_while}

abbrev pub before : {A : Type 0} → List A → Option (List A × List ℕ) → Option (List A × List ℕ)
before ys None = None
before ys (Some r) = Some (ys ++ r.0, r.1)

before_none : {A : Type 0} (o : Option (List A × List ℕ)) → o ≡ before [] o
before_none None = refl
before_none (Some r) = refl

before_more : {A : Type 0} (ys : List A) (x : A) (o : Option (List A × List ℕ)) → before ys (and_then o (λ s. Some (x ∷ s.0, s.1))) ≡ before (ys ++ (x ∷ [])) o
before_more ys x None = refl
before_more ys x (Some r) = ap (λ (zs : List _). Some (zs, r.1)) (sym (append_assoc ys (x ∷ []) r.0))

module _ {A : Type 0} (over : List ℕ → Bool) (one : List ℕ → Option (A × List ℕ)) (ys : List A) (rest : List ℕ) where
  pub many_over : (k : ℕ) → over rest ≡ true → before ys (many_while over one k rest) ≡ Some (ys, rest)
  unfolding many_while
  many_over zero e = ap (λ (zs : List A). Some (zs, rest)) (append-nil ys)
  many_over (suc k) e = ap (before ys) (cond-true (over rest) _ _ e) ∙ ap (λ (zs : List A). Some (zs, rest)) (append-nil ys)

  pub many_end : (n i : ℕ) → n ≤ i → before ys (many_while over one (n - i) rest) ≡ Some (ys, rest)
  unfolding many_while
  many_end n i h = ap (λ (k : ℕ). before ys (many_while over one k rest)) (let e : n - i ≡ 0 = omega arith in e) ∙ ap (λ (zs : List A). Some (zs, rest)) (append-nil ys)

  step : (k : ℕ) → over rest ≡ false → many_while over one (suc k) rest ≡ and_then (one rest) (λ r. and_then (many_while over one k r.1) (λ s. Some (r.0 ∷ s.0, s.1)))
  unfolding many_while
  step k e = cond-false (over rest) _ _ e

  left : (n i : ℕ) → i < n → n - i ≡ suc (n - (i + 1))
  left n i h = omega arith

  pub many_wrong : (n i : ℕ) → i < n → over rest ≡ false → one rest ≡ None → before ys (many_while over one (n - i) rest) ≡ None
  many_wrong n i h e w =
      ap (λ (k : ℕ). before ys (many_while over one k rest)) (left n i h)
      ∙ (ap (before ys) (step (n - (i + 1)) e)
      ∙ ap (λ (o : Option (A × List ℕ)). before ys (and_then o (λ r. and_then (many_while over one (n - (i + 1)) r.1) (λ s. Some (r.0 ∷ s.0, s.1))))) w)

  pub many_more : (n i : ℕ) (x : A) (next : List ℕ) → i < n → over rest ≡ false → one rest ≡ Some (x, next) →
      before ys (many_while over one (n - i) rest) ≡ before (ys ++ (x ∷ [])) (many_while over one (n - (i + 1)) next)
  many_more n i x next h e w =
      ap (λ (k : ℕ). before ys (many_while over one k rest)) (left n i h)
      ∙ (ap (before ys) (step (n - (i + 1)) e)
      ∙ (ap (λ (o : Option (A × List ℕ)). before ys (and_then o (λ r. and_then (many_while over one (n - (i + 1)) r.1) (λ s. Some (r.0 ∷ s.0, s.1))))) w
      ∙ before_more ys x (many_while over one (n - (i + 1)) next)))

-- a loop that goes on until they are over: what is left, by no fewer steps than there are characters
pub record IsLeft {A : Type 0} (over : List ℕ → Bool) (one : List ℕ → Option (A × List ℕ)) (said : Option (List A × List ℕ)) (ys : List A) (rest : List ℕ) : Type 0 where
  most : ℕ
  enough : length rest ≤ most
  same : said ≡ before ys (many_while over one most rest)

pub left_start : {A : Type 0} (over : List ℕ → Bool) (one : List ℕ → Option (A × List ℕ)) (xs : List ℕ) → IsLeft over one (many_while over one (length xs) xs) [] xs
left_start over one xs = record { most = length xs; enough = omega arith; same = before_none (many_while over one (length xs) xs) }

module _ {A : Type 0} (over : List ℕ → Bool) (one : List ℕ → Option (A × List ℕ)) (said : Option (List A × List ℕ)) (ys : List A) (rest : List ℕ) where
  pub left_over : IsLeft over one said ys rest → over rest ≡ true → said ≡ Some (ys, rest)
  left_over l e = l.same ∙ many_over over one ys rest l.most e

  more_than_none : (xs : List ℕ) → over [] ≡ true → over xs ≡ false → 0 < length xs
  more_than_none [] f e = cc
  more_than_none (x ∷ xs) f e = omega arith

  wrong : (most : ℕ) → 0 < most → over rest ≡ false → one rest ≡ None → before ys (many_while over one most rest) ≡ None
  wrong zero h e w = absurd (omega arith)
  wrong (suc k) h e w =
      ap (before ys) (step over one ys rest k e) ∙ ap (λ (o : Option (A × List ℕ)). before ys (and_then o (λ r. and_then (many_while over one k r.1) (λ s. Some (r.0 ∷ s.0, s.1))))) w

  pub left_wrong : IsLeft over one said ys rest → over [] ≡ true → over rest ≡ false → one rest ≡ None → said ≡ None
  left_wrong l f e w = let some = more_than_none rest f e in l.same ∙ wrong l.most (omega (arith, l.enough)) e w

  more : (most : ℕ) (x : A) (next : List ℕ) → length next < most → over rest ≡ false → one rest ≡ Some (x, next) → said ≡ before ys (many_while over one most rest) →
      IsLeft over one said (ys ++ (x ∷ [])) next
  more zero x next h e w s = absurd (omega arith)
  more (suc k) x next h e w s =
      record {
        most = k;
        enough = omega arith;
        same =
            s
            ∙ (ap (before ys) (step over one ys rest k e)
            ∙ (ap (λ (o : Option (A × List ℕ)). before ys (and_then o (λ r. and_then (many_while over one k r.1) (λ s. Some (r.0 ∷ s.0, s.1))))) w ∙ before_more ys x (many_while over one k next)));
      }

  pub left_more : IsLeft over one said ys rest → (x : A) (next : List ℕ) → length next < length rest → over rest ≡ false → one rest ≡ Some (x, next) →
      IsLeft over one said (ys ++ (x ∷ [])) next
  left_more l x next h e w = more l.most x next (omega (arith, l.enough)) e w l.same
