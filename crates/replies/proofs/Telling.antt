-- Several things of one kind that are read and told in words, one behind the other: what a loop over them keeps. Assumes nothing.
use Rattle.std.proofs.Common.{◌≡◌, ℕ, suc, ◌+◌, ◌-◌, ◌<◌, List, ◌∷◌, ◌++◌, Some, None, Ok, Err, Bor, Option, Result, subst, sym, refl, ap, ◌∙◌, append_assoc, arith}
use Rattle.std.specs.Result.{IsErr, IsErrAnd}
use Rattle.std.proofs.lemmas.Bool.{false≢true}
use Rattle.std.proofs.lemmas.List.{append-nil}
use Rattle.calls.specs.Format.{and_then, many_at}
use Rattle.calls.proofs.Back.{some_parts}
use Rattle.spelling.specs.Spelled.{many}
use Rattle.replies.specs.declared.untold.Untold.{Untold}
use Rattle.replies.specs.declared.untold.Untold.TheVariants.{NoAnswer, Memory}
use Rattle.replies.specs.Answers.{told}
use Rattle.replies.specs.Telling.{Left}

module _ {A : Type 0} (f : List ℕ → Option (A × List ℕ)) (w : A → List ℕ) where
  first_told : (x : A) (t : List ℕ) (o : Option (List A × List ℕ)) → told (many w) t (and_then o (λ q. Some (x ∷ q.0, q.1))) ≡ told (many w) (t ++ w x) o
  unfolding many
  first_told x t None = refl
  first_told x t (Some q) = ap (λ (l : List ℕ). Some (l, q.1)) (sym (append_assoc t (w x) (many w q.0)))

  one_told : (k : ℕ) (t : List ℕ) (xs : List ℕ) (u ys : List ℕ) → Some (u, ys) ≡ told w t (f xs) → told (many w) t (many_at f (suc k) xs) ≡ told (many w) u (many_at f k ys)
  unfolding many_at
  one_told k t xs u ys e = go (f xs) e
    where
      go : (o : Option (A × List ℕ)) → Some (u, ys) ≡ told w t o →
          told (many w) t (and_then o (λ r. and_then (many_at f k r.1) (λ q. Some (r.0 ∷ q.0, q.1)))) ≡ told (many w) u (many_at f k ys)
      go None h = absurd (let z : ◌≡◌ {A = ℕ} 0 1 = cc in omega arith)
      go (Some r) h =
          let p = some_parts u (t ++ w r.0) ys r.1 h in
          first_told r.0 t (many_at f k r.1) ∙ (λ i. told (many w) (sym p.0 i) (many_at f k (sym p.1 i)))

  none_told : (k : ℕ) (t : List ℕ) (xs : List ℕ) → None ≡ told w t (f xs) → told (many w) t (many_at f (suc k) xs) ≡ None
  unfolding many_at
  none_told k t xs e = go (f xs) e
    where
      go : (o : Option (A × List ℕ)) → None ≡ told w t o → told (many w) t (and_then o (λ r. and_then (many_at f k r.1) (λ q. Some (r.0 ∷ q.0, q.1)))) ≡ None
      go None h = refl
      go (Some r) h = absurd (let z : ◌≡◌ {A = ℕ} 0 1 = cc in omega arith)

  -- nothing is left to read
  pub told_end : (n i : ℕ) (t xs : List ℕ) → n - i ≡ 0 → told (many w) t (many_at f (n - i) xs) ≡ Some (t, xs)
  unfolding many_at many
  told_end n i t xs e = ap (λ (k : ℕ). told (many w) t (many_at f k xs)) e ∙ ap (λ (l : List ℕ). Some (l, xs)) (append-nil t)

  module _ (n i : ℕ) (t xs : List ℕ) (more : i < n) where
    -- one more was read, and told
    pub told_step : (u ys : List ℕ) → Some (u, ys) ≡ told w t (f xs) → told (many w) t (many_at f (n - i) xs) ≡ told (many w) u (many_at f (n - (i + 1)) ys)
    told_step u ys e =
        let s : n - i ≡ suc (n - (i + 1)) = omega arith in
        ap (λ (k : ℕ). told (many w) t (many_at f k xs)) s ∙ one_told (n - (i + 1)) t xs u ys e

    -- one could not be read
    pub told_stop : None ≡ told w t (f xs) → told (many w) t (many_at f (n - i) xs) ≡ None
    told_stop e =
        let s : n - i ≡ suc (n - (i + 1)) = omega arith in
        ap (λ (k : ℕ). told (many w) t (many_at f k xs)) s ∙ none_told (n - (i + 1)) t xs e

-- where a part is not told, the whole is not
pub left_stop : (r : Result (Bor (List ℕ)) Untold) (e : Untold) (u : List ℕ) (s s' : Option (List ℕ × List ℕ)) → IsErr r × IsErrAnd r (λ x. x ≡ e) → (None ≡ s → None ≡ s') → Left (Err e) u s → Left r u s'
left_stop (Ok x) e u s s' w f h = absurd (false≢true w.0)
left_stop (Err x) e u s s' w f h = subst (λ (y : Untold). Left (Err y) u s') (sym w.1) (go e h)
  where
    go : (y : Untold) → Left (Err y) u s → Left (Err y) u s'
    go NoAnswer k = f k
    go Memory k = tt
