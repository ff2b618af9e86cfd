-- An answer that was read, and its words behind what was there.
use Rattle.std.proofs.Common.{◌≡◌, ℕ, true, List, [], ◌∷◌, ◌++◌, Some, None, Option, Result, sym, refl, ap, ◌∙◌, subst, arith, append_assoc, Bor}
use Rattle.std.specs.Option.{option_map, ok_or}
use Rattle.model.specs.Tree.{Reply}
use Rattle.calls.specs.Format.{and_then, byte_at, wholly, reply_by, decode_reply}
use Rattle.calls.specs.Reading.{behind}
use Rattle.calls.proofs.Back.{some_parts}
use Rattle.replies.specs.declared.untold.Untold.{Untold}
use Rattle.replies.specs.declared.untold.Untold.TheVariants.{NoAnswer}
use Rattle.replies.specs.Answers.{reply_spelled, Spelled, told}
use Rattle.replies.specs.Telling.{Telling}

pub spelled : (o : Option Reply) (r : Reply) (before after : List ℕ) → Some r ≡ o → after ≡ before ++ reply_spelled r → Spelled o true before after
spelled o r before after e w = subst (λ (x : Option Reply). Spelled x true before after) e (refl, w)

-- what the first byte's number says of the bytes behind it is what all bytes say
pub by_kind : (bs : List ℕ) (k : ℕ) (rest : Bor (List ℕ)) (first : Option (ℕ × Bor (List ℕ))) → option_map behind first ≡ byte_at bs → first ≡ Some (k, rest) → reply_by k rest.now ≡ decode_reply bs
by_kind bs k rest first e s = ap (λ (o : Option (ℕ × List ℕ)). and_then o (λ b. reply_by b.0 b.1)) (ap (option_map behind) (sym s) ∙ e)

-- a list that was read to the end of the bytes, told behind a word
module _ {A : Type 0} (w : A → List ℕ) (make : A → Reply) (word : List ℕ) (is : (x : A) → reply_spelled (make x) ≡ word ++ w x) (before : List ℕ) where
  whole_told : (o : Option (A × List ℕ)) (text rest : List ℕ) → Some (text, rest) ≡ told w (before ++ word) o → Telling (and_then (and_then o wholly) (λ x. Some (make x))) (ok_or (wholly {A = Unit {0}} (tt {0}, rest)) NoAnswer) before text
  whole_told None text rest e = absurd (let z : ◌≡◌ {A = ℕ} 0 1 = cc in omega arith)
  whole_told (Some (x, ys)) text rest e = subst (λ (zs : List ℕ). Telling (and_then (wholly {A = A} (x, ys)) (λ y. Some (make y))) (ok_or (wholly {A = Unit {0}} (tt {0}, zs)) NoAnswer) before text) (sym p.1) (go ys)
    where
      p : (text ≡ (before ++ word) ++ w x) × (rest ≡ ys)
      p = some_parts text ((before ++ word) ++ w x) rest ys e

      go : (zs : List ℕ) → Telling (and_then (wholly {A = A} (x, zs)) (λ y. Some (make y))) (ok_or (wholly {A = Unit {0}} (tt {0}, zs)) NoAnswer) before text
      go [] = (refl, p.0 ∙ (append_assoc before word (w x) ∙ ap (λ (l : List ℕ). before ++ l) (sym (is x))))
      go (z ∷ zs) = refl

  -- the word, then so many as a number in front says, and nothing behind them
  pub list_told : (many : ℕ → List ℕ → Option (A × List ℕ)) (front : Option (ℕ × List ℕ)) (first : Option (ℕ × Bor (List ℕ))) (count : ℕ) (listed : Bor (List ℕ)) (begun text : List ℕ) (rest : Bor (List ℕ)) (whole : Option (Unit {0})) (r : Result (Unit {0}) Untold) →
      option_map behind first ≡ front → first ≡ Some (count, listed) → begun ≡ before ++ word → Some (text, rest.now) ≡ told w begun (many count listed.now) → whole ≡ wholly {A = Unit {0}} (tt {0}, rest.now) → r ≡ ok_or whole NoAnswer →
      Telling (and_then front (λ k. and_then (and_then (many k.0 k.1) wholly) (λ x. Some (make x)))) r before text
  list_told many front first count listed begun text rest whole r read is-first wrote told' end says =
      subst (λ (f : Option (ℕ × List ℕ)). Telling (and_then f (λ k. and_then (and_then (many k.0 k.1) wholly) (λ x. Some (make x)))) r before text) (ap (option_map behind) (sym is-first) ∙ read)
      (subst (λ (q : Result (Unit {0}) Untold). Telling (and_then (and_then (many count listed.now) wholly) (λ x. Some (make x))) q before text) (sym (says ∙ ap (λ (o : Option (Unit {0})). ok_or o NoAnswer) end))
      (whole_told (many count listed.now) text rest.now (told' ∙ ap (λ (t : List ℕ). told w t (many count listed.now)) wrote)))

-- what was read wholly, by another name
pub wholly_map : {A B : Type 0} (f : A → B) (a : A) (xs : List ℕ) → option_map f (wholly (a, xs)) ≡ wholly (f a, xs)
wholly_map f a [] = refl
wholly_map f a (x ∷ xs) = refl

-- one reader behind another
pub next : {A B : Type 0} (o : Option (A × List ℕ)) (g : A × List ℕ → Option B) (x : A) (ys : List ℕ) (z : Option B) → o ≡ Some (x, ys) → g (x, ys) ≡ z → and_then o g ≡ z
next {A} o g x ys z e h = ap (λ (q : Option (A × List ℕ)). and_then q g) e ∙ h
