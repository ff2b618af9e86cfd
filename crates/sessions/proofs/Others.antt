-- Loops over the sessions besides one: how many, and their bytes. Assumes nothing.
use Rattle.std.proofs.Common.{◌≡◌, ℕ, suc, ◌+◌, ◌-◌, ◌*◌, ◌<◌, ◌≤◌, not, eqb, List, [], ◌∷◌, ◌++◌, length, get_or, take, sym, refl, ap, ◌∙◌, append_assoc, append-nil, arith, length-append}
use Rattle.std.proofs.lemmas.Bool.{eq-eqb, ne_eqb, cond-true, cond-false, cond_both}
use Rattle.std.specs.List.{AllByRecursion}
use Rattle.std.proofs.lemmas.List.{get_or-append-add}
use Rattle.model.specs.Tree.{keep}
use Rattle.lent_bytes.specs.Numbers.{be64, be8}
use Rattle.lent_bytes.specs.Writing.{Added}
use Rattle.lent_bytes.proofs.Rounds.{read_be8, length_be8}
use Rattle.cells.specs.Layout.{numbers_at}
use Rattle.cells.proofs.Preludes.{numbers_same}
use Rattle.sessions.specs.Ending.{others, numbers_bytes}

pub bytes_push : (xs : List ℕ) (x : ℕ) → numbers_bytes (xs ++ (x ∷ [])) ≡ numbers_bytes xs ++ be8 x
unfolding numbers_bytes
bytes_push [] x = append-nil (be8 x)
bytes_push (y ∷ xs) x = ap (λ (l : List ℕ). be8 y ++ l) (bytes_push xs x) ∙ sym (append_assoc (be8 y) (numbers_bytes xs) (be8 x))

-- what was passed and what is left of the sessions besides one
abbrev pub Passed : (k : ℕ) (all done rest : List ℕ) → Type 0
Passed k all done rest = others k all ≡ done ++ others k rest

module _ (k : ℕ) (all done rest : List ℕ) (p : Passed k all done rest) (x : ℕ) (rest' : List ℕ) (e : rest ≡ x ∷ rest') where
  step : others k all ≡ done ++ others k (x ∷ rest')
  step = p ∙ ap (λ (l : List ℕ). done ++ others k l) e

  pub passed_skip : k ≡ x → Passed k all done rest'
  unfolding keep
  passed_skip h = step ∙ ap (λ (l : List ℕ). done ++ l) (cond-false (not (eqb k x)) (x ∷ others k rest') (others k rest') (ap not (eq-eqb k x h)))

  pub passed_more : (k ≡ x → ⊥) → Passed k all (done ++ (x ∷ [])) rest'
  unfolding keep
  passed_more h =
      step ∙ ap (λ (l : List ℕ). done ++ l) (cond-true (not (eqb k x)) (x ∷ others k rest') (others k rest') (ap not (ne_eqb k x h))) ∙ sym (append_assoc done (x ∷ []) (others k rest'))

pub passed_all : (k : ℕ) (all done rest : List ℕ) → rest ≡ [] → Passed k all done rest → others k all ≡ done
unfolding keep
passed_all k all done rest e p = p ∙ ap (λ (l : List ℕ). done ++ others k l) e ∙ append-nil done

pub others_few : (k : ℕ) (xs : List ℕ) → length (others k xs) ≤ length xs
unfolding keep
others_few k [] = omega arith
others_few k (x ∷ xs) = let more = others_few k xs in cond_both (not (eqb k x)) (x ∷ others k xs) (others k xs) (λ (l : List ℕ). length l ≤ length (x ∷ xs)) (λ _. omega arith) (λ _. omega arith)

-- no more passed than there are
pub passed_few : (k : ℕ) (all done rest : List ℕ) → Passed k all done rest → length done ≤ length all
passed_few k all done rest p = omega (arith, ap length p, length-append done (others k rest), others_few k all)

-- numbers that were written are read again
pub numbers_written : (xs : List ℕ) → AllByRecursion (λ x. x < 18446744073709551616) xs → numbers_at (length xs) (numbers_bytes xs) 0 ≡ xs
unfolding numbers_at numbers_bytes
numbers_written [] h = refl
numbers_written (x ∷ xs) h =
    let one = read_be8 x (numbers_bytes xs) h.0 in
    let more = numbers_same (length xs) (be8 x ++ numbers_bytes xs) (numbers_bytes xs) 8 0 (λ m. ap (λ (n : ℕ). get_or (be8 x ++ numbers_bytes xs) (n + m) 0) (sym (length_be8 x)) ∙ get_or-append-add (be8 x) (numbers_bytes xs) m 0 ∙ ap (λ (n : ℕ). get_or (numbers_bytes xs) n 0) (omega arith)) ∙ numbers_written xs h.1 in
    λ i. one i ∷ more i

pub length_bytes : (xs : List ℕ) → length (numbers_bytes xs) ≡ 8 * length xs
unfolding numbers_bytes
length_bytes [] = refl
length_bytes (x ∷ xs) = omega (arith, length-append (be8 x) (numbers_bytes xs), length_be8 x, length_bytes xs)

pub added_none : (from : ℕ) (was : List ℕ) → Added from was (numbers_bytes []) from was
unfolding numbers_bytes
added_none from was = record { ends = omega arith; front = sym (append-nil (take from was)); long = refl }
