-- Writes one behind the other leave what they wrote, joined from the right.
use Rattle.std.proofs.Common.{◌≡◌, ℕ, List, ◌++◌, ap, ◌∙◌, append_assoc}

pub two_parts : (front a b : List ℕ) {one two : List ℕ} → one ≡ front ++ a → two ≡ one ++ b → two ≡ front ++ (a ++ b)
two_parts front a b first second = let x = append_assoc front a b in cc

pub three_parts : (front a b d : List ℕ) {one two three : List ℕ} → one ≡ front ++ a → two ≡ one ++ b → three ≡ two ++ d → three ≡ front ++ (a ++ (b ++ d))
three_parts front a b d first second third = let x = append_assoc front a b in let y = append_assoc front (a ++ b) d in let z = append_assoc a b d in cc

pub four_parts : (front a b d e : List ℕ) {one two three four : List ℕ} →
    one ≡ front ++ a → two ≡ one ++ b → three ≡ two ++ d → four ≡ three ++ e → four ≡ front ++ (a ++ (b ++ (d ++ e)))
four_parts front a b d e first second third fourth =
    three_parts (front ++ a) b d e (second ∙ ap (λ (xs : List ℕ). xs ++ b) first) third fourth ∙ append_assoc front a (b ++ (d ++ e))

pub five_parts : (front a b d e f : List ℕ) {one two three four five : List ℕ} →
    one ≡ front ++ a → two ≡ one ++ b → three ≡ two ++ d → four ≡ three ++ e → five ≡ four ++ f → five ≡ front ++ (a ++ (b ++ (d ++ (e ++ f))))
five_parts front a b d e f first second third fourth fifth =
    three_parts (front ++ (a ++ b)) d e f (third ∙ ap (λ (xs : List ℕ). xs ++ d) (second ∙ (ap (λ (xs : List ℕ). xs ++ b) first ∙ append_assoc front a b))) fourth fifth
    ∙ (append_assoc front (a ++ b) (d ++ (e ++ f)) ∙ ap (λ (xs : List ℕ). front ++ xs) (append_assoc a b (d ++ (e ++ f))))
