-- Seats that are written one behind the other: what a loop over them keeps. Assumes nothing.
use Rattle.std.proofs.Common.{◌≡◌, ℕ, zero, suc, ◌+◌, ◌<◌, ◌≤◌, List, [], ◌∷◌, ◌++◌, length, get_or, take, Option, sym, refl, ap, ◌∙◌, append_assoc, append-nil, add-one, arith}
use Rattle.std.proofs.lemmas.List.{take_all}
use Rattle.lent_bytes.specs.Writers.{Wrote}
use Rattle.lent_bytes.specs.declared.writing.Writer.{Writer}
use Rattle.service.specs.Service.{Outcome}
use Rattle.agreement.specs.declared.Place.{Place}
use Rattle.wire.specs.Messages.{seat_bytes, seats_bytes}

pub seats_begun : (out : Writer) → Wrote out (seats_bytes [] []) out
unfolding seats_bytes
seats_begun out = record { same = refl; added = record { ends = omega arith; front = sym (append-nil (take out.used out.out.now)); long = refl } }

pushed : (i : ℕ) (ps : List Place) (ks : List (Option Outcome)) (d : Place) (e : Option Outcome) → i < length ps → i < length ks →
    seats_bytes (take (suc i) ps) (take (suc i) ks) ≡ seats_bytes (take i ps) (take i ks) ++ seat_bytes (get_or ps i d) (get_or ks i e)
unfolding seats_bytes
pushed i [] ks d e l m = absurd (omega arith)
pushed i (q ∷ qs) [] d e l m = absurd (omega arith)
pushed zero (q ∷ qs) (k ∷ ks) d e l m = append-nil (seat_bytes q k)
pushed (suc i) (q ∷ qs) (k ∷ ks) d e l m =
    ap (λ (bs : List ℕ). seat_bytes q k ++ bs) (pushed i qs ks d e (omega arith) (omega arith)) ∙ sym (append_assoc (seat_bytes q k) (seats_bytes (take i qs) (take i ks)) (seat_bytes (get_or qs i d) (get_or ks i e)))

-- one seat more
pub seats_pushed : (i : ℕ) (ps : List Place) (ks : List (Option Outcome)) (d : Place) (e : Option Outcome) → i < length ps → i < length ks →
    seats_bytes (take (i + 1) ps) (take (i + 1) ks) ≡ seats_bytes (take i ps) (take i ks) ++ seat_bytes (get_or ps i d) (get_or ks i e)
seats_pushed i ps ks d e l m = rw (add-one i) (pushed i ps ks d e l m)

pub seats_more : (n m : ℕ) (ps : List Place) (ks : List (Option Outcome)) (q : Place) (k : Option Outcome) → m ≡ n + 1 → n < length ps → n < length ks → ((d : Place) → q ≡ get_or ps n d) → ((e : Option Outcome) → k ≡ get_or ks n e) →
    seats_bytes (take n ps) (take n ks) ++ seat_bytes q k ≡ seats_bytes (take m ps) (take m ks)
seats_more n m ps ks q k is lp lk p e =
    (λ i. seats_bytes (take n ps) (take n ks) ++ seat_bytes (p q i) (e k i)) ∙ sym (seats_pushed n ps ks q k lp lk) ∙ ap (λ (j : ℕ). seats_bytes (take j ps) (take j ks)) (sym is)

pub seats_whole : (i : ℕ) (ps : List Place) (ks : List (Option Outcome)) → length ps ≤ i → length ks ≤ i → seats_bytes (take i ps) (take i ks) ≡ seats_bytes ps ks
seats_whole i ps ks l m = λ j. seats_bytes (take_all i ps l j) (take_all i ks m j)
