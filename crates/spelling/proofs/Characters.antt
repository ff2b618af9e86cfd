-- A part of the bytes is written in a room, and the room's text to where it is to go.
use Rattle.std.proofs.Common.{◌≡◌, ℕ, ◌+◌, ◌<◌, Bool, true, List, [], ◌∷◌, ◌++◌, IsAscii, length, get_or, take, refl, sym, ap, ◌∙◌, subst, append-nil, append_assoc, arith}
use Rattle.std.proofs.lemmas.Str.{IsAscii-append}
use Rattle.std.proofs.lemmas.Str.Ascii.{IsAscii-nil, IsAscii-cons}
use Rattle.std.specs.List.{list_all}
use Rattle.std.proofs.lemmas.Bool.{cond-true}
use Rattle.std.proofs.lemmas.Bool.Decides.{nat_tests}
use Rattle.lent_bytes.specs.Writers.{Wrote}
use Rattle.lent_bytes.specs.declared.writing.Writer.{Writer}
use Rattle.lent_bytes.proofs.Writes.{wrote_then, wrote_same}
use Rattle.spelling.specs.Spelled.{plain, char_spelled, chars_spelled, many}
use Rattle.spelling.proofs.Loops.{bytes_more, many_both}

pub no_ascii : (q : Bool) → IsAscii (chars_spelled q [])
unfolding many
no_ascii q = IsAscii-nil

pub none_wrote : (q : Bool) (text : Writer) → Wrote text (chars_spelled q []) text
unfolding many
none_wrote q text = record { same = refl; added = record { ends = omega arith; front = sym (append-nil (take text.used text.out.now)); long = refl } }

module _ (q : Bool) (bs : List ℕ) (i : ℕ) (h : i < length bs) where
  pub more_ascii : IsAscii (chars_spelled q (take i bs)) → IsAscii (char_spelled q (get_or bs i 0)) → IsAscii (chars_spelled q (take (i + 1) bs))
  more_ascii a b = subst (λ (t : List ℕ). IsAscii t) (bytes_more (char_spelled q) bs i h) (IsAscii-append (chars_spelled q (take i bs)) (char_spelled q (get_or bs i 0)) a b)

  pub more_wrote : (was text now : Writer) → Wrote was (chars_spelled q (take i bs)) text → Wrote text (char_spelled q (get_or bs i 0)) now → Wrote was (chars_spelled q (take (i + 1) bs)) now
  more_wrote was text now a b = wrote_same _ _ (bytes_more (char_spelled q) bs i h) (wrote_then a b)

-- all of it, where the room is written from its start on
pub wrote_all : (q : Bool) (bs : List ℕ) (was now : Writer) → was.used ≡ 0 → Wrote was (chars_spelled q bs) now → take now.used now.out.now ≡ chars_spelled q bs
wrote_all q bs was now none w = w.added.front ∙ ap (λ (n : ℕ). take n was.out.now ++ chars_spelled q bs) none

-- bytes that are all written as they are
pub plain_bytes : (q : Bool) (bs : List ℕ) → list_all (plain q) bs ≡ true → (chars_spelled q bs ≡ bs) × IsAscii bs
unfolding many
plain_bytes q [] p = (refl, IsAscii-nil)
plain_bytes q (b ∷ bs) p =
    let here : plain q b ≡ true = grind (arith, nat_tests) in
    let rest = plain_bytes q bs (grind (arith, nat_tests)) in
    let small : b < 128 = grind (arith, nat_tests) in
    (ap (λ (t : List ℕ). t ++ chars_spelled q bs) (cond-true (plain q b) _ _ here) ∙ ap (λ (t : List ℕ). b ∷ t) rest.0, IsAscii-cons b bs small rest.1)

-- what is left of all bytes, once a part of it was written
pub part_more : (q : Bool) (bs left part behind done : List ℕ) → left ≡ part ++ behind → done ++ chars_spelled q left ≡ chars_spelled q bs → (done ++ chars_spelled q part) ++ chars_spelled q behind ≡ chars_spelled q bs
part_more q bs left part behind done cut so_far =
    append_assoc done (chars_spelled q part) (chars_spelled q behind)
    ∙ ap (λ (t : List ℕ). done ++ t) (sym (many_both (char_spelled q) part behind) ∙ ap (chars_spelled q) (sym cut))
    ∙ so_far

pub none_left : (q : Bool) (bs left done : List ℕ) → left ≡ [] → done ++ chars_spelled q left ≡ chars_spelled q bs → done ≡ chars_spelled q bs
unfolding many
none_left q bs left done none so_far = sym (append-nil done) ∙ ap (λ (l : List ℕ). done ++ chars_spelled q l) (sym none) ∙ so_far
