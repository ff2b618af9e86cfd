-- What is written of acts and calls reads back.
use Rattle.std.proofs.Common.{◌≡◌, ℕ, ◌+◌, ◌-◌, ◌*◌, ◌^◌, ◌<◌, Bool, true, false, eqb, List, [], ◌∷◌, ◌++◌, length, Some, codes, decimal, Option, sym, refl, ap, ◌∙◌, append_assoc, arith, rules}
use Rattle.std.specs.Result.{result_ok}
use Rattle.std.specs.List.{AllByRecursion}
use Rattle.std.specs.Str.{all_ascii_digits}
use Rattle.std.specs.Char.{is_ascii_digit}
use Rattle.std.proofs.lemmas.Bool.Decides.{nat_tests}
use Rattle.std.proofs.lemmas.List.{append-nil}
use Rattle.std.proofs.lemmas.Str.Parse.{IsNumeralModel, numerals_by_fold, tells_all_ascii_digits}
use Rattle.std.proofs.lemmas.Fmt.{digits_decimal, decimal_nonempty}
use Rattle.std.proofs.lemmas.Bool.{cond-true, cond-false, cond_both, eqb-true, and_parts}
use Rattle.model.specs.Tree.{Path, Expect, Any, Version, Act, Make, Put, Drop, Check, Call, Do, Look, Kids, Open, End}
use Rattle.calls.specs.Format.{and_then}
use Rattle.text.specs.Decimal.{undecimal}
use Rattle.text.proofs.Back.{decimal_reads_back}
use Rattle.words.specs.Words.{ends, is_over, no_slash, unspaced, word_of, behind_word, mark_at, number_at, value_at}
use Rattle.phrases.specs.Acts.{version_at, numbered_at, session_at, make_at, put_at, drop_act_at, check_at, act_at, ended, piece_at, at_brace, acts_at, lone_at, call_at}
use Rattle.spelling.specs.Spelled.{many, value_spelled, path_spelled, expect_spelled, numbered_spelled, session_spelled, act_spelled, piece_spelled, braced_spelled, call_spelled}
use Rattle.readback.specs.ReadsBack.{Bytes, PathFits, ExpectFits, ActFits, CallsReadBack}
use Rattle.readback.proofs.CharsBack.{value_back, path_back, many_back, many_long}

-- what may follow an act: nothing, or a ;
data Stop : List ℕ → Type 0 where
  end : Stop []
  semi : (t : List ℕ) → Stop (59 ∷ t)

stop_over : {rest : List ℕ} → Stop rest → is_over false rest ≡ true
stop_over end = refl
stop_over (semi t) = refl

digit_no_end : (c : ℕ) → is_ascii_digit c ≡ true → ends false c ≡ false
digit_no_end c h = grind (arith, nat_tests)

digit_no_space : (c : ℕ) → is_ascii_digit c ≡ true → eqb c 32 ≡ false
digit_no_space c h = grind (arith, nat_tests)

-- digits are a word
word_digits : (ds rest : List ℕ) → all_ascii_digits ds ≡ true → is_over false rest ≡ true → (word_of (ds ++ rest) ≡ ds) × (behind_word (ds ++ rest) ≡ rest)
unfolding word_of behind_word
word_digits [] [] a o = (refl, refl)
word_digits [] (d ∷ ds) a o = (cond-true (ends false d) _ _ o, cond-true (ends false d) _ _ o)
word_digits (c ∷ cs) rest a o =
    let p = and_parts (is_ascii_digit c) (all_ascii_digits cs) a in
    let on = digit_no_end c p.0 in
    let more = word_digits cs rest p.1 o in
    (cond-false (ends false c) _ _ on ∙ ap (λ (xs : List ℕ). c ∷ xs) more.0, cond-false (ends false c) _ _ on ∙ more.1)

unspaced_digits : (ds rest : List ℕ) → 0 < length ds → all_ascii_digits ds ≡ true → unspaced (ds ++ rest) ≡ ds ++ rest
unfolding unspaced
unspaced_digits [] rest h a = absurd (omega arith)
unspaced_digits (c ∷ cs) rest h a = cond-false (eqb c 32) _ _ (digit_no_space c (and_parts (is_ascii_digit c) (all_ascii_digits cs) a).0)

abbrev read_on : ℕ → List ℕ → ℕ
read_on n [] = n
read_on n (c ∷ cs) = read_on (10 * n + (c - 48)) cs

own : IsNumeralModel (λ (ds : List ℕ). all_ascii_digits ds ≡ true) (read_on 0)
own = numerals_by_fold _ tells_all_ascii_digits read_on (search rules)

-- a number, with a space in front
number_back : (n : ℕ) (rest : List ℕ) → n < 2 ^ 64 → is_over false rest ≡ true → number_at (32 ∷ (decimal n ++ rest)) ≡ Some (n, rest)
unfolding unspaced
number_back n rest h o =
    let all = digits_decimal own n h in
    let word = word_digits (decimal n) rest all o in
    let spaces = unspaced_digits (decimal n) rest (decimal_nonempty n h) all in
    ap (λ (xs : List ℕ). and_then (result_ok (undecimal (word_of xs))) (λ m. Some (m, behind_word xs))) spaces
    ∙ (ap (λ (xs : List ℕ). and_then (result_ok (undecimal xs)) (λ m. Some (m, behind_word (decimal n ++ rest)))) word.0
    ∙ (ap (λ r. and_then (result_ok r) (λ m. Some (m, behind_word (decimal n ++ rest)))) (decimal_reads_back n h)
    ∙ ap (λ (xs : List ℕ). Some (n, xs)) word.1))

version_back : (x : Expect) {rest : List ℕ} → ExpectFits x → Stop rest → version_at (expect_spelled x ++ rest) ≡ Some (x, rest)
unfolding unspaced word_of behind_word
version_back Any g end = refl
version_back Any g (semi t) = refl
version_back (Version n) {rest} g s = ap (λ o. and_then o (λ r. Some (Version r.0, r.1))) (number_back n rest g (stop_over s))

session_back : (o : ℕ) (rest : List ℕ) → o < 2 ^ 64 → Stop rest → session_at (session_spelled o ++ rest) ≡ Some (o, rest)
unfolding unspaced word_of behind_word
session_back o rest h s =
    cond_both (eqb o 0) [] (codes " session " ++ decimal o) (λ (w : List ℕ). session_at (w ++ rest) ≡ Some (o, rest)) (λ e. none s (eqb-true o 0 e)) (λ e. number_back o rest h (stop_over s))
  where
    none : {more : List ℕ} → Stop more → o ≡ 0 → session_at more ≡ Some (o, more)
    none end e = ap (λ (k : ℕ). Some (k, [])) (sym e)
    none (semi t) e = ap (λ (k : ℕ). Some (k, 59 ∷ t)) (sym e)

numbered_back : (n : Bool) (o : ℕ) (rest : List ℕ) → Stop rest → numbered_at (numbered_spelled n ++ (session_spelled o ++ rest)) ≡ (n, session_spelled o ++ rest)
unfolding unspaced word_of behind_word
numbered_back n o rest s =
    cond_both (eqb o 0) [] (codes " session " ++ decimal o) (λ (w : List ℕ). numbered_at (numbered_spelled n ++ (w ++ rest)) ≡ (n, w ++ rest)) (λ e. none n s) (λ e. some n)
  where
    none : (m : Bool) {more : List ℕ} → Stop more → numbered_at (numbered_spelled m ++ more) ≡ (m, more)
    none true end = refl
    none true (semi t) = refl
    none false end = refl
    none false (semi t) = refl

    some : (m : Bool) → numbered_at (numbered_spelled m ++ ((codes " session " ++ decimal o) ++ rest)) ≡ (m, (codes " session " ++ decimal o) ++ rest)
    some true = refl
    some false = refl

expect_over : (x : Expect) {rest : List ℕ} → Stop rest → (is_over false (expect_spelled x ++ rest) ≡ true) × (no_slash (expect_spelled x ++ rest) ≡ true)
expect_over Any end = (refl, refl)
expect_over Any (semi t) = (refl, refl)
expect_over (Version n) s = (refl, refl)

make_back : (p : Path) (v : List ℕ) (n : Bool) (o : ℕ) (rest : List ℕ) → PathFits p → Bytes v → o < 2 ^ 64 → Stop rest →
    make_at (32 ∷ (path_spelled p ++ (32 ∷ (value_spelled v ++ (numbered_spelled n ++ (session_spelled o ++ rest)))))) ≡ Some (Make p v n o, rest)
make_back p v n o rest g b h s =
    let tail = numbered_spelled n ++ (session_spelled o ++ rest) in
    ap (λ r. and_then r (λ q. and_then (value_at q.1) (λ w. and_then (session_at (numbered_at w.1).1) (λ k. Some (Make q.0 w.0 (numbered_at w.1).0 k.0, k.1)))))
    (path_back p (32 ∷ (value_spelled v ++ tail)) g refl refl)
    ∙ (ap (λ r. and_then r (λ w. and_then (session_at (numbered_at w.1).1) (λ k. Some (Make p w.0 (numbered_at w.1).0 k.0, k.1)))) (value_back v tail b)
    ∙ (ap (λ (r : Bool × List ℕ). and_then (session_at r.1) (λ k. Some (Make p v r.0 k.0, k.1))) (numbered_back n o rest s)
    ∙ ap (λ r. and_then r (λ k. Some (Make p v n k.0, k.1))) (session_back o rest h s)))

put_back : (p : Path) (v : List ℕ) (x : Expect) (rest : List ℕ) → PathFits p → Bytes v → ExpectFits x → Stop rest →
    put_at (32 ∷ (path_spelled p ++ (32 ∷ (value_spelled v ++ (expect_spelled x ++ rest))))) ≡ Some (Put p v x, rest)
put_back p v x rest g b h s =
    ap (λ r. and_then r (λ q. and_then (value_at q.1) (λ w. and_then (version_at w.1) (λ k. Some (Put q.0 w.0 k.0, k.1)))))
    (path_back p (32 ∷ (value_spelled v ++ (expect_spelled x ++ rest))) g refl refl)
    ∙ (ap (λ r. and_then r (λ w. and_then (version_at w.1) (λ k. Some (Put p w.0 k.0, k.1)))) (value_back v (expect_spelled x ++ rest) b)
    ∙ ap (λ r. and_then r (λ k. Some (Put p v k.0, k.1))) (version_back x h s))

drop_back : (p : Path) (x : Expect) (rest : List ℕ) → PathFits p → ExpectFits x → Stop rest → drop_act_at (32 ∷ (path_spelled p ++ (expect_spelled x ++ rest))) ≡ Some (Drop p x, rest)
drop_back p x rest g h s =
    ap (λ r. and_then r (λ q. and_then (version_at q.1) (λ k. Some (Drop q.0 k.0, k.1)))) (path_back p (expect_spelled x ++ rest) g (expect_over x s).0 (expect_over x s).1)
    ∙ ap (λ r. and_then r (λ k. Some (Drop p k.0, k.1))) (version_back x h s)

check_back : (p : Path) (x : Expect) (rest : List ℕ) → PathFits p → ExpectFits x → Stop rest → check_at (32 ∷ (path_spelled p ++ (expect_spelled x ++ rest))) ≡ Some (Check p x, rest)
check_back p x rest g h s =
    ap (λ r. and_then r (λ q. and_then (version_at q.1) (λ k. Some (Check q.0 k.0, k.1)))) (path_back p (expect_spelled x ++ rest) g (expect_over x s).0 (expect_over x s).1)
    ∙ ap (λ r. and_then r (λ k. Some (Check p k.0, k.1))) (version_back x h s)

act_back : (a : Act) (rest : List ℕ) → ActFits a → Stop rest → act_at (act_spelled a ++ rest) ≡ Some (a, rest)
unfolding act_spelled unspaced word_of behind_word
act_back (Make p v n o) rest g s =
    ap (λ (xs : List ℕ). make_at (32 ∷ xs)) (let e : ((path_spelled p ++ (32 ∷ value_spelled v)) ++ (numbered_spelled n ++ session_spelled o)) ++ rest ≡ path_spelled p ++ (32 ∷ (value_spelled v ++ (numbered_spelled n ++ (session_spelled o ++ rest)))) = simp append_assoc in e)
    ∙ make_back p v n o rest g.0 g.1.0 g.1.1 s
act_back (Put p v x) rest g s =
    ap (λ (xs : List ℕ). put_at (32 ∷ xs)) (let e : ((path_spelled p ++ (32 ∷ value_spelled v)) ++ expect_spelled x) ++ rest ≡ path_spelled p ++ (32 ∷ (value_spelled v ++ (expect_spelled x ++ rest))) = simp append_assoc in e)
    ∙ put_back p v x rest g.0 g.1.0 g.1.1 s
act_back (Drop p x) rest g s = ap (λ (xs : List ℕ). drop_act_at (32 ∷ xs)) (append_assoc (path_spelled p) (expect_spelled x) rest) ∙ drop_back p x rest g.0 g.1 s
act_back (Check p x) rest g s = ap (λ (xs : List ℕ). check_at (32 ∷ xs)) (append_assoc (path_spelled p) (expect_spelled x) rest) ∙ check_back p x rest g.0 g.1 s

-- a space in front of an act does not count, and no act begins with a }
act_spaced : (a : Act) (t : List ℕ) → (act_at (32 ∷ (act_spelled a ++ t)) ≡ act_at (act_spelled a ++ t)) × (at_brace (32 ∷ (act_spelled a ++ t)) ≡ false)
unfolding act_spelled unspaced
act_spaced (Make p v n o) t = (refl, refl)
act_spaced (Put p v x) t = (refl, refl)
act_spaced (Drop p x) t = (refl, refl)
act_spaced (Check p x) t = (refl, refl)

piece_back : (a : Act) (t : List ℕ) → ActFits a → piece_at (piece_spelled a ++ t) ≡ Some (a, t)
unfolding unspaced
piece_back a t g =
    ap (λ (xs : List ℕ). piece_at (32 ∷ xs)) (append_assoc (act_spelled a) (59 ∷ []) t)
    ∙ ap (λ (o : Option (Act × List ℕ)). and_then o (λ b. ended b (mark_at 59 b.1))) ((act_spaced a (59 ∷ t)).0 ∙ act_back a (59 ∷ t) g (semi t))

piece_goes : (a : Act) (t : List ℕ) → at_brace (piece_spelled a ++ t) ≡ false
piece_goes a t = ap (λ (xs : List ℕ). at_brace (32 ∷ xs)) (append_assoc (act_spelled a) (59 ∷ []) t) ∙ (act_spaced a (59 ∷ t)).1

acts_back : (as' : List Act) (rest : List ℕ) → AllByRecursion ActFits as' → at_brace rest ≡ true → acts_at (many piece_spelled as' ++ rest) ≡ Some (as', rest)
acts_back as' rest g o =
    many_back at_brace piece_at piece_spelled (λ (t : List ℕ). Unit {0}) ActFits (λ a t h u. piece_goes a t) (λ a t h u. piece_back a t h) (λ a t h u. tt) as' rest
    (length (many piece_spelled as' ++ rest))
    g
    tt
    o
    (many_long piece_spelled (λ a. omega arith) as' rest)

abbrev closing : List Act × List ℕ → Option (List Act × List ℕ)
closing a = and_then (mark_at 125 a.1) (λ t. Some (a.0, t))

abbrev doing : List Act × List ℕ → Option (Call × List ℕ)
doing a = Some (Do a.0, a.1)

braced_back : (as' : List Act) → AllByRecursion ActFits as' → call_at (braced_spelled as') ≡ Some (Do as', [])
unfolding unspaced word_of behind_word
braced_back as' g = ap (λ (o : Option (List Act × List ℕ)). and_then (and_then o closing) doing) (acts_back as' (codes " }") g refl)

abbrev alone : Act × List ℕ → Option (Call × List ℕ)
alone a = Some (Do (a.0 ∷ []), a.1)

alone_back : (a : Act) → ActFits a → lone_at (act_spelled a) ≡ Some (Do (a ∷ []), [])
alone_back a g = ap (λ (o : Option (Act × List ℕ)). and_then o alone) (ap act_at (sym (append-nil (act_spelled a))) ∙ act_back a [] g end)

lone_back : (a : Act) → ActFits a → call_at (act_spelled a) ≡ Some (Do (a ∷ []), [])
unfolding act_spelled unspaced word_of
lone_back (Make p v n o) g = alone_back (Make p v n o) g
lone_back (Put p v x) g = alone_back (Put p v x) g
lone_back (Drop p x) g = alone_back (Drop p x) g
lone_back (Check p x) g = alone_back (Check p x) g

pub calls_read_back : CallsReadBack
unfolding call_spelled unspaced word_of behind_word
calls_read_back (Do []) g = braced_back [] g
calls_read_back (Do (a ∷ [])) g = lone_back a g.0
calls_read_back (Do (a ∷ b ∷ as')) g = braced_back (a ∷ b ∷ as') g
calls_read_back (Look p) g = ap (λ (xs : List ℕ). call_at (codes "look " ++ xs)) (sym (append-nil (path_spelled p))) ∙ ap (λ o. and_then o (λ q. Some (Look q.0, q.1))) (path_back p [] g refl refl)
calls_read_back (Kids p) g = ap (λ (xs : List ℕ). call_at (codes "kids " ++ xs)) (sym (append-nil (path_spelled p))) ∙ ap (λ o. and_then o (λ q. Some (Kids q.0, q.1))) (path_back p [] g refl refl)
calls_read_back Open g = refl
calls_read_back (End k) g = ap (λ (xs : List ℕ). call_at (codes "end " ++ xs)) (sym (append-nil (decimal k))) ∙ ap (λ o. and_then o (λ q. Some (End q.0, q.1))) (number_back k [] g refl)
