-- A call that is not answered at once is in range, so it is short: its path has at most 1,040 bytes, and its value 65,536. Assumes nothing.
use Rattle.std.proofs.Common.{◌≡◌, ℕ, ◌≤◌, Bool, true, false, cond, not, ◌||◌, List, [], ◌∷◌, ◌++◌, length, Some, None, Option, refl, ap, arith, length-append}
use Rattle.std.proofs.lemmas.Bool.{not-true, not-false, or_parts, and_parts, leb-true}
use Rattle.model.specs.Tree.{Path, Expect, Any, Version, Act, Make, Put, Drop, Check, Call, Do, Look, Kids, Open, End, Reply, No, core, one, none, path_ok, value_ok}
use Rattle.lent_bytes.specs.Paths.{path_bytes}
use Rattle.lent_bytes.proofs.PathBytes.{path_long}
use Rattle.lent_bytes.proofs.Rounds.{length_be4, length_be8}
use Rattle.lent_bytes.specs.Numbers.{be4, be8}
use Rattle.calls.specs.Format.{encode_call, decode_call, act_written, many_written, path_written, value_written, expect_written, flag_written}
use Rattle.calls.specs.Screening.{NotBuilt, LetIn, decoded, front_not_built}
use Rattle.calls.proofs.WrittenAgain.{calls_back}
use Rattle.service.specs.Service.{at_once, in_range, act_in_range}
use Rattle.memory.specs.Range.{WaitingIsShort}

none_in_range : (b : Bool) (r : Reply) → cond b None (Some r) ≡ None → b ≡ true
none_in_range true r e = refl
none_in_range false r e = absurd (let z : ◌≡◌ {A = ℕ} 0 1 = cc in omega arith)

in_core : (c : Call) (b : Bool) → core c ≡ b → at_once (cond b (LetIn c) NotBuilt) ≡ None → (core c ≡ true) × (in_range c ≡ true)
in_core c true e h = (e, none_in_range (in_range c) (No 0 1) h)
in_core c false e h = absurd (let z : ◌≡◌ {A = ℕ} 0 1 = cc in omega arith)

let_in : (b : Bool) (o : Option Call) → at_once (cond b NotBuilt (decoded o)) ≡ None → (c : Call) × (o ≡ Some c) × (core c ≡ true) × (in_range c ≡ true)
let_in true o e = absurd (let z : ◌≡◌ {A = ℕ} 0 1 = cc in omega arith)
let_in false None e = absurd (let z : ◌≡◌ {A = ℕ} 0 1 = cc in omega arith)
let_in false (Some c) e = let p = in_core c (core c) refl e in (c, refl, p.0, p.1)

value_short : (v : List ℕ) → value_ok v ≡ true → length v ≤ 65536
value_short v h = leb-true (length v) 65536 (and_parts _ _ h).0

written_path : (p : Path) → path_ok p ≡ true → length (path_written p) ≤ 1041
written_path p h = omega (arith, path_long p h)

written_value : (v : List ℕ) → value_ok v ≡ true → length (value_written v) ≤ 65540
written_value v h = omega (arith, length-append (be4 (length v)) v, length_be4 (length v), value_short v h)

written_expect : (x : Expect) → length (expect_written x) ≤ 9
written_expect Any = omega arith
written_expect (Version n) = omega (arith, length_be8 n)

act_short : (a : Act) → act_in_range a ≡ true → length (act_written a) ≤ 66600
unfolding act_written
act_short (Make p v n o) h =
    let r = or_parts (not (path_ok p)) (not (value_ok v)) (or_parts _ _ (not-true _ h)).0 in
    let a = written_path p (not-false _ r.0) in
    let b = written_value v (not-false _ r.1) in
    omega (arith, length-append (path_written p) (value_written v ++ (flag_written n ∷ be8 o)), length-append (value_written v) (flag_written n ∷ be8 o), length_be8 o)
act_short (Put p v x) h =
    let r = or_parts (not (path_ok p)) (not (value_ok v)) (not-true _ h) in
    let a = written_path p (not-false _ r.0) in
    let b = written_value v (not-false _ r.1) in
    omega (arith, length-append (path_written p) (value_written v ++ expect_written x), length-append (value_written v) (expect_written x), written_expect x)
act_short (Drop p x) h = omega (arith, written_path p (not-false _ (not-true _ h)), length-append (path_written p) (expect_written x), written_expect x)
act_short (Check p x) h = omega (arith, written_path p (not-false _ (not-true _ h)), length-append (path_written p) (expect_written x), written_expect x)

kids_short : (p : Path) (b : Bool) → path_ok p ≡ b → (none p || b) ≡ true → length (path_written p) ≤ 1041
unfolding path_bytes none
kids_short p true e h = written_path p e
kids_short [] false e h = omega arith
kids_short (n ∷ ns) false e h = absurd (let z : ◌≡◌ {A = ℕ} 0 1 = cc in omega arith)

call_short : (c : Call) → core c ≡ true → in_range c ≡ true → length (encode_call c) ≤ 66606
unfolding encode_call many_written core one
call_short (Do []) k h = absurd (let z : ◌≡◌ {A = ℕ} 0 1 = cc in omega arith)
call_short (Do (a ∷ [])) k h = omega (arith, act_short a h, length-append (act_written a) [])
call_short (Do (a ∷ b ∷ as')) k h = absurd (let z : ◌≡◌ {A = ℕ} 0 1 = cc in omega arith)
call_short (Look p) k h = omega (arith, written_path p h)
call_short (Kids p) k h = omega (arith, kids_short p (path_ok p) refl h)
call_short Open k h = omega arith
call_short (End s) k h = omega (arith, length_be8 s)

pub waiting_short : WaitingIsShort
waiting_short call bytes e =
    let l = let_in (front_not_built call) (decode_call call) e in
    let short = call_short l.0 l.2 l.3 in
    omega (arith, ap length (calls_back call l.0 bytes l.1))
