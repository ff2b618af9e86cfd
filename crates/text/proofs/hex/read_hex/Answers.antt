-- Each way out, and each turn, is one step of the definition.
use Rattle.std.proofs.Common.{◌≡◌, ◌*◌, ◌-◌, ℕ, drop, length, Ok, Err, vec_items, sym, ap, ◌∙◌, arith}
use Rattle.std.proofs.lemmas.Bool.Decides.{nat_tests}
use Rattle.std.proofs.lemmas.List.{append-nil, length-drop}
use Rattle.std.proofs.lemmas.Result.{err_from_is_err_and}
use Rattle.text.specs.declared.hex.HexFault.TheVariants.{Odd}
use Rattle.text.specs.Hex.{unhex, bytes_before}
use Rattle.text.proofs.HexSteps.{pair_next, pair_fault, unhexed_fault, unhex_end, unhex_lone}
use Rattle.text.proofs.hex.read_hex.Goals as goal

pub returns-in_err-read_byte : goal.returns-in_err-read_byte
returns-in_err-read_byte c =
    let p = err_from_is_err_and c.from_residual.result c.from_residual.ensures.1 in
    rw (p.1, p.2)
    (unhexed_fault c.in_err-read_byte.field-0.0 (unhex c.args.text.now)
    (c.loop-i.invariant
    ∙ pair_fault c.args.text.now c.as_chunks.result.0.now c.as_chunks.ensures.front c.as_chunks.ensures.front_len c.loop-i.i c.loop-i-test.true (vec_items c.loop-i.out) c.in_err-read_byte.field-0.0
    (sym c.in_err-read_byte.was ∙ c.read_byte.ensures)))

pub loop-i-preserved : goal.loop-i-preserved
loop-i-preserved c =
    pair_next c.args.text.now c.as_chunks.result.0.now c.as_chunks.ensures.front c.as_chunks.ensures.front_len c.loop-i.i c.loop-i-test.true (unhex c.args.text.now) (vec_items c.loop-i.out) (vec_items c.push.new.self) c.in_ok-read_byte.field-0
    c.loop-i.invariant
    (sym c.in_ok-read_byte.was ∙ c.read_byte.ensures)
    c.in_ok-push.ensures.items

pub returns-then-is_empty : goal.returns-then-is_empty
returns-then-is_empty c =
    let over : length c.as_chunks.result.1.now ≡ 0 = grind (arith, nat_tests) in
    let none : length (drop (2 * c.loop-i.i) c.args.text.now) ≡ 0 = omega (arith, over, c.as_chunks.ensures.front_len, c.as_chunks.ensures.back_len, length-drop (2 * c.loop-i.i) c.args.text.now) in
    c.loop-i.invariant ∙ (ap (bytes_before (vec_items c.loop-i.out)) (unhex_end (2 * c.loop-i.i) _ none) ∙ ap Ok (append-nil (vec_items c.loop-i.out)))

pub returns-else-is_empty : goal.returns-else-is_empty
returns-else-is_empty c =
    let over : length c.as_chunks.result.1.now ≡ 1 = grind (arith, nat_tests) in
    let one : length (drop (2 * c.loop-i.i) c.args.text.now) ≡ 1 = omega (arith, over, c.as_chunks.ensures.front_len, c.as_chunks.ensures.back_len, length-drop (2 * c.loop-i.i) c.args.text.now) in
    c.loop-i.invariant
    ∙ (ap (bytes_before (vec_items c.loop-i.out)) (unhex_lone (2 * c.loop-i.i) _ one) ∙ ap (λ (n : ℕ). Err (Odd n)) (let e : 2 * c.loop-i.i ≡ length c.args.text.now - 1 = omega (arith, over, c.as_chunks.ensures.front_len, c.as_chunks.ensures.back_len) in e))
