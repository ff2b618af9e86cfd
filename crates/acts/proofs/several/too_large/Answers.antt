use Rattle.std.proofs.Common.{ℕ, ◌+◌, ◌-◌, ltb, length, sym, subst, arith}
use native.Mathlib.Nat.{sub-zero}
use Rattle.std.proofs.lemmas.Bool.{or_left, or_right, or_from, lt-ltb, le-ltb}
use Rattle.model.specs.Tree.{values_in}
use Rattle.calls.specs.Reading.{acts_in}
use Rattle.acts.proofs.Readings.{is_read, read_as, Summed, summed_first, summed_stop, summed_more, summed_over, summed_all, count_is}
use Rattle.acts.proofs.several.too_large.Goals as goal

pub returns-then-acts-gt64 : goal.returns-then-acts-gt64
returns-then-acts-gt64 c =
    let all = acts_in c.args.acts.count c.args.acts.bytes.now in
    sym (or_left (ltb 64 (length all)) (ltb 262144 (values_in all)) (lt-ltb 64 (length all) (omega (arith, count_is c.args.acts.count c.args.acts.bytes.now c.args.acts.whole))))

pub loop-n-init : goal.loop-n-init
loop-n-init c =
    let count = c.args.acts.count in
    subst (λ (k : ℕ). Summed (acts_in count c.args.acts.bytes.now) k c.args.acts.bytes.now 0) (sym (sub-zero count)) (summed_first count c.args.acts.bytes.now c.args.acts.whole)

pub unwrap-requires : goal.unwrap-requires
unwrap-requires c = is_read c.read_act.result _ c.read_act.ensures (summed_stop _ _ (c.args.acts.count - (c.loop-n.n + 1)) _ _ c.loop-n.invariant (omega arith))

pub returns-then-sum-gt262144 : goal.returns-then-sum-gt262144
returns-then-sum-gt262144 c =
    let all = acts_in c.args.acts.count c.args.acts.bytes.now in
    let over = summed_over all _ (c.args.acts.count - (c.loop-n.n + 1)) _ _ c.loop-n.invariant (omega arith) _ _ (read_as c.read_act.result c.unwrap.result _ c.read_act.ensures c.unwrap.ensures) (omega (arith, c.value_len-sum.ensures)) in
    sym (or_right (ltb 64 (length all)) (ltb 262144 (values_in all)) (lt-ltb 262144 (values_in all) over))

pub loop-n-preserved : goal.loop-n-preserved
loop-n-preserved c =
    let count = c.args.acts.count in
    let all = acts_in count c.args.acts.bytes.now in
    let n = c.loop-n.n in
    let sum = c.loop-n.sum in
    subst (λ (k : ℕ). Summed all (count - (n + 1)) c.unwrap.result.1.now (sum + k)) (sym c.value_len-sum.ensures)
    (summed_more all _ (count - (n + 1)) _ sum c.loop-n.invariant (omega arith) _ _ (read_as c.read_act.result c.unwrap.result _ c.read_act.ensures c.unwrap.ensures) (omega (arith, c.value_len-sum.ensures)))

pub returns : goal.returns
returns c =
    let all = acts_in c.args.acts.count c.args.acts.bytes.now in
    let few = summed_all all _ _ (c.args.acts.count - c.loop-n.n) (omega arith) c.loop-n.invariant in
    sym (or_from (ltb 64 (length all)) (ltb 262144 (values_in all)) (le-ltb 64 (length all) (omega (arith, count_is c.args.acts.count c.args.acts.bytes.now c.args.acts.whole))) (le-ltb 262144 (values_in all) few))
