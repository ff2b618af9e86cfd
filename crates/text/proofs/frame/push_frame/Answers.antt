-- What the three writes leave, one behind the other.
use Rattle.std.proofs.Common.{ℕ, ◌+◌, List, ◌++◌, length, vec_items, ap, ◌∙◌, arith}
use Rattle.lent_bytes.specs.Numbers.{be4, be8}
use Rattle.text.proofs.Appends.{three_parts}
use Rattle.text.proofs.frame.push_frame.Goals as goal

pub returns : goal.returns
unfolding be4 be8
returns c = (
  omega (arith, c.if-call-gt4294967287.false),
  three_parts (vec_items c.args.out.now) c.to_be_bytes.result c.to_be_bytes-2.result c.args.call.now c.in_ok-extend_from_slice.ensures.items
      c.in_ok-extend_from_slice-2.ensures.items
      c.in_ok-extend_from_slice-3.ensures.items
      ∙ (ap (λ (a : List ℕ). vec_items c.args.out.now ++ (a ++ (c.to_be_bytes-2.result ++ c.args.call.now))) c.to_be_bytes.ensures
      ∙ ap (λ (b : List ℕ). vec_items c.args.out.now ++ (be4 (8 + length c.args.call.now) ++ (b ++ c.args.call.now)))
      c.to_be_bytes-2.ensures),
)
