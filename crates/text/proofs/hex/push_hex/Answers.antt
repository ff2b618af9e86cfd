-- Each turn writes the two digits of one byte.
use Rattle.std.proofs.Common.{vec_items, sym}
use Rattle.std.proofs.lemmas.List.{append-nil}
use Rattle.text.specs.Hex.{hex_of}
use Rattle.text.proofs.HexSteps.{hex_of_more}
use Rattle.text.proofs.hex.push_hex.Goals as goal

pub loop-b-init : goal.loop-b-init
unfolding hex_of
loop-b-init c = sym (append-nil _)

pub loop-b-preserved : goal.loop-b-preserved
loop-b-preserved c =
    let items = c.in_ok-extend_from_slice.ensures.items in
    let more = hex_of_more (vec_items c.args.out.now) c.args.bytes.now c.loop-b.b-index c.loop-b-test.true in
    cc (items, more, c.loop-b.invariant, c.hex_digit.ensures, c.hex_digit-in-loop-b.ensures)
