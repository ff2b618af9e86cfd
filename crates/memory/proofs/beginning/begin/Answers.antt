use Rattle.std.proofs.Common.{◌≡◌, true, length, refl, arith, rules}
use Rattle.memory.specs.Keeps.{Lent}
use Rattle.memory.proofs.Sides.{suits_long}
use Rattle.memory.proofs.Waits.{ring_none, queue_none}
use Rattle.memory.proofs.Firsts.{blank_stands, empty_slots}
use Rattle.memory.proofs.beginning.begin.Goals as goal

pub returns : goal.returns
returns c =
    let m = c.args.memory.now in
    let t : c.suits.result ≡ true = search rules in
    let l : Lent c.args.room m = c.suits.ensures.0 t in
    let a : length c.start_blank-size.new.out ≡ length m.left.bytes.now = search rules in
    let b : length c.start_blank-size.new.places ≡ length m.left.places.now = search rules in
    let d : length c.clear.new.ends ≡ length m.ends.now = search rules in
    record {
      room = refl;
      state = c.start_blank-size.ensures.state;
      outcomes = refl;
      waiting = λ room. ring_none _ 0;
      queued = λ room. queue_none room _;
      replied = refl;
      count = refl;
      sound =
          record {
            left = suits_long c.args.room m.left.bytes.now m.left.places.now _ _ l.left a b;
            right = l.right;
            stands = blank_stands c.args.room c.start_blank-size.new.out c.start_blank-size.new.places c.start_blank-size.result c.start_blank-size.ensures.drafts c.start_blank-size.ensures.state;
            slots = empty_slots m.calls.now m.ends.now c.clear.new.ends l.calls d c.clear.ensures;
            first = omega arith;
            count = omega arith;
            answering = l.answering;
            replied = omega arith;
          };
    }
