use Rattle.std.proofs.Common.{◌+◌, ◌≤◌, length, arith, rules}
use Rattle.memory.proofs.Sides.{tree_long, taken}
use Rattle.memory.proofs.trees.take_tree.Goals as goal

pub append_bytes-used-requires : goal.append_bytes-used-requires
append_bytes-used-requires c =
    let fits : 0 + length c.args.body.now ≤ length c.args.next.now.bytes.now = omega (arith, tree_long c.args.room c.args.body.now c.in_ok-count.ensures.3, c.requires.bytes) in fits

pub returns : goal.returns
returns c =
    record {
      taken = taken c.args.room c.args.body.now c.append_bytes-used.new.out c.accept.new.places (record { used = c.append_bytes-used.result; count = c.in_ok-count.count }) c.in_ok-count.ensures.3
          (omega (arith, tree_long c.args.room c.args.body.now c.in_ok-count.ensures.3, c.requires.bytes, c.append_bytes-used.ensures.end, c.append_bytes-used.ensures.added.long))
          c.in_ok-count.ensures.1 c.append_bytes-used.ensures.added.front c.in_ok-count.ensures.2;
      bytes = c.append_bytes-used.ensures.added.long;
      places = search rules;
    }
