-- What is written is what the items before the index are written as.
use Rattle.std.proofs.Common.{◌≡◌, ◌++◌, take, vec_items}
use Rattle.std.specs.List.{flat_map}
use Rattle.encoding.proofs.encode.encode_all.Given as goal

abbrev pub invariant-loop-item : goal.invariant-loop-item
invariant-loop-item g l = vec_items l.out ≡ vec_items l.initial.out ++ flat_map g.T.Encode.written (take l.item-index l.items)
