-- Those before the index that are on the link are copied.
use Rattle.std.proofs.Common.{take, vec_items}
use Rattle.model.specs.Tree.{keep}
use Rattle.script.specs.Network.{is_on, Same}
use Rattle.script.proofs.network.copies.Given as goal

abbrev pub invariant-loop-letter : goal.invariant-loop-letter
invariant-loop-letter l = Same (vec_items l.taken) (keep (is_on l.link) (take l.letter-index l.letters))
