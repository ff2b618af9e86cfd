-- What was kept so far, and what is kept of the rest, is what is kept of all.
use Rattle.std.proofs.Common.{◌≡◌, ◌++◌, vec_items}
use Rattle.std.specs.Vec.Iter.{into_iter_items}
use Rattle.model.specs.Tree.{keep}
use Rattle.script.specs.Network.{is_on, is_off}
use Rattle.script.proofs.network.part.Given as goal

abbrev pub invariant-loop-letter : goal.invariant-loop-letter
invariant-loop-letter l =
    (keep (is_on l.link) (into_iter_items l.initial.letter-iterator) ≡ vec_items l.taken ++ keep (is_on l.link) (into_iter_items l.letter-iterator))
    × (keep (is_off l.link) (into_iter_items l.initial.letter-iterator) ≡ vec_items l.left ++ keep (is_off l.link) (into_iter_items l.letter-iterator))
