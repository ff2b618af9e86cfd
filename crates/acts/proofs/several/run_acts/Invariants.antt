use Rattle.std.proofs.Common.{◌≡◌, None}
use Rattle.calls.specs.Reading.{acts_in}
use Rattle.cells.specs.Layout.{state_of}
use Rattle.acts.specs.Several.{standing, StandsIn}
use Rattle.acts.proofs.Runs.{Acting}
use Rattle.acts.proofs.several.run_acts.Given as goal

abbrev pub invariant-acts : goal.invariant-acts
invariant-acts l =
    (l.refused ≡ None)
    × Acting l.current.room (acts_in l.acts.count l.acts.bytes.now) (state_of l.current.tree.bytes.now l.current.tree.places.now) l.acts.count l.n l.rest
    (standing l.stands l.current.tree.bytes.now l.current.tree.places.now l.left l.lefts l.right l.rights)
    × StandsIn l.stands l.current.tree.bytes.now l.current.tree.places.now l.left l.lefts l.right l.rights
