-- Which houses are up and frail after a line was played. Assumes nothing.
use Rattle.std.specs.Prelude.{ℕ, List, Some, None, Ok, Err, Option, Result}
use Rattle.script.specs.declared.houses.Houses.{Houses}
use Rattle.script.specs.declared.houses.Forbidden.{Forbidden}
use Rattle.script.specs.declared.incarnations.Unfit.{Unfit}
use Rattle.script.specs.declared.lines.Command.{Command}
use Rattle.script.specs.declared.lines.Command.TheVariants as line
use Rattle.script.specs.Houses.{begun, fell, woke}
use Rattle.script.specs.Incarnations.{chosen}

-- what is forbidden changes nothing
abbrev pub or_as : Houses → Result Houses Forbidden → Houses
or_as h (Ok next) = next
or_as h (Err why) = h

abbrev pub woke_by : Houses → ℕ → Result ℕ Unfit → Houses
woke_by h i (Ok n) = or_as h (woke h i)
woke_by h i (Err why) = h

-- once it is said how many there are: only falling and waking change them
abbrev pub after : Houses → (drawn : List ℕ) → Command → Houses
after h ds line.Nothing = h
after h ds (line.Houses count room) = h
after h ds (line.At i call) = h
after h ds (line.Beat which) = h
after h ds (line.Pass link) = h
after h ds (line.Lose link) = h
after h ds (line.Twice link) = h
after h ds (line.Fall i) = or_as h (fell h i)
after h ds (line.Wake i named) = woke_by h i (chosen ds named)
after h ds (line.Run seed steps) = h

-- before: there are none until it is said how many
abbrev pub first : Command → Option Houses
first line.Nothing = None
first (line.Houses count room) = Some (begun count)
first (line.At i call) = None
first (line.Beat which) = None
first (line.Pass link) = None
first (line.Lose link) = None
first (line.Twice link) = None
first (line.Fall i) = None
first (line.Wake i named) = None
first (line.Run seed steps) = None

abbrev pub played : Option Houses → (drawn : List ℕ) → Command → Option Houses
played None ds c = first c
played (Some h) ds c = Some (after h ds c)
