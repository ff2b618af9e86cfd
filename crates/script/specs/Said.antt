-- What is said of a house that may not fall or wake, and of an incarnation that is not taken.
use Rattle.std.specs.Prelude.{ℕ, List, codes}
use Rattle.script.specs.declared.houses.Forbidden.{Forbidden}
use Rattle.script.specs.declared.houses.Forbidden.TheVariants.{NoHouse, Already, TooMany}
use Rattle.script.specs.declared.incarnations.Unfit.{Unfit}
use Rattle.script.specs.declared.incarnations.Unfit.TheVariants.{NoneLeft, WasThere}

abbrev pub forbidden_said : Forbidden → List ℕ
forbidden_said NoHouse = codes "there is no such house"
forbidden_said Already = codes "it is so already"
forbidden_said TooMany = codes "with it, half of the houses or more would be frail"

abbrev pub unfit_said : Unfit → List ℕ
unfit_said NoneLeft = codes "no incarnation is left"
unfit_said WasThere = codes "this incarnation was there before"
