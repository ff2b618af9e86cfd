use Rattle.std.proofs.Common.{refl}
use Rattle.model.specs.Tree.{some, every, keep, find, change, none, same_name, same_path, above, last_name, meets, digits, renamed, kids_of, owner_of, unless, version_of, acts, weight_of, stepped, goes, all_of, closed, told, values_in, does}
use Rattle.model.specs.Cases.{answers, expected}
use Rattle.model.proofs.worked_cases.Goals as goal

pub returns : goal.returns
unfolding some every keep find change none same_name same_path above last_name meets digits renamed kids_of owner_of unless version_of acts weight_of stepped goes all_of closed told values_in does answers expected
returns c = refl
