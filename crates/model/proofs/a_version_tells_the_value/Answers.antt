use Rattle.model.proofs.Histories.{versions_tell}
use Rattle.model.proofs.a_version_tells_the_value.Goals as goal

pub returns : goal.returns
returns c = versions_tell
