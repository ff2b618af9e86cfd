use Rattle.std.proofs.Common.{rules}
use Rattle.cells.specs.Walks.{sessions_left}
use Rattle.cells.proofs.prelude.Prelude.sessions.Goals as goal

pub returns : goal.returns
unfolding sessions_left
returns c = search rules
