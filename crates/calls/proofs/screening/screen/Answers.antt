use Rattle.std.proofs.Common.{true, false, sym}
use Rattle.calls.proofs.Screens.{screened_call}
use Rattle.calls.proofs.screening.screen.Goals as goal

pub returns-then-is_core : goal.returns-then-is_core
returns-then-is_core c = sym (screened_call c.args.bytes.now c.in-Some.call true c.if-front_not_built.ensures (sym c.in-Some.ensures) c.if-is_core.ensures)

pub returns-else-is_core : goal.returns-else-is_core
returns-else-is_core c = sym (screened_call c.args.bytes.now c.in-Some.call false c.if-front_not_built.ensures (sym c.in-Some.ensures) c.if-is_core.ensures)
