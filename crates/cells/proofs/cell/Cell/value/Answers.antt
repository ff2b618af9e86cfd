use Rattle.std.proofs.Common.{◌+◌, drop, ap, ◌∙◌}
use Rattle.std.proofs.lemmas.List.{take_rest}
use Rattle.cells.specs.Layout.{entry_of}
use Rattle.cells.proofs.cell.Cell.value.Goals as goal

pub returns-clause-value : goal.returns-clause-value
unfolding entry_of
returns-clause-value c = take_rest c.args.self.bytes.now (48 + c.read_u32-path.result) ∙ ap (λ n. drop (48 + n) c.args.self.bytes.now) c.read_u32-path.ensures
