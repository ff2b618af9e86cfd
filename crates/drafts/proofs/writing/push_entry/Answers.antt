use Rattle.std.proofs.Common.{arith, rules}
use Rattle.cells.specs.Layout.{FitHead}
use Rattle.drafts.proofs.Grows.{grown_made}
use Rattle.drafts.proofs.writing.push_entry.Goals as goal

pub returns : goal.returns
returns c =
    let fit : FitHead c.args.h = search rules in
    grown_made _ _ _ _ _ _ _ _ c.requires.drafts fit c.requires.names c.requires.bytes c.requires.few c.args.path.spells c.requires.ok c.append_cell-used.ensures.added c.requires.more (omega arith)
