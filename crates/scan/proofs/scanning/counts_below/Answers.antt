use Rattle.std.proofs.Common.{ℕ, sym, ◌∙◌, arith, rules}
use Rattle.std.proofs.lemmas.Iterator.Consumers.{YieldsList-from_first}
use Rattle.std.proofs.lemmas.Iterator.Search.{all_from_yields_List}
use Rattle.lent_bytes.proofs.Walks.{refused}
use Rattle.cells.specs.Layout.{cut}
use Rattle.cells.specs.Walks.{bytes_of, cells_left}
use Rattle.scan.proofs.Bounds.{is_below, all_below, below_all}
use Rattle.scan.proofs.scanning.counts_below.Goals as goal

pub returns : goal.returns
returns c =
    let cells = cut c.args.tree.bytes.now c.args.tree.places.now in
    let is = all_from_yields_List (is_below c.args.limit) _ _ _ c.all.ensures.ran (YieldsList-from_first bytes_of cells_left cells c.cells.ensures) (λ x b q k. search rules) in (
      λ e. record { top = omega (arith, c.if-top-limit.false, c.top.ensures); entries = all_below c.args.limit cells (sym is ∙ e) },
      λ b. is ∙ below_all c.args.limit cells b.entries,
    )
