use Rattle.std.proofs.Common.{sym, ◌∙◌, arith, rules}
use Rattle.std.proofs.lemmas.Iterator.{YieldsList-from_map}
use Rattle.std.proofs.lemmas.Iterator.Consumers.{YieldsList-at, YieldsList-from_first, sum_by_from_yields_List, fits_by_from_yields_list}
use Rattle.cells.specs.Layout.{cut}
use Rattle.cells.specs.Walks.{bytes_of, cells_left}
use Rattle.cells.proofs.Weights.{cell_weight, weight_sum, weighs_few}
use Rattle.cells.proofs.held.Tree.weight.Goals as goal

pub sum-requires-clause-fits : goal.sum-requires-clause-fits
sum-requires-clause-fits c =
    let cells = cut c.args.self.bytes.now c.args.self.places.now in
    fits_by_from_yields_list cell_weight cells c.map.result _
    (YieldsList-from_map _ cell_weight (YieldsList-at c.map.ensures.source (YieldsList-from_first bytes_of cells_left cells c.cells.ensures)) c.map.ensures.closure (λ x r q k. search rules))
    (omega (arith, weight_sum cells, weighs_few _ _ c.args.self.holds, c.requires))

pub returns : goal.returns
returns c =
    let cells = cut c.args.self.bytes.now c.args.self.places.now in
    sum_by_from_yields_List cell_weight cells c.map.result _ c.sum.ensures.ran
    (YieldsList-from_map _ cell_weight (YieldsList-at c.map.ensures.source (YieldsList-from_first bytes_of cells_left cells c.cells.ensures)) c.map.ensures.closure (λ x r q k. search rules))
    ∙ sym (weight_sum cells)
