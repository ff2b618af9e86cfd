use Rattle.std.proofs.Common.{sym, ap, ◌∙◌, subst, rules}
use Rattle.std.proofs.lemmas.List.{places}
use Rattle.cells.specs.Layout.{Formed, entry_of}
use Rattle.cells.proofs.Cells.{get_or_cut, entry_at, good_at}
use Rattle.cells.proofs.held.Tree.cell.Goals as goal

pub invariant_of-result : goal.invariant_of-result
invariant_of-result c = record { formed = subst Formed (get_or_cut c.args.self.bytes.now c.args.self.places.now c.args.i c.requires) (good_at _ _ _ c.requires c.args.self.holds) }

pub returns : goal.returns
returns c =
    let is = get_or_cut c.args.self.bytes.now c.args.self.places.now c.args.i c.requires in
    record {
      cell = sym is;
      len = search (rules, places);
      entry = λ d. entry_at _ _ _ c.requires d ∙ ap entry_of is;
    }
