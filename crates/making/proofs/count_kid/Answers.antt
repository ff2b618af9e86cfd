use Rattle.std.proofs.Common.{ℕ, [], length, get_or, sym, ap, ◌∙◌, arith}
use Rattle.model.specs.Tree.{Entry}
use Rattle.cells.specs.declared.cell.Head.{Head}
use Rattle.cells.specs.Layout.{entry_of, entries_of, prelude_of, prelude_with}
use Rattle.cells.specs.Drafts.{replaced}
use Rattle.cells.proofs.Cells.{length_entries}
use Rattle.cells.proofs.Counts.{counts_at}
use Rattle.drafts.proofs.Grows.{next, next_as}
use Rattle.making.specs.Making.{kid_made}
use Rattle.tree.proofs.Weighs.{head_value}
use Rattle.making.proofs.Makes.{kid_entry, length_replaced}
use Rattle.making.proofs.count_kid.Goals as goal

pub overflow_add-head : goal.overflow_add-head
overflow_add-head c =
    let cell = c.cell-cell.result.bytes.now in
    let es = entries_of c.args.tree.bytes.now c.args.tree.places.now in
    let low = counts_at cell _ c.head-old.ensures 18446744073709551614 es c.args.i (omega (arith, length_entries c.args.tree.bytes.now c.args.tree.places.now)) (c.cell-cell.ensures.entry (entry_of cell)) c.requires.counts in
    record { fits = omega (arith, low.1) }

pub replace-requires : goal.replace-requires
replace-requires c =
    let begun = c.start-begun.ensures.begun in
    let names = ap (λ (h : Head). h.path_len) c.head-old.ensures ∙ sym c.path.ensures.len in
    let value = head_value _ _ c.head-old.ensures c.cell-cell.result.formed ∙ sym (ap length c.value.ensures.value) in
    let lens = ap (λ (h : Head). h.value_len) c.head-old.ensures in
    record {
      within = c.requires.within;
      names = names;
      bytes = value;
      few = omega (arith, value, lens, c.cell-cell.result.formed.short);
      ok = c.path.ensures.ok;
      drafts = begun.drafts;
      first = c.start-begun.ensures.used;
      none = begun.count;
      room = omega (arith, c.cell-cell.result.formed.long, c.cell-cell.ensures.len, c.path.ensures.len);
      small = omega arith;
      more = omega arith;
    }

pub returns : goal.returns
returns c =
    let mem = c.args.tree.bytes.now in
    let ps = c.args.tree.places.now in
    let es = entries_of mem ps in
    let i = c.args.i in
    let cell = c.cell-cell.result.bytes.now in
    let grown = c.replace.ensures.grown in
    let many = length_entries mem ps in
    let value = head_value _ _ c.head-old.ensures c.cell-cell.result.formed ∙ sym (ap length c.value.ensures.value) in
    let lens = ap (λ (h : Head). h.value_len) c.head-old.ensures in
    let entry = kid_entry cell c.path.result.names.now c.value.result.now c.head-old.result c.head-old.ensures c.path.ensures.value c.value.ensures.value
    ∙ ap kid_made (sym (c.cell-cell.ensures.entry (entry_of []))) in
    record {
      next = next_as _ _ (ap (λ (e : Entry). replaced i e es) entry) (next (ap (λ (t : ℕ). prelude_with c.args.changes.0 t (prelude_of mem ps)) c.top.ensures) c.start-begun.ensures.begun grown);
      used = omega (arith, c.replace.ensures.used, c.cell-cell.result.formed.long, c.cell-cell.ensures.len, c.path.ensures.len);
      count = omega (arith, ap (λ (e : Entry). length (replaced i e es)) entry, length_replaced i (kid_made (get_or es i (entry_of []))) es (omega arith));
    }
