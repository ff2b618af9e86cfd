use Rattle.std.proofs.Common.{◌≡◌, Err, ℕ, ◌+◌, ◌-◌, ◌<◌, List, [], length, sym, refl, ap, ◌∙◌, arith, rules}
use Rattle.std.proofs.ByRecursion.{All-from_get_or}
use Rattle.std.proofs.lemmas.Bool.{not-true, not-false}
use Rattle.model.specs.Tree.{Entry, State, Good, put_in, weight, with_entries}
use Rattle.cells.specs.declared.cell.Head.{Head}
use Rattle.cells.specs.Layout.{entry_of, entries_of, state_of}
use Rattle.cells.specs.Drafts.{replaced}
use Rattle.cells.proofs.Counts.{counts_at}
use Rattle.drafts.proofs.Grows.{next, next_as}
use Rattle.tree.specs.Steps.{overweight}
use Rattle.tree.proofs.Weighs.{space, head_value, weight_replaced, weight_at, within_room, refuse, heavy, done}
use Rattle.changing.proofs.Doings.{value_ok_lem, put_long, put_is, put_entries, put_entry}
use Rattle.drafts.proofs.Written.{written}
use Rattle.changing.proofs.acts.put.Goals as goal

pub returns-then-value-gt65536 : goal.returns-then-value-gt65536
returns-then-value-gt65536 c =
    let s = state_of c.args.base.tree.bytes.now c.args.base.tree.places.now in
    record { step = refuse c.args.base.changes.0 c.args.base.room s _ 1 (put_long _ _ s c.args.value.now c.if-value-gt65536.true); drafts = tt }

pub returns-in_err-i-clause-step : goal.returns-in_err-i-clause-step
returns-in_err-i-clause-step c =
    let s = state_of c.args.base.tree.bytes.now c.args.base.tree.places.now in
    let v = c.args.value.now in
    let ok = value_ok_lem v c.if-value-gt65536.false (All-from_get_or (λ b. b < 256) v 0 (λ i l. (c.type_inv.value i).fits)) in
    let is : c.from_residual.result ≡ Err c.in_err-i.field-0.0 = grind arith in
    rw is (refuse c.args.base.changes.0 c.args.base.room s _ _ (put_is _ _ s v ok ∙ c.in_err-i.ensures.sought _))

pub has_room-requires : goal.has_room-requires
has_room-requires c =
    let room = space c.args.base.tree.bytes.now c.args.base.tree.places.now c.args.base.tree.holds c.args.base.ready.few in
    let cell = c.cell-cell.result.bytes.now in
    let es = entries_of c.args.base.tree.bytes.now c.args.base.tree.places.now in
    let at = weight_at es c.in_ok-i.i (entry_of cell) c.in_ok-i.ensures.sought.1.within (c.cell-cell.ensures.entry (entry_of cell)) in
    let long = head_value cell _ c.head-old.ensures c.cell-cell.result.formed in
    record { small = omega arith; fits = c.args.base.ready.weighs; room = omega arith; few = omega arith; less = omega arith }

pub returns-then-not-has_room : goal.returns-then-not-has_room
returns-then-not-has_room c =
    let s = state_of c.args.base.tree.bytes.now c.args.base.tree.places.now in
    let v = c.args.value.now in
    let x = entry_of c.cell-cell.result.bytes.now in
    let i = c.in_ok-i.i in
    let first = c.in_ok-i.ensures.sought.1 in
    let is = c.cell-cell.ensures.entry x in
    let ok = value_ok_lem v c.if-value-gt65536.false (All-from_get_or (λ b. b < 256) v 0 (λ i l. (c.type_inv.value i).fits)) in
    let t : State = with_entries (replaced i (put_in v (s.changes + 1) x) s.entries) s in
    let weighs = weight_replaced s.entries i x first.within is (put_in v (s.changes + 1) x) in
    let long = head_value _ _ c.head-old.ensures c.cell-cell.result.formed in
    let same : weight s + length v - c.head-old.result.value_len ≡ weight t = omega arith in
    record {
      step = heavy c.args.base.changes.0 c.args.base.room s _ [] t (put_is _ _ s v ok ∙ c.in_ok-i.ensures.sought.0 _ ∙ ap (λ (l : List Entry). Good [] (with_entries l s)) (put_entries _ s v i x first is))
          (ap (overweight c.args.base.room (weight s)) (sym same) ∙ not-false _ (sym c.if-not-has_room.ensures));
      drafts = tt;
    }

pub overflow_add-head : goal.overflow_add-head
overflow_add-head c =
    let cell = c.cell-cell.result.bytes.now in
    let es = entries_of c.args.base.tree.bytes.now c.args.base.tree.places.now in
    let low = counts_at cell _ c.head-old.ensures 18446744073709551614 es c.in_ok-i.i c.in_ok-i.ensures.sought.1.within (c.cell-cell.ensures.entry (entry_of cell)) c.args.base.ready.counts.entries in
    record { fits = omega (arith, low.0) }

pub start-begun-requires : goal.start-begun-requires
start-begun-requires c =
    let room = space c.args.base.tree.bytes.now c.args.base.tree.places.now c.args.base.tree.holds c.args.base.ready.few in
    record { room = omega arith; small = omega arith; more = omega arith }

pub replace-requires : goal.replace-requires
replace-requires c =
    let s = state_of c.args.base.tree.bytes.now c.args.base.tree.places.now in
    let v = c.args.value.now in
    let room = space c.args.base.tree.bytes.now c.args.base.tree.places.now c.args.base.tree.holds c.args.base.ready.few in
    let begun = c.start-begun.ensures.begun in
    let names = ap (λ (h : Head). h.path_len) c.head-old.ensures ∙ sym c.path.ensures.len in
    let lens = ap (λ (h : Head). h.value_len) c.head-old.ensures in
    let left = within_room c.args.base.room (weight s) (weight s + length v - c.head-old.result.value_len) (not-true _ (sym c.if-not-has_room.ensures)) in
    record {
      within = c.in_ok-i.ensures.within;
      names = names;
      bytes = refl;
      few = c.if-value-gt65536.false;
      ok = c.path.ensures.ok;
      drafts = begun.drafts;
      first = c.start-begun.ensures.used;
      none = begun.count;
      room = omega (arith, c.cell-cell.result.formed.long, c.cell-cell.ensures.len, c.path.ensures.len);
      small = omega arith;
      more = omega arith;
    }

pub returns : goal.returns
returns c =
    let s = state_of c.args.base.tree.bytes.now c.args.base.tree.places.now in
    let v = c.args.value.now in
    let cell = c.cell-cell.result.bytes.now in
    let x = entry_of cell in
    let i = c.in_ok-i.i in
    let first = c.in_ok-i.ensures.sought.1 in
    let is = c.cell-cell.ensures.entry x in
    let ok = value_ok_lem v c.if-value-gt65536.false (All-from_get_or (λ b. b < 256) v 0 (λ i l. (c.type_inv.value i).fits)) in
    let t : State = with_entries (replaced i (put_in v (s.changes + 1) x) s.entries) s in
    let weighs = weight_replaced s.entries i x first.within is (put_in v (s.changes + 1) x) in
    let long = head_value _ _ c.head-old.ensures c.cell-cell.result.formed in
    let same : weight s + length v - c.head-old.result.value_len ≡ weight t = omega arith in
    let entry = put_entry cell c.path.result.names.now v c.head-old.result (length v) (c.changes.result.0 + 1) c.head-old.ensures c.path.ensures.value
    ∙ ap (λ (n : ℕ). put_in v (n + 1) x) c.changes.ensures in
    let fits : c.args.base.changes.0 < 18446744073709551616 = search rules in
    let written-entries = next_as _ _ (ap (λ (e : Entry). replaced i e s.entries) entry) (next refl c.start-begun.ensures.begun c.replace.ensures.grown) in
    record {
      step = done c.args.base.changes.0 c.args.base.room s _ [] t (put_is _ _ s v ok ∙ c.in_ok-i.ensures.sought.0 _ ∙ ap (λ (l : List Entry). Good [] (with_entries l s)) (put_entries _ s v i x first is)) _
          (ap (overweight c.args.base.room (weight s)) (sym same) ∙ not-true _ (sym c.if-not-has_room.ensures))
          (written c.args.base.changes.0 _ _ _ written-entries fits (omega (arith, c.args.base.ready.counts.top, c.top.ensures)) c.top.ensures);
      drafts = c.replace.ensures.grown.drafts;
    }
