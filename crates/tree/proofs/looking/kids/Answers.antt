use Rattle.std.proofs.Common.{◌≡◌, ◌-◌, ◌≤◌, [], ◌∷◌, Err, List, length, take, sym, ap, ◌∙◌, arith, length-append}
use Rattle.model.specs.Tree.{Name, Reply, Names, kid_names}
use Rattle.lent_bytes.specs.Paths.{path_of}
use Rattle.lent_bytes.proofs.PathBytes.{path_is, spells_is}
use Rattle.cells.specs.Layout.{entry_of, entries_of, state_of}
use Rattle.cells.specs.Walks.{cells_left}
use Rattle.cells.proofs.Cells.{length_entries}
use Rattle.cells.proofs.Walks.{at_turn, at_end, fewer}
use Rattle.tree.proofs.Looks.{kids_is, listing_none, listing_skip, listing_more, listing_all}
use Rattle.tree.proofs.looking.kids.Goals as goal

pub returns-in_err-check_listed-clause-answer : goal.returns-in_err-check_listed-clause-answer
returns-in_err-check_listed-clause-answer c = λ room.
    let s = state_of c.args.tree.bytes.now c.args.tree.places.now in
    let is : c.from_residual.result ≡ Err c.in_err-check_listed.field-0.0 = grind arith in
    rw is (ap (λ (r : Reply). record { reply = r; state = s }) (sym (c.in_err-check_listed.ensures (Names (kid_names (path_of c.args.path.names.now) s)))) ∙ sym (kids_is room _ s))

pub loop-cell-init : goal.loop-cell-init
loop-cell-init c = listing_none _ _ c.args.out.now

pub append_bytes-end-requires : goal.append_bytes-end-requires
append_bytes-end-requires c =
    let t = c.args.tree in
    let turn = at_turn t.bytes.now t.places.now t.holds _ (ap cells_left c.into_iter-cell-iterator.ensures.into_iter_gives ∙ c.cells-cell-items.ensures) c.loop-cell.yielded _ c.loop-cell.yielded_by _ _ c.in-Some.cell c.in-Some.is c.next.ensures.steps in
    omega (arith, turn.within, c.loop-cell.invariant.inside, c.name_in.ensures.few, c.requires)

pub overflow_add-listed : goal.overflow_add-listed
overflow_add-listed c =
    let t = c.args.tree in
    let turn = at_turn t.bytes.now t.places.now t.holds _ (ap cells_left c.into_iter-cell-iterator.ensures.into_iter_gives ∙ c.cells-cell-items.ensures) c.loop-cell.yielded _ c.loop-cell.yielded_by _ _ c.in-Some.cell c.in-Some.is c.next.ensures.steps in
    record { fits = omega (arith, turn.within, c.loop-cell.invariant.few) }

pub loop-cell-preserved-then-is_kid : goal.loop-cell-preserved-then-is_kid
loop-cell-preserved-then-is_kid c =
    let t = c.args.tree in
    let x = c.in-Some.cell in
    let turn = at_turn t.bytes.now t.places.now t.holds _ (ap cells_left c.into_iter-cell-iterator.ensures.into_iter_gives ∙ c.cells-cell-items.ensures) c.loop-cell.yielded _ c.loop-cell.yielded_by _ _ x c.in-Some.is c.next.ensures.steps in
    rw (length-append c.loop-cell.yielded (x ∷ []))
    (listing_more (path_of c.args.path.names.now) (entries_of t.bytes.now t.places.now) (length c.loop-cell.yielded) (entry_of x.bytes.now) (omega (arith, turn.within, length_entries t.bytes.now t.places.now)) (turn.entry (entry_of x.bytes.now)) _ _ c.loop-cell.invariant (sym c.if-is_kid.ensures)
    _ _ _ c.name_in.ensures.value c.name_in.ensures.few c.append_bytes-end.ensures.added)

pub loop-cell-preserved : goal.loop-cell-preserved
loop-cell-preserved c =
    let t = c.args.tree in
    let x = c.in-Some.cell in
    let turn = at_turn t.bytes.now t.places.now t.holds _ (ap cells_left c.into_iter-cell-iterator.ensures.into_iter_gives ∙ c.cells-cell-items.ensures) c.loop-cell.yielded _ c.loop-cell.yielded_by _ _ x c.in-Some.is c.next.ensures.steps in
    rw (length-append c.loop-cell.yielded (x ∷ []))
    (listing_skip (path_of c.args.path.names.now) (entries_of t.bytes.now t.places.now) (length c.loop-cell.yielded) (entry_of x.bytes.now) (omega (arith, turn.within, length_entries t.bytes.now t.places.now)) (turn.entry (entry_of x.bytes.now)) _ _ c.loop-cell.invariant (sym c.if-is_kid.ensures))

pub returns : goal.returns
returns c =
    let t = c.args.tree in
    let s = state_of t.bytes.now t.places.now in
    let p = path_of c.args.path.names.now in
    let n = length c.loop-cell.yielded in
    let end = at_end t.bytes.now t.places.now t.holds _ (ap cells_left c.into_iter-cell-iterator.ensures.into_iter_gives ∙ c.cells-cell-items.ensures) c.loop-cell.yielded _ c.loop-cell.yielded_by _ _ c.in-None.is c.next.ensures.steps in
    let so_far = fewer t.bytes.now t.places.now t.holds _ (ap cells_left c.into_iter-cell-iterator.ensures.into_iter_gives ∙ c.cells-cell-items.ensures) c.loop-cell.yielded _ c.loop-cell.yielded_by _ _ c.in-None.is c.next.ensures.steps in
    let front = take c.loop-cell.listed.end c.loop-cell.out in
    let all = listing_all p s.entries n end in
    let written = c.loop-cell.invariant.names in
    let is : path_of front ≡ kid_names p s = path_is front _ written ∙ all in
    record {
      answer = λ room. ap (λ (ns : List Name). record { reply = Names ns; state = s }) is ∙ ap (λ (r : Reply). record { reply = r; state = s }) (sym (c.in_ok-check_listed.ensures (Names (kid_names p s)))) ∙ sym (kids_is room p s);
      spells = spells_is front _ written;
      count = c.loop-cell.invariant.count ∙ ap length all ∙ sym (ap length is);
      inside = omega (arith, c.loop-cell.invariant.inside, c.requires, so_far);
      few = omega (arith, c.loop-cell.invariant.few, so_far, t.holds.some);
    }
