use Rattle.std.proofs.Common.{◌≡◌, ℕ, ◌+◌, ◌-◌, [], ◌∷◌, not, eqb, length, get_or, sym, refl, ap, ◌∙◌, arith, length-append}
use Rattle.std.proofs.lemmas.Bool.{eq-eqb, ne_eqb}
use Rattle.model.specs.Tree.{Entry}
use Rattle.cells.proofs.Counts.{head_owner}
use Rattle.cells.specs.Layout.{entry_of, entries_of}
use Rattle.cells.specs.Walks.{cells_left}
use Rattle.cells.proofs.Cells.{length_entries}
use Rattle.cells.proofs.Pushes.{climb, spans}
use Rattle.cells.proofs.Walks.{at_turn, at_end}
use Rattle.drafts.proofs.Grows.{grown_none, grown_then, grown_as}
use Rattle.cells.proofs.Keeps.{keep_none, keep_more, keep_skip, keep_all}
use Rattle.sessions.proofs.ending.push_unowned.Goals as goal

pub loop-cell-init : goal.loop-cell-init
loop-cell-init c =
    let es = entries_of c.args.tree.bytes.now c.args.tree.places.now in
    (grown_as _ _ 0 _ (keep_none (λ (e : Entry). not (eqb c.args.session.0 e.owner)) es) (omega arith) (grown_none _ _ _ c.requires.drafts), omega arith, omega arith)

pub push_cell-next-requires : goal.push_cell-next-requires
push_cell-next-requires c =
    let t = c.args.tree in
    let all = ap cells_left c.into_iter-cell-iterator.ensures.into_iter_gives ∙ c.cells-cell-items.ensures in
    let turn = at_turn t.bytes.now t.places.now t.holds _ all c.loop-cell.yielded _ c.loop-cell.yielded_by _ _ c.in-Some.cell c.in-Some.is c.next.ensures.steps in
    let on = climb _ _ t.holds (length c.loop-cell.yielded + 1) (length t.places.now - 1) (omega (arith, turn.within)) (omega (arith, turn.within)) in
    let end = (spans t.bytes.now t.places.now (length c.loop-cell.yielded) t.holds turn.within).end in
    record {
      drafts = c.loop-cell.invariant.0.drafts;
      room = omega (arith, turn.len, on, end, c.loop-cell.invariant.1, c.requires.room);
      small = omega (arith, turn.len, on, end, c.loop-cell.invariant.1, c.requires.room, c.requires.small);
      more = omega (arith, turn.within, c.loop-cell.invariant.2, c.requires.more);
    }

pub loop-cell-preserved-then-session-head : goal.loop-cell-preserved-then-session-head
loop-cell-preserved-then-session-head c =
    let t = c.args.tree in
    let es = entries_of t.bytes.now t.places.now in
    let n = length c.loop-cell.yielded in
    let x = c.in-Some.cell in
    let turn = at_turn t.bytes.now t.places.now t.holds _ (ap cells_left c.into_iter-cell-iterator.ensures.into_iter_gives ∙ c.cells-cell-items.ensures) c.loop-cell.yielded _ c.loop-cell.yielded_by _ _ x c.in-Some.is c.next.ensures.steps in
    let e = entry_of x.bytes.now in
    let yes = ap not (ne_eqb c.args.session.0 e.owner (λ h. c.if-session-head.true (h ∙ sym (head_owner _ _ c.head.ensures)))) in
    let g = c.push_cell-next.ensures in
    rw (length-append c.loop-cell.yielded (x ∷ []))
    (grown_as _ _ _ _ (keep_more (λ (y : Entry). not (eqb c.args.session.0 y.owner)) es n e (omega (arith, turn.within, length_entries t.bytes.now t.places.now)) (turn.entry e) yes) (omega (arith, g.used, c.loop-cell.invariant.0.used)) (grown_then c.loop-cell.invariant.0 g), omega (arith, g.used, turn.len, c.loop-cell.invariant.1), omega (arith, g.count, c.loop-cell.invariant.2))

pub loop-cell-preserved : goal.loop-cell-preserved
loop-cell-preserved c =
    let t = c.args.tree in
    let es = entries_of t.bytes.now t.places.now in
    let n = length c.loop-cell.yielded in
    let x = c.in-Some.cell in
    let turn = at_turn t.bytes.now t.places.now t.holds _ (ap cells_left c.into_iter-cell-iterator.ensures.into_iter_gives ∙ c.cells-cell-items.ensures) c.loop-cell.yielded _ c.loop-cell.yielded_by _ _ x c.in-Some.is c.next.ensures.steps in
    let e = entry_of x.bytes.now in
    let no = ap not (eq-eqb c.args.session.0 e.owner (c.if-session-head.false ∙ head_owner _ _ c.head.ensures)) in
    rw (length-append c.loop-cell.yielded (x ∷ []))
    (grown_as _ _ _ _ (keep_skip (λ (y : Entry). not (eqb c.args.session.0 y.owner)) es n e (omega (arith, turn.within, length_entries t.bytes.now t.places.now)) (turn.entry e) no) refl c.loop-cell.invariant.0, omega (arith, turn.len, c.loop-cell.invariant.1), omega (arith, c.loop-cell.invariant.2))

pub returns : goal.returns
returns c =
    let t = c.args.tree in
    let es = entries_of t.bytes.now t.places.now in
    grown_as _ _ _ _ (keep_all _ es (length c.loop-cell.yielded) (at_end t.bytes.now t.places.now t.holds _ (ap cells_left c.into_iter-cell-iterator.ensures.into_iter_gives ∙ c.cells-cell-items.ensures) c.loop-cell.yielded _ c.loop-cell.yielded_by _ _ c.in-None.is c.next.ensures.steps)) refl c.loop-cell.invariant.0
