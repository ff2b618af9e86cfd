use Rattle.std.proofs.Common.{◌+◌, ◌-◌, length, arith}
use Rattle.cells.specs.Layout.{entries_of}
use Rattle.cells.proofs.Cells.{length_entries}
use Rattle.cells.proofs.Pushes.{ends_at, spans, length_span}
use Rattle.drafts.proofs.Grows.{grown_then, grown_as, around}
use Rattle.drafts.proofs.writing.replace.Goals as goal

pub push_entry-with-requires : goal.push_entry-with-requires
push_entry-with-requires c =
    let at = spans _ _ _ c.args.tree.holds c.requires.within in
    let many = length_span c.args.tree.bytes.now c.args.tree.places.now 0 c.args.i (omega arith) in
    let grown = c.push_cells-before.ensures in
    record { drafts = grown.drafts; room = omega arith; small = omega arith; more = omega arith; names = c.requires.names; bytes = c.requires.bytes; few = c.requires.few; ok = c.requires.ok }

pub push_cells-requires : goal.push_cells-requires
push_cells-requires c =
    let at = spans _ _ _ c.args.tree.holds c.requires.within in
    let many = length_span c.args.tree.bytes.now c.args.tree.places.now 0 c.args.i (omega arith) in
    let before = c.push_cells-before.ensures in
    let with' = c.push_entry-with.ensures in
    let last = ends_at c.args.tree.bytes.now c.args.tree.places.now c.len.result c.args.tree.holds c.len.ensures in
    record { order = omega arith; within = omega arith; drafts = with'.drafts; room = omega arith; small = omega arith; more = omega arith }

pub returns : goal.returns
returns c =
    let es = entries_of c.args.tree.bytes.now c.args.tree.places.now in
    let at = spans _ _ _ c.args.tree.holds c.requires.within in
    let n = c.len.result in
    let last = ends_at c.args.tree.bytes.now c.args.tree.places.now c.len.result c.args.tree.holds c.len.ensures in
    let before = c.push_cells-before.ensures in
    let with' = c.push_entry-with.ensures in
    let after = c.push_cells.ensures in
    record {
      grown = grown_as _ _ _ _ (around c.args.i n _ es (omega (arith, c.len.ensures, length_entries c.args.tree.bytes.now c.args.tree.places.now))) (omega arith) (grown_then (grown_then before with') after);
      used = omega arith;
    }
