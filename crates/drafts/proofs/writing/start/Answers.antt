use Rattle.std.proofs.Common.{drop, ap, ◌∙◌, arith, rules}
use Rattle.std.proofs.lemmas.List.{take_rest}
use Rattle.lent_bytes.proofs.Writes.{and_then, the_same}
use Rattle.cells.specs.Layout.{prelude_of}
use Rattle.cells.proofs.Preludes.{prelude_long, begins_with, prelude_written}
use Rattle.drafts.proofs.Grows.{begun}
use Rattle.drafts.proofs.writing.start.Goals as goal

pub returns : goal.returns
returns c =
    let mem = c.args.tree.bytes.now in
    let ps = c.args.tree.places.now in
    let pre = prelude_of mem ps in
    let rest = take_rest c.prelude.result.bytes.now 16 ∙ ap (drop 16) c.prelude.ensures.value in
    record {
      begun = begun _ _ _ _ _ (begins_with c.args.changes.0 c.args.top.0 pre (prelude_long mem ps c.args.tree.holds))
          (the_same _ _ (prelude_written c.args.changes.0 c.args.top.0 pre _ rest) (and_then (and_then c.append_u64-a.ensures.added c.append_u64-b.ensures.added) c.append_bytes-used.ensures.added))
          c.requires.more (omega arith);
      used = search rules;
    }
