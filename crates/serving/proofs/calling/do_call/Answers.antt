use Rattle.service.proofs.Clerking.{kept_by, next_by}
use Rattle.std.proofs.Common.{ap, ◌∙◌, Option}
use Rattle.cells.specs.declared.draft.Size.{Size}
use Rattle.memory.specs.Keeps.{slot_at, turned_to}
use Rattle.serving.proofs.Doings.{did_as}
use Rattle.serving.proofs.calling.do_call.Goals as goal

pub returns : goal.returns
returns c =
    let k = c.args.kept in
    let w = c.write_beside-written.result in
    did_as k c.args.memory.now _ _ _ (slot_at k c.args.memory.now c.args.slot) w c.write_beside-written.ensures.before
    (c.turned.ensures ∙ ap (λ (o : Option Size). turned_to o k) (next_by w c.ok.result c.ok.ensures.value))
    (kept_by w c.map.result _ c.map.ensures.cases) c.write_beside-written.ensures.wrote
