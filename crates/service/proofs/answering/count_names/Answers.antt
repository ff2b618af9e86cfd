use Rattle.std.proofs.Common.{◌+◌, rules}
use Rattle.service.proofs.Saying.{count_first, count_next, count_end, none_left, rest_counted}
use Rattle.service.proofs.answering.count_names.Goals as goal

pub loop-n-init : goal.loop-n-init
loop-n-init c = count_first c.args.path.names.now c.args.path.spells

pub slice_bounds-names-count : goal.slice_bounds-names-count
slice_bounds-names-count c = (count_next c.args.path.names.now c.loop-n.names.now c.loop-n.count c.loop-n.invariant c.in-Some.n.now c.in-Some.rest.now c.in-Some.ensures.cases.0).0

pub slice_bounds-names-start : goal.slice_bounds-names-start
slice_bounds-names-start c = let inside = count_next c.args.path.names.now c.loop-n.names.now c.loop-n.count c.loop-n.invariant c.in-Some.n.now c.in-Some.rest.now c.in-Some.ensures.cases.0 in search rules

pub overflow_add-count : goal.overflow_add-count
overflow_add-count c = let more = count_next c.args.path.names.now c.loop-n.names.now c.loop-n.count c.loop-n.invariant c.in-Some.n.now c.in-Some.rest.now c.in-Some.ensures.cases.0 in search rules

pub loop-n-preserved : goal.loop-n-preserved
loop-n-preserved c =
    let more = count_next c.args.path.names.now c.loop-n.names.now c.loop-n.count c.loop-n.invariant c.in-Some.n.now c.in-Some.rest.now c.in-Some.ensures.cases.0 in
    rest_counted c.args.path.names.now c.in-Some.rest.now c.in-Some.n.now (c.loop-n.count + 1) more.2

pub returns : goal.returns
returns c = count_end c.args.path.names.now c.loop-n.names.now c.loop-n.count c.loop-n.invariant (none_left c.loop-n.names.now c.in_default.ensures.cases)
