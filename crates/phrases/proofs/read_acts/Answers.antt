-- Each way out, and each turn, is one step of the definition.
use Rattle.std.proofs.Common.{◌+◌, ◌-◌, List, map, length, vec_items, sym, ap, ◌∙◌}
use Rattle.model.specs.Tree.{Act}
use Rattle.std.proofs.lemmas.List.{map_push}
use Rattle.std.proofs.lemmas.Result.{err_from_is_err_and}
use Rattle.words.specs.Values.{act_of, acts_of}
use Rattle.words.specs.Words.{many_while}
use Rattle.phrases.specs.Acts.{acts_at, at_brace, piece_at}
use Rattle.words.proofs.Many.{before, many_over, many_end, many_wrong, many_more}
use Rattle.words.proofs.Faults.{hands_on}
use Rattle.phrases.proofs.read_acts.Goals as goal

pub returns-then-at_brace : goal.returns-then-at_brace
returns-then-at_brace c =
    c.loop.invariant
    ∙ many_over at_brace piece_at (map act_of (vec_items c.loop.acts)) c.loop.rest.now (length c.args.text.now - c.loop.counter)
    (sym c.if-at_brace.ensures)

pub returns-in_err-act : goal.returns-in_err-act
returns-in_err-act c =
    let p = err_from_is_err_and c.from_residual.result c.from_residual.ensures.1 in
    rw (p.1, p.2)
    (hands_on act_of acts_of c.in_err-act.field-0.0 (piece_at c.loop.rest.now) (acts_at c.args.text.now)
    (λ w.
    c.loop.invariant
    ∙ many_wrong at_brace piece_at (map act_of (vec_items c.loop.acts)) c.loop.rest.now (length c.args.text.now) c.loop.counter
    c.loop-test.true
    (sym c.if-at_brace.ensures)
    w)
    c.in_err-act.ensures)

pub loop-preserved : goal.loop-preserved
loop-preserved c =
    c.loop.invariant
    ∙ (many_more at_brace piece_at (map act_of (vec_items c.loop.acts)) c.loop.rest.now (length c.args.text.now) c.loop.counter (act_of c.in_ok-act.act)
    c.in_ok-act.next.now
    c.loop-test.true
    (sym c.if-at_brace.ensures)
    c.in_ok-act.ensures
    ∙ ap (λ (xs : List Act). before xs (many_while at_brace piece_at (length c.args.text.now - (c.loop.counter + 1)) c.in_ok-act.next.now))
    (sym (ap (map act_of) c.in_ok-push.ensures.items ∙ map_push act_of (vec_items c.loop.acts) c.in_ok-act.act)))

pub returns : goal.returns
returns c =
    c.loop.invariant
    ∙ many_end at_brace piece_at (map act_of (vec_items c.loop.acts)) c.loop.rest.now (length c.args.text.now) c.loop.counter c.loop-test.false
