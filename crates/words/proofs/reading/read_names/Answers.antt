-- Each way out, and each turn, is one step of the definition.
use Rattle.std.proofs.Common.{map, vec_items, sym, refl, ap, subst, ◌∙◌}
use Rattle.std.proofs.lemmas.List.{map_push}
use Rattle.std.proofs.lemmas.Result.{err_from_is_err_and}
use Rattle.model.specs.Tree.{Path}
use Rattle.words.specs.Values.{name_of, path_of}
use Rattle.words.specs.Words.{no_slash, slash_name, names_at}
use Rattle.words.proofs.Many.{IsLeft, left_start, left_over, left_wrong, left_more}
use Rattle.words.proofs.Faults.{hands_on}
use Rattle.words.proofs.reading.read_names.Goals as goal

pub loop-heap-init : goal.loop-heap-init
loop-heap-init c =
    subst (λ (xs : Path). IsLeft no_slash slash_name (names_at c.args.text.now) xs c.args.text.now) (sym (ap (map name_of) c.new-names.ensures.items)) (left_start no_slash slash_name c.args.text.now)

pub returns-in_err-name : goal.returns-in_err-name
returns-in_err-name c =
    let p = err_from_is_err_and c.from_residual.result c.from_residual.ensures.1 in
    rw (p.1, p.2)
    (hands_on name_of path_of c.in_err-name.field-0.0 (slash_name c.loop-heap.rest.now) (names_at c.args.text.now)
    (left_wrong no_slash slash_name (names_at c.args.text.now) (map name_of (vec_items c.loop-heap.names)) c.loop-heap.rest.now c.loop-heap.invariant refl
    (sym c.no_slash.ensures ∙ c.loop-heap-test.true))
    c.in_err-name.ensures.value)

pub loop-heap-preserved : goal.loop-heap-preserved
loop-heap-preserved c =
    subst (λ (xs : Path). IsLeft no_slash slash_name (names_at c.args.text.now) xs c.in_ok-name.next.now)
    (sym (ap (map name_of) c.in_ok-push.ensures.items ∙ map_push name_of (vec_items c.loop-heap.names) c.in_ok-name.name))
    (left_more no_slash slash_name (names_at c.args.text.now) (map name_of (vec_items c.loop-heap.names)) c.loop-heap.rest.now c.loop-heap.invariant (name_of c.in_ok-name.name)
    c.in_ok-name.next.now
    c.in_ok-name.ensures.less
    (sym c.no_slash.ensures ∙ c.loop-heap-test.true)
    c.in_ok-name.ensures.value)

pub returns : goal.returns
returns c =
    left_over no_slash slash_name (names_at c.args.text.now) (map name_of (vec_items c.loop-heap.names)) c.loop-heap.rest.now c.loop-heap.invariant (sym c.no_slash.ensures ∙ c.loop-heap-test.false)
