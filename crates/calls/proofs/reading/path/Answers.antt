use Rattle.std.proofs.Common.{ℕ, List, length, Some, Option, sym, ap, ◌∙◌, arith, length-append}
use Rattle.lent_bytes.specs.Paths.{path_bytes}
use Rattle.lent_bytes.proofs.PathBytes.{path_is, spells_is}
use Rattle.calls.specs.Format.{and_then, names_at}
use Rattle.calls.proofs.Back.{names_part, cut_before}
use Rattle.calls.proofs.reading.path.Goals as goal

pub overflow_sub-all : goal.overflow_sub-all
overflow_sub-all c =
    let p = names_part c.in_ok-count.count c.in_ok-count.all.now c.in_ok-rest.rest.now (sym c.in_ok-rest.ensures) in
    omega (arith, ap length p.2, length-append (path_bytes p.0) c.in_ok-rest.rest.now)

pub invariant_of-result : goal.invariant_of-result
invariant_of-result c =
    let p = names_part c.in_ok-count.count c.in_ok-count.all.now c.in_ok-rest.rest.now (sym c.in_ok-rest.ensures) in
    let cuts = cut_before c.in_ok-count.all.now (path_bytes p.0) c.in_ok-rest.rest.now p.2 in
    record { spells = spells_is c.split_at.result.0.now p.0 (c.split_at.ensures.front ∙ cuts.0) }

pub returns : goal.returns
returns c =
    let p = names_part c.in_ok-count.count c.in_ok-count.all.now c.in_ok-rest.rest.now (sym c.in_ok-rest.ensures) in
    let cuts = cut_before c.in_ok-count.all.now (path_bytes p.0) c.in_ok-rest.rest.now p.2 in
    let names = c.split_at.ensures.front ∙ cuts.0 in
    let behind = c.split_at.ensures.back ∙ cuts.1 in
    (λ i. Some (path_is c.split_at.result.0.now p.0 names i, behind i)) ∙ sym p.1 ∙
    ap (λ (o : Option (ℕ × List ℕ)). and_then o (λ k. names_at k.0 k.1)) c.in_ok-count.ensures
