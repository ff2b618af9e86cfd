use Rattle.std.proofs.Common.{◌≡◌, ℕ, List, ◌++◌, take, drop, sym, ap, ◌∙◌, arith}
use Rattle.std.proofs.lemmas.List.{take-append-drop}
use Rattle.std.proofs.lemmas.Slice.Eq.{slice_eq-Decides}
use Rattle.std.proofs.lemmas.Bool.Decides.{Decides-eqb}
use Rattle.lent_bytes.proofs.Walks.{refused}
use Rattle.lent_bytes.proofs.Above.{too_short, other_length, front_decides}
use Rattle.cells.proofs.Kids.{kid_is}
use Rattle.cells.proofs.cell.Cell.is_kid.Goals as goal

-- two parts are the whole
joined : (n : ℕ) (own front rest : List ℕ) → front ≡ take n own → rest ≡ drop n own → own ≡ front ++ rest
joined n own front rest f r = sym (take-append-drop n own) ∙ (λ i. sym f i ++ sym r i)

pub returns-in_default : goal.returns-in_default
returns-in_default c =
    kid_is _ _ _ _ c.path.ensures.value c.path.result.spells c.args.path.spells
    (refused (too_short _ _ c.path.result.spells c.args.path.spells (omega (arith, c.in_default.ensures.cases))))

pub returns-then-len-name : goal.returns-then-len-name
returns-then-len-name c =
    let parts = c.in-Some.ensures.cases in
    kid_is _ _ _ _ c.path.ensures.value c.path.result.spells c.args.path.spells
    (front_decides _ _ c.path.result.spells c.args.path.spells c.in-Some.front.now _ _ c.eq.result
    (joined _ _ _ _ parts.1 parts.2 ∙ ap (λ l. c.in-Some.front.now ++ l) c.in-Some-split_first.ensures.cases.0)
    parts.3 c.if-len-name.true (slice_eq-Decides Decides-eqb _ _ _ c.eq.ensures))

pub returns-else-len-name : goal.returns-else-len-name
returns-else-len-name c =
    let parts = c.in-Some.ensures.cases in
    kid_is _ _ _ _ c.path.ensures.value c.path.result.spells c.args.path.spells
    (other_length _ _ c.path.result.spells c.args.path.spells c.in-Some.front.now _ _
    (joined _ _ _ _ parts.1 parts.2 ∙ ap (λ l. c.in-Some.front.now ++ l) c.in-Some-split_first.ensures.cases.0)
    parts.3 c.if-len-name.false)

pub returns-in-None : goal.returns-in-None
returns-in-None c =
    let parts = c.in-Some.ensures.cases in
    kid_is _ _ _ _ c.path.ensures.value c.path.result.spells c.args.path.spells
    (refused (too_short _ _ c.path.result.spells c.args.path.spells (omega (arith, parts.4, c.in-None.ensures.cases))))
