use Rattle.std.proofs.Common.{ℕ, List, sym, ap, ◌∙◌}
use Rattle.lent_bytes.specs.Numbers.{be32}
use Rattle.cells.specs.Layout.{prelude_of}
use Rattle.cells.proofs.Preludes.{length_numbers}
use Rattle.cells.proofs.held.Tree.session_count.Goals as goal

pub returns : goal.returns
returns c =
    let pre = prelude_of c.args.self.bytes.now c.args.self.places.now in
    c.session_count.ensures ∙ ap (λ (bs : List ℕ). be32 bs 24) c.prelude.ensures.value ∙ sym (length_numbers (be32 pre 24) pre 28)
