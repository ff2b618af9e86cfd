use Rattle.std.proofs.Common.{refl, arith}
use Rattle.lent_bytes.specs.Numbers.{be32, be64}
use Rattle.cells.specs.Layout.{numbers_at, state_from}
use Rattle.drafts.proofs.Grows.{begun}
use Rattle.drafts.proofs.writing.start_blank.Goals as goal

pub returns : goal.returns
unfolding be32 be64 numbers_at
returns c =
    let b = begun _ _ _ _ _ refl c.append_bytes-used.ensures.added c.requires.more (omega arith) in
    record { drafts = b.drafts; state = λ i. state_from (b.prelude i) (b.entries i) }
