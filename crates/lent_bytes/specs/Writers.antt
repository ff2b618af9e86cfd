-- What a writer does: it writes behind what it wrote so far, in the buffer that it has. Assumes nothing.
use Rattle.std.specs.Prelude.{◌≡◌, ℕ, List}
use Rattle.lent_bytes.specs.Writing.{Added}
use Rattle.lent_bytes.specs.declared.writing.Writer.{Writer}

-- these bytes were written, and nothing else of the buffer changed in front of them
pub record Wrote (was : Writer) (bytes : List ℕ) (now : Writer) : Type 0 where
  pub same : now.out.ghost_name ≡ was.out.ghost_name
  pub added : Added was.used was.out.now bytes now.used now.out.now
