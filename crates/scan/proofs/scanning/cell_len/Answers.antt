use Rattle.std.proofs.Common.{arith}
use Rattle.std.proofs.lemmas.Bool.Decides.{not_from_Decides}
use Rattle.scan.proofs.Ends.{only, formed_at, named_at}
use Rattle.scan.proofs.scanning.cell_len.Goals as goal

pub returns-then-value-gt65536 : goal.returns-then-value-gt65536
returns-then-value-gt65536 c = λ k l f. let cell = (only c.args.bytes.now k l f).1 in omega (arith, cell.short)

pub returns-then-len-bytes : goal.returns-then-len-bytes
returns-then-len-bytes c = λ k l f. omega (arith, (only c.args.bytes.now k l f).0)

pub returns-then-check_path : goal.returns-then-check_path
returns-then-check_path c = (
  omega arith,
  omega arith,
  formed_at _ _ _ c.read_u32-path.ensures c.read_u32-value.ensures (omega arith) (omega arith) (c.check_path.ensures.0 c.if-check_path.true),
)

pub returns-else-check_path : goal.returns-else-check_path
returns-else-check_path c = λ k l f. not_from_Decides _ c.check_path.ensures c.if-check_path.false (named_at _ _ k c.read_u32-path.ensures l f)
