use Rattle.std.proofs.Common.{arith}
use Rattle.content.proofs.Accepts.{accepted}
use Rattle.content.proofs.accept.Goals as goal

pub returns : goal.returns
returns c = accepted c.args.room c.args.bytes.now _ c.scan.result (omega arith) c.requires.small c.scan.ensures
