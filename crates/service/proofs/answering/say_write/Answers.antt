use Rattle.std.proofs.Common.{not, ◌&&◌, leb, length, ap, arith}
use Rattle.std.proofs.lemmas.Bool.{and_parts, leb-true}
use Rattle.model.specs.Tree.{none, every, name_ok}
use Rattle.lent_bytes.specs.Paths.{path_of}
use Rattle.lent_bytes.proofs.PathBytes.{path_long}
use Rattle.service.proofs.answering.say_write.Goals as goal

pub say_made-requires : goal.say_made-requires
say_made-requires c =
    let p = path_of c.args.act.path.names.now in
    let few = leb-true (length p) 16 (and_parts (not (none p)) (leb (length p) 16) (and_parts (not (none p) && leb (length p) 16) (every name_ok p) c.requires.range).0).1 in
    record { few = omega (arith, few); room = omega (arith, c.requires.room, path_long p c.requires.range, ap length c.args.act.path.spells) }
