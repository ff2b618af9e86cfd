use Rattle.std.proofs.Common.{[], ◌∷◌, length, sym, ap, ◌∙◌, append-nil, arith, rules}
use Rattle.lent_bytes.specs.Paths.{path_of, path_bytes}
use Rattle.lent_bytes.proofs.Writes.{wrote_then}
use Rattle.model.specs.Tree.{Done}
use Rattle.calls.specs.Format.{encode_reply, many_written}
use Rattle.service.proofs.Saying.{said_in}
use Rattle.service.proofs.answering.say_made.Goals as goal

pub returns : goal.returns
unfolding encode_reply many_written
returns c =
    let path = c.args.path.names.now in
    let n = c.count_names.ensures in
    let says = said_in (Done (path_of path ∷ [])) c.new-answer.result (1 ∷ 1 ∷ c.count_names.result ∷ path) c.bytes-2.new.self c.new-answer.ensures.used (wrote_then c.bytes.ensures.wrote c.bytes-2.ensures.wrote)
    (omega (arith, c.requires.room, c.new-answer.ensures.used, ap length c.new-answer.ensures.now, c.bytes.ensures.used, c.bytes-2.ensures.used))
    (λ i. 1 ∷ 1 ∷ n i ∷ (sym c.args.path.spells ∙ sym (append-nil (path_bytes (path_of path)))) i) in
    search rules
