-- The list that was read to the end of the bytes, behind its word.
use Rattle.std.proofs.Common.{string_bytes, codes, refl}
use Rattle.model.specs.Tree.{Done}
use Rattle.calls.specs.Format.{byte_at, many_at, path_at}
use Rattle.spelling.specs.Spelled.{many}
use Rattle.replies.specs.Answers.{path_behind, reply_spelled}
use Rattle.replies.proofs.Spellings.{list_told}
use Rattle.replies.proofs.tell_done.Goals as goal

pub returns : goal.returns
unfolding reply_spelled
returns c =
    list_told (many path_behind) Done (codes "done") (λ xs. refl) (string_bytes c.args.out.now) (many_at path_at) (byte_at c.args.bytes.now) c.byte.result c.in_ok-count.count c.in_ok-count.paths
    (string_bytes c.push_str.new.self)
    (string_bytes c.tell_paths.new.out)
    c.in_ok-rest.rest
    c.wholly.result
    c.ok_or-2.result
    c.byte.ensures
    c.in_ok-count.ensures.ok_part
    c.in_ok-push_str.ensures.bytes
    c.in_ok-rest.ensures
    c.wholly.ensures
    c.ok_or-2.ensures.value
