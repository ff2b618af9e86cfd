-- The words of what the bytes are read as are those that their shape tells.
use Rattle.std.proofs.Common.{Some, None, string_bytes, rules}
use Rattle.replies.proofs.Shapes.{by_shape}
use Rattle.replies.proofs.answer_in_words.Goals as goal

pub returns-in-Ok-clause-by_shape : goal.returns-in-Ok-clause-by_shape
returns-in-Ok-clause-by_shape c = by_shape c.args.bytes.now (Some (string_bytes c.tell.new.out)) (search rules)

pub returns-in-Err-NoAnswer-clause-by_shape : goal.returns-in-Err-NoAnswer-clause-by_shape
returns-in-Err-NoAnswer-clause-by_shape c = by_shape c.args.bytes.now None (search rules)
