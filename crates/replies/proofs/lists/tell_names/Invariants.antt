-- What is left to tell, behind what was told, is what there was to tell.
use Rattle.std.proofs.Common.{◌≡◌, ◌-◌, string_bytes}
use Rattle.calls.specs.Format.{name_at, many_at}
use Rattle.spelling.specs.Spelled.{many}
use Rattle.replies.specs.Answers.{name_behind, told}
use Rattle.replies.proofs.lists.tell_names.Given as goal

abbrev pub invariant-loop : goal.invariant-loop
invariant-loop l = told (many (name_behind l.before)) (string_bytes l.out) (many_at name_at (l.count - l.counter) l.rest) ≡ told (many (name_behind l.before)) (string_bytes l.initial.out) (many_at name_at l.count l.bytes)
