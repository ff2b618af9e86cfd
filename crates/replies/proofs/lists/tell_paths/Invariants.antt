-- What is left to tell, behind what was told, is what there was to tell.
use Rattle.std.proofs.Common.{◌≡◌, ◌-◌, string_bytes}
use Rattle.calls.specs.Format.{path_at, many_at}
use Rattle.spelling.specs.Spelled.{many}
use Rattle.replies.specs.Answers.{path_behind, told}
use Rattle.replies.proofs.lists.tell_paths.Given as goal

abbrev pub invariant-loop : goal.invariant-loop
invariant-loop l = told (many path_behind) (string_bytes l.out) (many_at path_at (l.count - l.counter) l.rest) ≡ told (many path_behind) (string_bytes l.initial.out) (many_at path_at l.count l.bytes)
