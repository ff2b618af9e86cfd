use Rattle.std.proofs.Common.{sym, ap, ◌∙◌, rules}
use Rattle.std.proofs.lemmas.Bool.{false≢true}
use Rattle.model.specs.Tree.{core}
use Rattle.calls.specs.declared.types.Call.{Call}
use Rattle.calls.specs.Reading.{call_of}
use Rattle.service.proofs.asking.asked_by.Goals as goal

pub the_act-requires : goal.the_act-requires
unfolding core
the_act-requires c = search rules

-- opening and ending are not of the core
pub unreachable-requires : goal.unreachable-requires
unfolding core
unreachable-requires c = false≢true (sym (ap (λ (x : Call). core (call_of x)) c.in-Open.is) ∙ c.requires)

pub unreachable-requires-in-End : goal.unreachable-requires-in-End
unfolding core
unreachable-requires-in-End c = false≢true (sym (ap (λ (x : Call). core (call_of x)) c.in-End.is) ∙ c.requires)
