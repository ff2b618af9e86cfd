-- PROGRESS: more than half of the replicas, whole and in touch, get on.
use Rattle.runs.specs.Progress.{AnswersAndHeals}
use Rattle.agreement.specs.Content.{Service}
use Rattle.agreement.specs.Machine.{code}

-- From every scene that a run can reach, such a group has a way, by what it says from then on, to answer every call that waits with it and to make each of it whole, also those that have to be woken first
abbrev pub GetsOn : Service → Type 0
GetsOn sv = AnswersAndHeals (code sv)
