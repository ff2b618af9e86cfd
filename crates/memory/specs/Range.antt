-- How long a call is that can wait: one that is not answered at once. Assumes nothing.
use Rattle.std.specs.Prelude.{◌≡◌, ℕ, ◌≤◌, List, length, None}
use Rattle.calls.specs.Laws.{Bytes}
use Rattle.calls.specs.Screening.{screened}
use Rattle.service.specs.Service.{at_once}

-- it fits every slot
abbrev pub WaitingIsShort : Type 0
WaitingIsShort = (call : List ℕ) → Bytes call → at_once (screened call) ≡ None → length call ≤ 66606
