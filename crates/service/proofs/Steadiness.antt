-- The tree grows slowly: a call counts as one change at most, so as long as there were fewer than 2^56 changes calls may be done.
use Rattle.std.proofs.Common.{ℕ, ◌+◌, ◌*◌, ◌≤◌, refl, arith}
use Rattle.std.proofs.lemmas.Bool.{cond_both, lt-ltb}
use Rattle.model.specs.Tree.{State, does, core}
use Rattle.model.proofs.Going.{call_steps}
use Rattle.calls.specs.Screening.{Screen, NotBuilt, NoCall, LetIn, screened}
use Rattle.agreement.specs.Steady.{Steady}
use Rattle.service.specs.Service.{next_to, lines, calls}
use Rattle.service.specs.Safe.{longest}

pub next_steps : (room : ℕ) (c : Screen) (s : State) → 64 * (next_to room c s).changes ≤ 64 + 64 * s.changes
next_steps room NotBuilt s = omega arith
next_steps room NoCall s = omega arith
next_steps room (LetIn c) s = omega (arith, call_steps room c s)

unfoldable pub lines_steady : (room : ℕ) → Steady (lines room)
lines_steady room = record { most = longest; short = omega arith; size = λ s. 64 * s.changes; starts = refl; grows = λ bs s. next_steps room (screened bs) s; calm = λ s lt. lt-ltb s.changes 72057594037927936 (omega (arith, lt)) }

unfoldable pub calls_steady : (room : ℕ) → Steady (calls room)
calls_steady room =
    record {
      most = longest;
      short = omega arith;
      size = λ s. 64 * s.changes;
      starts = refl;
      grows = λ c s. cond_both (core c) (does room c s).state s (λ (t : State). 64 * t.changes ≤ 64 + 64 * s.changes) (λ _. omega (arith, call_steps room c s)) (λ _. omega arith);
      calm = λ s lt. lt-ltb s.changes 72057594037927936 (omega (arith, lt));
    }
