-- Over messages as bytes: the four promises of the machine with the tree, carried over to any way of writing messages that is read back.
use Rattle.std.proofs.Common.{ℕ, List}
use Rattle.runs.specs.Carrying.{Writing, ReadsAgainOfSeven}
use Rattle.runs.proofs.Kept.{room_kept, busy_kept, waiting_kept, heals_kept}
use Rattle.agreement.proofs.Linear.{like_aRoom}
use Rattle.agreement.proofs.Clients.{hands_back, answers_waiting}
use Rattle.agreement.proofs.Progress.{answers_and_heals}
use Rattle.agreement.specs.Machine.{code}
use Rattle.service.specs.Service.{lines}
use Rattle.service.proofs.Lawfulness.{lines_lawful}
use Rattle.service.proofs.Steadiness.{lines_steady}
use Rattle.service.specs.Safe.{longest, OverBytes, SafeOver, WholeOverBytes}

-- the three of safety, where what is said in runs of at most seven replicas is read again
safe_kept : (room : ℕ) (e : Writing (code (lines room)) (List ℕ)) → ReadsAgainOfSeven (code (lines room)) e → SafeOver room e
safe_kept room e again =
    let sv = lines room in
    let law = lines_lawful room in
    (room_kept (code sv) e again sv.clerk (like_aRoom sv law), busy_kept (code sv) e again sv.clerk (hands_back sv law), waiting_kept (code sv) e again (answers_waiting sv))

pub safe_over_bytes : (room : ℕ) → OverBytes room
safe_over_bytes room e again =
    let of_seven : ReadsAgainOfSeven (code (lines room)) e = λ all n _ es s go i m _ up l mem. again all n es s go i m up l mem in
    let safe = safe_kept room e of_seven in
    (safe.0, safe.1, safe.2, heals_kept (code (lines room)) e of_seven 72057594037927936)

pub whole_over_bytes : (room : ℕ) → WholeOverBytes room
unfolding lines_steady
whole_over_bytes room e again = (safe_kept room e again, heals_kept (code (lines room)) e again longest (answers_and_heals (lines room) (lines_steady room)))
