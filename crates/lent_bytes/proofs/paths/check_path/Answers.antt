use Rattle.std.proofs.Common.{◌<◌, refl, arith}
use Rattle.std.proofs.ByRecursion.{All-from_get_or}
use Rattle.lent_bytes.proofs.Walks.{fronts_none, fronts_more, fronts_next, fronts_end, refused}
use Rattle.lent_bytes.proofs.paths.check_path.Goals as goal
use Rattle.lent_bytes.proofs.paths.check_path.Goals.{then-n-eq0-via-then-n-eq0, then-n-eq0-via-else-n-eq0+then-n-gt64, then-n-eq0-via-else-n-eq0+else-n-gt64+then-n-path, then-n-eq0-via-else-n-eq0+else-n-gt64+else-n-path+then-count-ge16}

pub loop-at-init : goal.loop-at-init
loop-at-init c = fronts_none _

pub returns-then-n-eq0 : goal.returns-then-n-eq0
returns-then-n-eq0 c = refused (λ both.
    let on = fronts_next _ _ _ c.loop-at.invariant both.0 both.1 c.loop-at-test.true in
    elim c.then-n-eq0.branch [
      | then-n-eq0-via-then-n-eq0 w ↦ omega arith
      | then-n-eq0-via-else-n-eq0+then-n-gt64 w ↦ omega arith
      | then-n-eq0-via-else-n-eq0+else-n-gt64+then-n-path w ↦ omega arith
      | then-n-eq0-via-else-n-eq0+else-n-gt64+else-n-path+then-count-ge16 w ↦ omega arith
    ])

pub loop-at-preserved : goal.loop-at-preserved
loop-at-preserved c =
    fronts_more _ _ _ c.loop-at.invariant (All-from_get_or (λ b. b < 256) c.args.path.now 0 (λ i l. (c.type_inv.path i).fits)) _ refl (omega arith) c.if-n-gt64.false c.if-n-path.false c.if-count-ge16.false

pub returns : goal.returns
returns c = fronts_end _ _ _ c.loop-at.invariant c.loop-at-test.false
