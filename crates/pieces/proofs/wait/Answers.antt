use Rattle.pieces.proofs.Writing.{put-start, put_step}
use Rattle.pieces.proofs.Waiting.{wait-here}
use native.Mathlib.Omega.{arith}
use Rattle.pieces.proofs.wait.Goals as goal

pub loop-x-init : goal.loop-x-init
loop-x-init c = put-start _ _ _ _

pub loop-x-preserved : goal.loop-x-preserved
loop-x-preserved c =
    put_step _ _ _ _ c.loop-x.invariant c.loop-x-test.true c.loop-x.x _ (omega arith) (wait-here _ _ _ _ c.loop-x.invariant c.with_if_in.ensures)
