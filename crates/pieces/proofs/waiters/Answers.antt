use mathlib.Core.Path.{refl}
use Rattle.pieces.proofs.Waiting.{waiting-start, waiting-step}
use native.Mathlib.Omega.{arith}
use Rattle.pieces.proofs.waiters.Goals as goal

pub loop-i-init : goal.loop-i-init
loop-i-init g c = λ steps law. waiting-start _ _ refl

pub loop-i-preserved : goal.loop-i-preserved
loop-i-preserved g c = λ steps law.
    waiting-step _ (c.loop-i.invariant steps law) (omega arith) _ (law _ c.loop-i-test.true _ c.on.ensures) c.wait.ensures
