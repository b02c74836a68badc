use mathlib.Core.Path.{refl}
use Rattle.pieces.proofs.Halving.{half-start, step-halved}
use native.Mathlib.Omega.{arith}
use Rattle.pieces.proofs.half.Goals as goal

pub loop-x-init : goal.loop-x-init
loop-x-init c = half-start _ _ _ (omega arith)

pub loop-x-preserved : goal.loop-x-preserved
loop-x-preserved c = step-halved _ _ _ c.loop-x.invariant c.loop-x-test.true _ refl _ _ c.holds.ensures c.less_unless-set.ensures
