use mathlib.Core.Path.{refl}
use Rattle.pieces.proofs.Writing.{put-start, put_step}
use Rattle.laying.proofs.put.Goals as goal

pub loop-i-init : goal.loop-i-init
loop-i-init g c = λ f law. put-start _ _ _ _

pub loop-i-preserved : goal.loop-i-preserved
loop-i-preserved g c = λ f law.
    put_step _ _ _ _ (c.loop-i.invariant f law) c.loop-i-test.true _ _ refl (law _ c.loop-i-test.true _ c.entry.ensures)
