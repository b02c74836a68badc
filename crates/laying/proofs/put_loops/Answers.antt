use mathlib.Core.Path.{refl, ◌∙◌}
use Rattle.pieces.proofs.Writing.{put-start, put_step}
use Rattle.laying.proofs.OffRows.{loops-next}
use native.Mathlib.Omega.{arith}
use Rattle.laying.proofs.put_loops.Goals as goal

pub loop-k-init : goal.loop-k-init
loop-k-init c = put-start _ _ _ _

pub loop-k-preserved : goal.loop-k-preserved
loop-k-preserved c =
    put_step _ _ _ _ c.loop-k.invariant c.loop-k-test.true _ _ refl
    (loops-next _ _ _ c.loop-k.invariant (omega arith) (c.word.ensures ∙ c.loops-set.ensures))
