use mathlib.Core.Path.{refl, ◌∙◌}
use Rattle.pieces.proofs.Writing.{put-start, put_step}
use Rattle.laying.proofs.OffRows.{column-next}
use native.Mathlib.Omega.{arith}
use Rattle.laying.proofs.put_column.Goals as goal

pub loop-v-init : goal.loop-v-init
loop-v-init c = put-start _ _ _ _

pub loop-v-preserved : goal.loop-v-preserved
loop-v-preserved c =
    put_step _ _ _ _ c.loop-v.invariant c.loop-v-test.true _ _ refl
    (column-next _ _ _ _ _ c.loop-v.invariant (omega arith) (omega arith) (omega arith) c.loop-v-test.true (c.word.ensures ∙ c.column-set.ensures))
