use mathlib.Core.Path.{refl}
use Rattle.laying.proofs.Building.{put-blocks-start, put-blocks-step}
use Rattle.laying.proofs.OffRows.{columns-next}
use native.Mathlib.Omega.{arith}
use Rattle.laying.proofs.put_columns.Goals as goal

pub loop-k-init : goal.loop-k-init
loop-k-init c = put-blocks-start _ _ _ _ _

pub loop-k-preserved : goal.loop-k-preserved
loop-k-preserved c =
    put-blocks-step _ _ _ _ _ c.loop-k.invariant c.loop-k-test.true (omega arith) _ _ refl
    (columns-next _ _ _ _ c.loop-k.invariant (omega arith) (omega arith) c.put_column.ensures)
