use native.Mathlib.Omega.{arith}
use Rattle.sets.specs.Stored.{width, number}
use Rattle.sets.proofs.Masks.{shl_one}
use Rattle.sets.proofs.NotBelow.{past_is, past-beyond}
use Rattle.sets.proofs.People.past.Goals as goal

pub returns-then-n : goal.returns-then-n
unfolding number
returns-then-n c = rw (shl_one width _ c.if-n.true) (past_is width _ _ (omega arith))

pub returns-else-n : goal.returns-else-n
unfolding number
returns-else-n c = past-beyond width _ _ (omega arith) c.if-n.false
