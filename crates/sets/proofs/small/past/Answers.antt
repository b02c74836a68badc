use native.Mathlib.Omega.{arith}
use Rattle.sets.proofs.Masks.{shl_one}
use Rattle.sets.proofs.NotBelow.{past_is, past-beyond}
use Rattle.sets.proofs.small.past.Goals as goal

pub returns-then-n-lt16 : goal.returns-then-n-lt16
returns-then-n-lt16 c = rw (shl_one 16 _ c.if-n-lt16.true) (past_is 16 _ _ (omega arith))

pub returns-else-n-lt16 : goal.returns-else-n-lt16
returns-else-n-lt16 c = past-beyond 16 _ _ (omega arith) c.if-n-lt16.false
