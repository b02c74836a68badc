use native.Mathlib.Omega.{arith}
use Rattle.sets.specs.Stored.{width, number}
use Rattle.sets.proofs.Masks.{common-is}
use Rattle.sets.proofs.People.common.Goals as goal

pub returns : goal.returns
unfolding number
returns c = common-is width _ _ (omega arith) (omega arith)
