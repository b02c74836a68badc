use native.Mathlib.Omega.{arith}
use Rattle.sets.proofs.Masks.{common-is}
use Rattle.sets.proofs.small.shared.Goals as goal

pub returns : goal.returns
returns c = common-is 32 _ _ (omega arith) (omega arith)
