use native.Mathlib.Omega.{arith}
use Rattle.sets.proofs.Masks.{within-is}
use Rattle.sets.proofs.small.within.Goals as goal

pub returns : goal.returns
returns c = within-is 32 _ _ (omega arith) (omega arith)
