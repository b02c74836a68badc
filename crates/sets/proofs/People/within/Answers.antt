use native.Mathlib.Omega.{arith}
use Rattle.sets.specs.Stored.{width, number}
use Rattle.sets.proofs.Masks.{within-is}
use Rattle.sets.proofs.People.within.Goals as goal

pub returns : goal.returns
unfolding number
returns c = within-is width _ _ (omega arith) (omega arith)
