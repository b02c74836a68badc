use native.Mathlib.Omega.{arith}
use Rattle.sets.specs.Stored.{width, number}
use Rattle.sets.proofs.Masks.{meets-is}
use Rattle.sets.proofs.People.meets.Goals as goal

pub returns : goal.returns
unfolding number
returns c = meets-is width _ _ (omega arith) (omega arith)
