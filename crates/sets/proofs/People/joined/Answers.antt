use native.Mathlib.Omega.{arith}
use Rattle.sets.specs.Stored.{width, number}
use Rattle.sets.proofs.Masks.{joined_is}
use Rattle.sets.proofs.People.joined.Goals as goal

pub returns : goal.returns
unfolding number
returns c = joined_is width _ _ (omega arith) (omega arith)
