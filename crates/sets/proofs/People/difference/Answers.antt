use native.Mathlib.Omega.{arith}
use Rattle.sets.specs.Stored.{width, number}
use Rattle.sets.proofs.Masks.{difference-is}
use Rattle.sets.proofs.People.difference.Goals as goal

pub returns : goal.returns
unfolding number
returns c = difference-is width _ _ (omega arith) (omega arith)
