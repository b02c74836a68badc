use native.Mathlib.Omega.{arith}
use Rattle.sets.specs.Stored.{number}
use Rattle.sets.proofs.People.low.Goals as goal

pub returns : goal.returns
unfolding number
returns c = omega arith
