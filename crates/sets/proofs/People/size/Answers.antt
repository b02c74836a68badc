use mathlib.Core.Path.{sym}
use native.Mathlib.Omega.{arith}
use Rattle.sets.specs.Stored.{width, number}
use Rattle.sets.proofs.Counting.{size-ones}
use Rattle.sets.proofs.People.size.Goals as goal

pub returns : goal.returns
unfolding number
returns c = sym (size-ones width _ (omega arith))
