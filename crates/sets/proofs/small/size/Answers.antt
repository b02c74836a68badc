use mathlib.Core.Path.{sym}
use native.Mathlib.Omega.{arith}
use Rattle.sets.proofs.Counting.{size-ones}
use Rattle.sets.proofs.small.size.Goals as goal

pub returns : goal.returns
returns c = sym (size-ones 16 _ (omega arith))
