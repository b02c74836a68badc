use native.Mathlib.Omega.{arith}
use Rattle.sets.proofs.Masks.{joined_is}
use Rattle.cases.proofs.joined_steps.Goals as goal

pub returns : goal.returns
returns c = joined_is 8 _ _ (omega arith) (omega arith)
