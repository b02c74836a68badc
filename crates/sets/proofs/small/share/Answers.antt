use native.Mathlib.Omega.{arith}
use Rattle.sets.proofs.Masks.{meets-is}
use Rattle.sets.proofs.small.share.Goals as goal

pub returns : goal.returns
returns c = meets-is 16 _ _ (omega arith) (omega arith)
