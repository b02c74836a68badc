use mathlib.Core.Path.{refl, sym}
use native.Mathlib.Omega.{arith}
use Rattle.sets.specs.Sets.{has}
use Rattle.sets.proofs.Bits.{has-beyond}
use Rattle.sets.proofs.small.holds.Goals as goal

pub returns-then-i-lt16 : goal.returns-then-i-lt16
returns-then-i-lt16 c = unfold has in refl

pub returns-else-i-lt16 : goal.returns-else-i-lt16
returns-else-i-lt16 c = sym (has-beyond 16 _ _ (omega arith) c.if-i-lt16.false)
