use mathlib.Core.Path.{refl, sym}
use native.Mathlib.Omega.{arith}
use Rattle.sets.specs.Sets.{has}
use Rattle.sets.specs.Stored.{width, number}
use Rattle.sets.proofs.Bits.{has-beyond}
use Rattle.sets.proofs.People.has.Goals as goal

pub returns-then-v-lt-WIDTH : goal.returns-then-v-lt-WIDTH
unfolding number has
returns-then-v-lt-WIDTH c = refl

pub returns-else-v-lt-WIDTH : goal.returns-else-v-lt-WIDTH
unfolding number has
returns-else-v-lt-WIDTH c = sym (has-beyond width _ _ (omega arith) c.if-v-lt-WIDTH.false)
