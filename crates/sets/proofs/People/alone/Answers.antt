use mathlib.Core.Path.{◌∙◌}
use Rattle.sets.specs.Stored.{width, number}
use Rattle.sets.proofs.Masks.{shl_one, alone-is, alone-nobody}
use Rattle.sets.proofs.People.alone.Goals as goal

pub returns-then-v-lt-WIDTH : goal.returns-then-v-lt-WIDTH
unfolding number
returns-then-v-lt-WIDTH c = shl_one width _ c.if-v-lt-WIDTH.true ∙ alone-is width _ c.if-v-lt-WIDTH.true

pub returns-else-v-lt-WIDTH : goal.returns-else-v-lt-WIDTH
unfolding number
returns-else-v-lt-WIDTH c = alone-nobody width _ c.if-v-lt-WIDTH.false
