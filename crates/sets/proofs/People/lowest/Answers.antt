use mathlib.Core.Path.{sym, ap, ◌∙◌}
use native.Mathlib.Omega.{arith}
use lib.Count.{trailing_le}
use Rattle.sets.specs.Sets.{lowest}
use Rattle.sets.specs.Stored.{width, number}
use Rattle.sets.proofs.Members.{lowest-empty, lowest-trailing}
use Rattle.sets.proofs.People.lowest.Goals as goal

pub overflow_cast-result : goal.overflow_cast-result
overflow_cast-result c = omega (arith, trailing_le width c.args.self.bits)

pub returns-then-bits-eq0 : goal.returns-then-bits-eq0
unfolding number
returns-then-bits-eq0 c = sym (ap (lowest width) c.if-bits-eq0.true ∙ lowest-empty width)

pub returns-else-bits-eq0 : goal.returns-else-bits-eq0
unfolding number
returns-else-bits-eq0 c = sym (lowest-trailing width _ (omega arith) c.if-bits-eq0.false)
