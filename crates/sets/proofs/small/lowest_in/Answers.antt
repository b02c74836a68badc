use mathlib.Core.Path.{sym, ap, ◌∙◌}
use native.Mathlib.Omega.{arith}
use lib.Count.{trailing_le}
use Rattle.sets.specs.Sets.{lowest}
use Rattle.sets.specs.Stored.{width}
use Rattle.sets.proofs.Members.{lowest-empty, lowest-trailing}
use Rattle.sets.proofs.small.lowest_in.Goals as goal

pub overflow_cast-result : goal.overflow_cast-result
overflow_cast-result c = omega (arith, trailing_le width c.args.set)

pub returns-then-set-eq0 : goal.returns-then-set-eq0
returns-then-set-eq0 c = sym (ap (lowest width) c.if-set-eq0.true ∙ lowest-empty width)

pub returns-else-set-eq0 : goal.returns-else-set-eq0
returns-else-set-eq0 c = sym (lowest-trailing width _ (omega arith) c.if-set-eq0.false)
