use Rattle.refusals.specs.Refusals.{judged_by}
use Rattle.refusals.proofs.refused_if.Goals as goal

pub returns-then-met : goal.returns-then-met
unfolding judged_by
returns-then-met c = simp c.if-met.true

pub returns-else-met : goal.returns-else-met
unfolding judged_by
returns-else-met c = simp c.if-met.false
