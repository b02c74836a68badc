use Rattle.std.proofs.Common.{◌∙◌, arith}
use Rattle.judging.proofs.Entries.{past-byte}
use Rattle.judging.proofs.bad_step.Goals as goal

pub returns-then-past : goal.returns-then-past
returns-then-past c = simp (c.if-past.true, past-byte _ _ (omega arith) c.past.ensures ∙ c.if-past.true)

pub returns-else-past : goal.returns-else-past
returns-else-past c = simp (past-byte _ _ (omega arith) c.past.ensures ∙ c.if-past.false)
