use native.Mathlib.Omega.{arith}
use borrow.Author.Tests.{eq-eqb, ne_eqb}
use Rattle.refusals.specs.CaseChecks.{right_size}
use Rattle.judging.proofs.Entries.{size-byte}
use Rattle.judging.proofs.right_size.Goals as goal

pub returns-then-form-eq1 : goal.returns-then-form-eq1
unfolding right_size
returns-then-form-eq1 c = simp (eq-eqb _ _ c.if-form-eq1.true, size-byte _ (omega arith) c.size-many.ensures)

pub returns-else-form-eq1 : goal.returns-else-form-eq1
unfolding right_size
returns-else-form-eq1 c = simp (ne_eqb _ _ c.if-form-eq1.false, size-byte _ (omega arith) c.size-many.ensures)
