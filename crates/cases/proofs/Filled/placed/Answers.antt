use native.Mathlib.Omega.{arith}
use Rattle.cases.proofs.Fillings.{placed-none, placed-is}
use Rattle.cases.proofs.Filled.placed.Goals as goal

pub returns-then-at-ge-STEPS : goal.returns-then-at-ge-STEPS
returns-then-at-ge-STEPS c = placed-none _ _ _ c.if-at-ge-STEPS.true

pub returns : goal.returns
returns c = let a = c.args in placed-is a.self a.s.0 a.v c.with_step.result c.with_step.ensures (omega arith)
