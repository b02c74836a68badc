use mathlib.Core.Path.{refl}
use native.Mathlib.Omega.{arith}
use Rattle.cases.proofs.Positions.{placed-full, placed-is}
use Rattle.cases.proofs.Position.placed.Goals as goal

pub returns-then-at-ge-STEPS : goal.returns-then-at-ge-STEPS
returns-then-at-ge-STEPS c = placed-full _ _ c.if-at-ge-STEPS.true

pub returns : goal.returns
returns c =
    let room = c.well_formed.0.1.1.0.1.0.1 in
    placed-is _ _ _ c.if-at-ge-STEPS.false (omega arith) refl
