-- The steps that must precede a step.
use mathlib.Core.Path.{◌≡◌}
use Prim.Native.Nat.{ℕ, ◌-◌, ◌^◌, ◌<◌}
use native.Mathlib.Omega.{arith}
use Rattle.sets.proofs.Masks.{everybody-low}
use Rattle.cases.specs.declared.StepEntry.{StepEntry}
use Rattle.cases.specs.Case.{most_steps}
use Rattle.pieces.specs.declared.Order.TheVariants as order
use Rattle.pieces.specs.Pieces.{preceding_in}

pub before-listed : (step : StepEntry) (s : ℕ) → s < most_steps → 2 ^ s - 1 ≡ preceding_in step order.Listed s
before-listed step s l = everybody-low most_steps s (omega arith)
