use Prim.Native.Nat.{ℕ, ◌-◌}
use mathlib.Core.Path.{ap, ◌∙◌}
use native.Mathlib.Omega.{arith}
use lib.Pow.{pow_pos}
use Rattle.sets.proofs.Masks.{shl_one, everybody-low, everybody-all}
use Rattle.cases.specs.Case.{most_rules}
use Rattle.pieces.proofs.first_of.Goals as goal

pub overflow_sub-result : goal.overflow_sub-result
overflow_sub-result c = let n = c.args.n in omega (arith, shl_one 32 n (omega arith), pow_pos n)

pub returns-then-n-lt32 : goal.returns-then-n-lt32
returns-then-n-lt32 c =
    let n = c.args.n in
    ap (λ (x : ℕ). x - 1) (shl_one 32 n (omega arith)) ∙ everybody-low most_rules n (omega arith)

pub returns-else-n-lt32 : goal.returns-else-n-lt32
returns-else-n-lt32 c = everybody-all most_rules _ (omega arith)
