use mathlib.Core.Path.{ap, ◌∙◌}
use Prim.Native.Nat.{ℕ, ◌-◌}
use native.Mathlib.Omega.{arith}
use lib.Pow.{pow_pos}
use Rattle.sets.specs.Stored.{width, number}
use Rattle.sets.proofs.Masks.{shl_one, everybody-low, everybody-all}
use Rattle.sets.proofs.People.everybody.Goals as goal

pub overflow_sub-result : goal.overflow_sub-result
overflow_sub-result c = omega (arith, shl_one width c.args.n c.if-n-lt-WIDTH.true, pow_pos c.args.n)

pub returns-then-n-lt-WIDTH : goal.returns-then-n-lt-WIDTH
unfolding number
returns-then-n-lt-WIDTH c = ap (λ (x : ℕ). x - 1) (shl_one width _ c.if-n-lt-WIDTH.true) ∙ everybody-low width _ (omega arith)

pub returns-else-n-lt-WIDTH : goal.returns-else-n-lt-WIDTH
unfolding number
returns-else-n-lt-WIDTH c = everybody-all width _ c.if-n-lt-WIDTH.false
