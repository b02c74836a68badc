use native.Mathlib.Omega.{arith}
use Prim.Native.Nat.{ℕ, ◌≤◌}
use Rattle.sets.specs.Sets.{has, size}
use Rattle.sets.specs.Stored.{width, number}
use Rattle.sets.proofs.Counting.{count_most}
use Rattle.leaps.proofs.most_of.Goals as goal

few : (s : ℕ) → size width s ≤ width
unfolding size
few s = count_most (has s) width

pub overflow_mul-result-2 : goal.overflow_mul-result-2
overflow_mul-result-2 c = omega (arith, c.size.ensures, few (number c.common.result))
