use Prim.Native.Nat.{◌-◌}
use native.Mathlib.Omega.{arith}
use mathlib.Core.Path.{ap}
use Rattle.sets.proofs.Records.{number-none}
use Rattle.pieces.proofs.Rows.{most, same_row, different-row, table-row}
use Rattle.pieces.proofs.row.Goals as goal

pub returns-then-k-eq0 : goal.returns-then-k-eq0
returns-then-k-eq0 c = grind (arith, same_row, number-none, ap)

pub returns-then-k-eq1 : goal.returns-then-k-eq1
returns-then-k-eq1 c = grind (arith, different-row)

pub overflow_mul-k : goal.overflow_mul-k
overflow_mul-k c = let a = c.args in omega (arith, most (a.k - 2) a.people (omega arith) (omega arith))

pub overflow_add-k : goal.overflow_add-k
overflow_add-k c = let a = c.args in omega (arith, most (a.k - 2) a.people (omega arith) (omega arith))

pub returns : goal.returns
returns c = grind (arith, table-row)
