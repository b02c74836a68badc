use native.Mathlib.Omega.{arith}
use Rattle.pieces.proofs.Columns.{column-row, column-gathered}
use Rattle.pieces.proofs.column.Goals as goal

pub returns-then-k-lt2 : goal.returns-then-k-lt2
returns-then-k-lt2 c = column-row _ _ _ _ c.if-k-lt2.true c.row_on.ensures

pub returns : goal.returns
returns c = column-gathered _ _ _ _ (omega (arith, c.if-k-lt2.false)) c.gathered.ensures
