use Rattle.std.proofs.Common.{refl, arith}
use Rattle.lines.specs.Moves.{line_at}
use Rattle.lines.proofs.Taking.{without_more}
use Rattle.lines.proofs.Lines.without.Goals as goal

pub loop-i-preserved : goal.loop-i-preserved
unfolding line_at
loop-i-preserved c = without_more _ _ _ _ _ _ c.loop-i.invariant (omega arith) c.left_of.ensures refl
