use Rattle.std.proofs.Common.{arith}
use Rattle.sets.specs.Stored.{number}
use Rattle.lines.specs.Moves.{line_at}
use Rattle.lines.proofs.Passing.{passed-few, passed_start, passed-more, passed-most}
use Rattle.lines.proofs.moves_between.Goals as goal

pub loop-i-init : goal.loop-i-init
loop-i-init c = passed_start _ _ _

pub overflow_add-sum : goal.overflow_add-sum
unfolding line_at
overflow_add-sum c =
    let l = c.loop-i in
    let a = c.args in
    omega (arith, l.invariant, passed-most a.lines a.at a.to l.i, c.passed_in-sum.ensures, passed-few (number (line_at a.lines l.i).tried) l.i a.at a.to)

pub loop-i-preserved : goal.loop-i-preserved
unfolding line_at
loop-i-preserved c = passed-more _ _ _ _ _ _ c.loop-i.invariant c.passed_in-sum.ensures
