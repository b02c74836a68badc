use Rattle.sets.specs.Stored.{number}
use Rattle.lines.specs.Moves.{Without}
use Rattle.lines.proofs.Lines.without.Given as goal

abbrev pub invariant-loop-i : goal.invariant-loop-i
invariant-loop-i l = Without l.self (number l.absent) l.i l.left
