use Rattle.cases.specs.Case.{most_steps}
use Rattle.pieces.specs.Pieces.{waiting_on, Put}
use Rattle.pieces.proofs.wait.Given as goal

abbrev pub invariant-loop-x : goal.invariant-loop-x
invariant-loop-x l = Put 0 most_steps (waiting_on l.initial.waits l.on l.i) l.initial.waits l.x l.waits
