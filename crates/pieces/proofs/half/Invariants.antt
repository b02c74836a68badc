use Rattle.pieces.specs.Pieces.{Halved}
use Rattle.pieces.proofs.half.Given as goal

abbrev pub invariant-loop-x : goal.invariant-loop-x
invariant-loop-x l = Halved l.waits l.whole l.j l.x l.set
