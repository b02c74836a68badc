use Rattle.boards.specs.Board.{loops_from}
use Rattle.pieces.specs.Pieces.{loops_in, Put}
use Rattle.laying.proofs.put_loops.Given as goal

abbrev pub invariant-loop-k : goal.invariant-loop-k
invariant-loop-k l = Put loops_from l.n.kinds (loops_in l.initial.board l.n.people) l.initial.board l.k l.board
