use Rattle.pieces.specs.Pieces.{row_in}
use Rattle.laying.specs.Putting.{PutBlocks}
use Rattle.laying.proofs.put_rows.Given as goal

abbrev pub invariant-loop-k : goal.invariant-loop-k
invariant-loop-k l = PutBlocks 0 l.n.kinds l.n.people (row_in l.words l.n.people) l.initial.board l.k l.board
