use Rattle.boards.specs.Board.{columns_from}
use Rattle.pieces.specs.Pieces.{column_in}
use Rattle.laying.specs.Putting.{PutBlocks}
use Rattle.laying.proofs.put_columns.Given as goal

abbrev pub invariant-loop-k : goal.invariant-loop-k
invariant-loop-k l = PutBlocks columns_from l.n.kinds l.n.people (column_in l.initial.board) l.initial.board l.k l.board
