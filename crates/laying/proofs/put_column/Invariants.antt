use Prim.Native.Nat.{◌+◌, ◌*◌}
use Rattle.cases.specs.Case.{most_people}
use Rattle.boards.specs.Board.{columns_from}
use Rattle.pieces.specs.Pieces.{column_in, Put}
use Rattle.laying.proofs.put_column.Given as goal

abbrev pub invariant-loop-v : goal.invariant-loop-v
invariant-loop-v l = Put (columns_from + l.k * most_people) l.fn.n.people (column_in l.initial.board l.k) l.initial.board l.v l.board
