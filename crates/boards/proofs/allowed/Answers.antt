use Rattle.boards.specs.Board.{allowed_on}
use Rattle.boards.proofs.allowed.Goals as goal

pub returns : goal.returns
unfolding allowed_on
returns c = c.at.ensures
