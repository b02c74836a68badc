use Rattle.boards.specs.Board.{named_on}
use Rattle.boards.proofs.named.Goals as goal

pub returns : goal.returns
unfolding named_on
returns c = c.number_at.ensures
