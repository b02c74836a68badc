use Rattle.boards.proofs.Looked.{agree_same}
use Rattle.losses.proofs.away_turn.Goals as goal

pub away_from-requires : goal.away_from-requires
away_from-requires c = c.requires

pub returns : goal.returns
returns c = c.away_from.ensures _ (agree_same _ _)
