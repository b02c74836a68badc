use Rattle.rodcrank.proofs.Replying.{away-told}
use Rattle.rodcrank.proofs.rodcrank_away.Goals as goal

pub returns : goal.returns
returns c = away-told _ _ _ _ c.position_of-p.ensures _ c.keep_away.ensures c.away_reply.ensures
