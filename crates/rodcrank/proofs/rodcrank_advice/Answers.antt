use Rattle.rodcrank.proofs.Replying.{advice-told}
use Rattle.rodcrank.proofs.rodcrank_advice.Goals as goal

pub returns : goal.returns
returns c = advice-told _ _ _ _ c.position_of-p.ensures _ _ c.advise.ensures c.advice_reply.ensures
