use Rattle.tries.proofs.Alike.{spent-over, spent-within}
use Rattle.tries.proofs.everyone.rest_alike.Goals as goal

pub returns-then-limit-all : goal.returns-then-limit-all
returns-then-limit-all c = spent-over _ _ _ _ _ c.size-tried.ensures c.size-fit.ensures c.if-limit-all.true

pub returns : goal.returns
returns c = spent-within _ _ _ _ _ c.size-tried.ensures c.size-fit.ensures c.if-limit-all.false
