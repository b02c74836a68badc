use Rattle.rodcrank.proofs.Replying.{plan-told}
use Rattle.rodcrank.proofs.rodcrank_plan.Goals as goal

pub returns : goal.returns
returns c = plan-told _ _ c.ask_plan.ensures c.plan_reply.ensures
