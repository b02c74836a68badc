use Rattle.asking.proofs.Laid.{good-ready}
use Rattle.planner.proofs.Answering.{plan-answered}
use Rattle.planner.proofs.plan_good.Goals as goal

pub returns : goal.returns
returns c = plan-answered _ _ _ c.args.good.good c.plan_ready.ensures

pub invariant_of-plan_ready : goal.invariant_of-plan_ready
invariant_of-plan_ready c = record { ready = good-ready _ c.args.good.good }
