use mathlib.Core.Path.{refl}
use Rattle.planner.proofs.Answering.{plan-walked}
use Rattle.planner.proofs.plan_ready.Goals as goal

pub returns : goal.returns
returns c =
    plan-walked _ _ _ _ _ _ c.args.ready.ready c.laid.ensures.words c.laid.ensures.people refl c.plan_laid.ensures
