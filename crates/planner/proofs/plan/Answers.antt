use mathlib.Core.Path.{sym}
use Rattle.planner.proofs.Answering.{plan-refused}
use Rattle.planner.proofs.plan.Goals as goal

pub returns-in-Err : goal.returns-in-Err
returns-in-Err c = plan-refused _ _ _ (sym c.in-Err.ensures)
