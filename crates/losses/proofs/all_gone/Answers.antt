-- With all gone who may go, a turn of the away side is a plan walk without them.
use mathlib.Core.Path.{sym, ap, ◌∙◌}
use Rattle.tries.specs.Outcomes.{turn_outcome}
use Rattle.losses.proofs.all_gone.Goals as goal

pub returns-in-Limit : goal.returns-in-Limit
returns-in-Limit c = λ q a. sym (ap (turn_outcome _ _) c.in-Limit.is) ∙ c.without_plan-turned.ensures q a

pub returns-in-Beaten : goal.returns-in-Beaten
returns-in-Beaten c = λ q a. sym (ap (turn_outcome _ _) c.in-Beaten.is) ∙ c.without_plan-turned.ensures q a

pub returns-in-Holds : goal.returns-in-Holds
returns-in-Holds c = λ q a. sym (ap (turn_outcome _ _) c.in-Holds.is) ∙ c.without_plan-turned.ensures q a
