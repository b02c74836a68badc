use mathlib.Core.Path.{ap, ◌∙◌}
use Rattle.sets.specs.Stored.{number}
use Rattle.tries.proofs.Away.{same-nobody}
use Rattle.tries.proofs.Turns.{nobody-shown}
use Rattle.planner.specs.OnBoard.{plan_answer_on}
use Rattle.planner.proofs.plan_laid.Goals as goal

pub returns : goal.returns
returns c =
    let nobody = same-nobody (number c.plan_walk-walked.result.met) (nobody-shown c.none.ensures) in
    c.plan_said.ensures ∙ ap (plan_answer_on _) (rw c.start.ensures at (c.plan_walk-walked.ensures.own 0 nobody))
