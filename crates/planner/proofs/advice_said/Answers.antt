use mathlib.Core.Path.{sym, ap}
use Rattle.tries.specs.Outcomes.{advised_outcome}
use Rattle.planner.specs.Answers.{advice_answer}
use Rattle.planner.specs.OnBoard.{person_told}
use Rattle.planner.proofs.advice_said.Goals as goal

pub returns-in-Limit : goal.returns-in-Limit
returns-in-Limit c = sym (ap (λ w. advice_answer (person_told (advised_outcome c.args.limit w))) c.in-Limit.is)

pub returns-in-Nobody : goal.returns-in-Nobody
returns-in-Nobody c = sym (ap (λ w. advice_answer (person_told (advised_outcome c.args.limit w))) c.in-Nobody.is)

pub returns-in-Move : goal.returns-in-Move
returns-in-Move c = sym (ap (λ w. advice_answer (person_told (advised_outcome c.args.limit w))) c.in-Move.is)
