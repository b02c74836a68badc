use mathlib.Core.Path.{sym, ap, ◌∙◌}
use Rattle.tries.specs.Outcomes.{verdict_outcome}
use Rattle.planner.specs.Answers.{verdict_answer}
use Rattle.planner.proofs.Sayings.{verdict-shown}
use Rattle.planner.proofs.verdict_said.Goals as goal

pub returns-in-Limit : goal.returns-in-Limit
returns-in-Limit c = sym (ap (λ w. verdict_answer (verdict_outcome c.args.limit w)) c.in-Limit.is)

pub returns-in-Yes : goal.returns-in-Yes
returns-in-Yes c = sym (ap (λ w. verdict_answer (verdict_outcome c.args.limit w)) c.in-Yes.is)

pub returns-in-No : goal.returns-in-No
returns-in-No c = verdict-shown c.args.limit _ _ ∙ sym (ap (λ w. verdict_answer (verdict_outcome c.args.limit w)) c.in-No.is)
