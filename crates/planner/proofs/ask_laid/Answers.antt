use mathlib.Core.Path.{ap, ◌∙◌}
use Rattle.planner.specs.Answers.{verdict_answer}
use Rattle.planner.proofs.ask_laid.Goals as goal

pub returns : goal.returns
returns c = c.verdict_said.ensures ∙ ap verdict_answer c.walk-walked.ensures
