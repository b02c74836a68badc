use mathlib.Core.Path.{sym}
use Rattle.planner.proofs.Answering.{turned, case-judged, away-turned}
use Rattle.planner.proofs.away.Goals as goal

pub returns-in_err-judge_case : goal.returns-in_err-judge_case
returns-in_err-judge_case c =
    turned _ c.from_residual.ensures.1 (away-turned _ _ _ _ _ (case-judged _ _ _ (sym c.in_err-judge_case.ensures)))
