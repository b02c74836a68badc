use Rattle.asking.proofs.Laid.{good-ready}
use mathlib.Core.Path.{◌∙◌}
use Rattle.planner.proofs.Answering.{turned, question-judged, away-turned, away-ready}
use Rattle.planner.proofs.away_good.Goals as goal

pub returns-in_err-judge_number : goal.returns-in_err-judge_number
returns-in_err-judge_number c =
    turned _ c.from_residual.ensures.1 (away-turned _ _ _ _ _ (question-judged _ _ _ c.args.good.good c.in_err-judge_number.ensures))

pub returns : goal.returns
returns c =
    c.away_ready.ensures ∙ away-ready _ _ _ _ (question-judged _ _ _ c.args.good.good c.in_ok-judge_number.ensures)

pub invariant_of-away_ready : goal.invariant_of-away_ready
invariant_of-away_ready c = record { ready = good-ready _ c.args.good.good }
