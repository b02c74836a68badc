use Rattle.asking.proofs.Laid.{good-ready}
use Rattle.planner.proofs.Answering.{turned, question-judged, question-refused, question-answered}
use Rattle.planner.proofs.ask_good.Goals as goal

pub returns-in_err-judge_number : goal.returns-in_err-judge_number
returns-in_err-judge_number c =
    turned _ c.from_residual.ensures.1 (question-refused _ _ _ _ _ (question-judged _ _ _ c.args.good.good c.in_err-judge_number.ensures))

pub returns : goal.returns
returns c =
    question-answered _ _ _ _ _ (question-judged _ _ _ c.args.good.good c.in_ok-judge_number.ensures) c.ask_ready.ensures

pub invariant_of-ask_ready : goal.invariant_of-ask_ready
invariant_of-ask_ready c = record { ready = good-ready _ c.args.good.good }
