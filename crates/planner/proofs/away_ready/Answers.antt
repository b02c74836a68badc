use Rattle.cases.proofs.Positions.{persons-length}
use Rattle.planner.proofs.Answering.{turned, position-good, steps-left, away-judged, away-refused, away-answered}
use native.Mathlib.Omega.{arith}
use Rattle.planner.proofs.away_ready.Goals as goal

pub returns-in_err-judge_position : goal.returns-in_err-judge_position
returns-in_err-judge_position c =
    turned _ c.from_residual.ensures.1
    (away-refused _ _ _ c.args.ready.ready _ _ (away-judged _ _ c.args.ready.ready _ _ c.laid-board.ensures.words c.in_err-judge_position.ensures))

pub overflow_sub-left : goal.overflow_sub-left
overflow_sub-left c =
    let good = position-good _ _ c.args.ready.ready _ c.laid-board.ensures.words c.in_ok-judge_position.ensures in
    omega (arith, good.short, persons-length c.args.position)

pub returns : goal.returns
returns c =
    let judged = away-judged _ _ c.args.ready.ready _ _ c.laid-board.ensures.words c.in_ok-judge_position.ensures in
    let good = position-good _ _ c.args.ready.ready _ c.laid-board.ensures.words c.in_ok-judge_position.ensures in
    away-answered _ _ _ c.args.ready.ready _ _ _ _ _ _ _ judged good c.laid-board.ensures.words c.laid-board.ensures.people
    (steps-left c.args.ready.case c.args.position) c.filled.ensures c.away_said.ensures c.dynamic_walk-walked.ensures
