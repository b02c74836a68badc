use mathlib.Core.Path.{refl, sym, ◌∙◌}
use Rattle.cases.proofs.Positions.{persons-length}
use Rattle.refusals.specs.Refusals.{Good}
use Rattle.planner.proofs.Answering.{turned, first_good, position-good, steps-left, advice-judged, advice-refused, advice-answered}
use native.Mathlib.Omega.{arith}
use Rattle.planner.proofs.advise_ready.Goals as goal

pub returns-in_err-or_else : goal.returns-in_err-or_else
returns-in_err-or_else c =
    let judged = advice-judged _ _ _ c.args.ready.ready _ _ _ _ c.laid-board.ensures.words c.judge_position.ensures c.judge_absent.ensures in
    turned _ c.from_residual.ensures.1 (advice-refused _ _ _ c.args.ready.ready _ _ _ (judged ∙ sym c.in_err-or_else.ensures))

pub overflow_sub-left : goal.overflow_sub-left
overflow_sub-left c =
    let accepted = sym (first_good _ _ Good c.in_ok-or_else.ensures refl) ∙ c.judge_position.ensures in
    let good = position-good _ _ c.args.ready.ready _ c.laid-board.ensures.words accepted in
    omega (arith, good.short, persons-length c.args.position)

pub returns : goal.returns
returns c =
    let judged = advice-judged _ _ _ c.args.ready.ready _ _ _ _ c.laid-board.ensures.words c.judge_position.ensures c.judge_absent.ensures in
    let accepted = sym (first_good _ _ Good c.in_ok-or_else.ensures refl) ∙ c.judge_position.ensures in
    let good = position-good _ _ c.args.ready.ready _ c.laid-board.ensures.words accepted in
    advice-answered _ _ _ c.args.ready.ready _ _ _ _ _ _ _ _ (judged ∙ sym c.in_ok-or_else.ensures) good c.laid-board.ensures.words c.laid-board.ensures.people
    (steps-left c.args.ready.case c.args.position) c.filled.ensures c.advice_said.ensures c.advice_walk-walked.ensures
