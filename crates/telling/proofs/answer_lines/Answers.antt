use native.Mathlib.Omega.{arith}
use Rattle.planner.specs.declared.Question.TheVariants as question
use Rattle.telling.proofs.Writing.{lines-put}
use Rattle.telling.proofs.Laid.{case-ready, planned-as, asked-as}
use Rattle.telling.proofs.answer_lines.Goals as goal

pub lay_out-words-requires : goal.lay_out-words-requires
lay_out-words-requires c = (case-ready _ _ c.requires).counts

pub overflow_cast-board : goal.overflow_cast-board
overflow_cast-board c = omega (arith, (case-ready _ _ c.requires).counts.people)

pub invariant_of-board : goal.invariant_of-board
invariant_of-board c = record { known = (case-ready _ _ c.requires).counts.people }

pub overflow_cast-steps : goal.overflow_cast-steps
overflow_cast-steps c = omega (arith, (case-ready _ _ c.requires).counts.steps)

pub returns : goal.returns
returns c =
    let laid = c.lay_out-words in
    lines-put _ _ _ _ _ _ _ _ _ _ _ _ _ _ _ _ c.empty.ensures c.put_case.ensures c.put_asked-head.ensures
    (planned-as c.args.case c.args.t _ c.requires laid.ensures c.plan_laid-plan.ensures) c.put_plan.ensures
    (asked-as question.Static c.args.case c.args.t _ c.requires laid.ensures c.ask_laid-fixed.ensures) c.put_verdict-first.ensures
    (asked-as question.Decremental c.args.case c.args.t _ c.requires laid.ensures c.ask_laid-growing.ensures) c.put_verdict-second.ensures
    (asked-as question.OneShot c.args.case c.args.t _ c.requires laid.ensures c.ask_laid-struck.ensures) c.put_verdict-third.ensures
    (asked-as question.Dynamic c.args.case c.args.t _ c.requires laid.ensures c.ask_laid-changing.ensures) c.put_verdict.ensures
