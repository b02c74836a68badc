use Rattle.std.proofs.Common.{ap, ◌∙◌}
use Rattle.refusals.specs.Refusals.{judged_by}
use Rattle.judging.proofs.Entries.{same-checks}
use Rattle.judging.proofs.Turns.{turn-over, turn-ends}
use Rattle.judging.proofs.judge_entries.Goals as goal

pub returns-in_err-judge_people : goal.returns-in_err-judge_people
returns-in_err-judge_people c =
    turn-ends _ _ c.judge_people.ensures c.in_err-judge_people.was c.from_residual.ensures.1
    ∙ ap judged_by (same-checks _)

pub returns-in_err-judge_roles : goal.returns-in_err-judge_roles
returns-in_err-judge_roles c =
    turn-over _ _ c.judge_people.ensures c.in_ok-judge_people.was
    (turn-ends _ _ c.judge_roles.ensures c.in_err-judge_roles.was c.from_residual-in_err-judge_roles.ensures.1)
    ∙ ap judged_by (same-checks _)

pub returns-in_err-judge_order : goal.returns-in_err-judge_order
returns-in_err-judge_order c =
    turn-over _ _ c.judge_people.ensures c.in_ok-judge_people.was
    (turn-over _ _ c.judge_roles.ensures c.in_ok-judge_roles.was
    (turn-ends _ _ c.judge_order.ensures c.in_err-judge_order.was c.from_residual-in_err-judge_order.ensures.1))
    ∙ ap judged_by (same-checks _)

pub returns-in_err-judge_rows : goal.returns-in_err-judge_rows
returns-in_err-judge_rows c =
    turn-over _ _ c.judge_people.ensures c.in_ok-judge_people.was
    (turn-over _ _ c.judge_roles.ensures c.in_ok-judge_roles.was
    (turn-over _ _ c.judge_order.ensures c.in_ok-judge_order.was
    (turn-ends _ _ c.judge_rows.ensures c.in_err-judge_rows.was c.from_residual-in_err-judge_rows.ensures.1)))
    ∙ ap judged_by (same-checks _)

pub returns : goal.returns
returns c =
    turn-over _ _ c.judge_people.ensures c.in_ok-judge_people.was
    (turn-over _ _ c.judge_roles.ensures c.in_ok-judge_roles.was
    (turn-over _ _ c.judge_order.ensures c.in_ok-judge_order.was
    (turn-over _ _ c.judge_rows.ensures c.in_ok-judge_rows.was c.judge_rules.ensures)))
    ∙ ap judged_by (same-checks _)
