use mathlib.Core.Path.{◌≡◌, ap}
use mathlib.Core.List.{◌∷◌, ◌++◌}
use Rattle.std.proofs.Common.{arith}
use Rattle.std.proofs.lemmas.Grind.{common_steps}
use Rattle.cases.specs.Positions.{persons}
use Rattle.telling.specs.Lines.{bytes}
use Rattle.telling.specs.Telling.{listed, trials, plan_words, plan_line}
use Rattle.telling.proofs.Sayings.{answer-line, shown-line}
use Rattle.telling.proofs.text_lines.put_plan.Goals as goal

pub returns-in-Err : goal.returns-in-Err
unfolding plan_line
returns-in-Err c =
    answer-line _ _ _ _ _ _ _ c.put-named.ensures c.put.ensures _ (ap plan_words c.in-Err.is) c.end_refused.ensures

pub returns-in-Ok-Limit : goal.returns-in-Ok-Limit
unfolding plan_line
returns-in-Ok-Limit c =
    let words : plan_words c.args.answer ≡ bytes "limit" ∷ trials c.in-Ok-Limit.trials = grind (arith, common_steps) in
    answer-line _ _ _ _ _ _ _ c.put-named.ensures c.put-in-Ok-Limit.ensures _ words c.end_trials.ensures

pub returns-in-Ok-No : goal.returns-in-Ok-No
unfolding plan_line
returns-in-Ok-No c =
    let words : plan_words c.args.answer ≡ bytes "no" ∷ trials c.in-Ok-No.trials = grind (arith, common_steps) in
    answer-line _ _ _ _ _ _ _ c.put-named.ensures c.put-in-Ok-No.ensures _ words c.end_trials-in-Ok-No.ensures

pub returns-in-Ok-Yes : goal.returns-in-Ok-Yes
unfolding plan_line
returns-in-Ok-Yes c =
    let said = c.in-Ok-Yes in
    let words : plan_words c.args.answer ≡ bytes "yes" ∷ (listed (persons said.plan) ++ trials said.trials) = grind (arith, common_steps) in
    shown-line _ _ _ _ _ _ _ c.put-named.ensures c.put-in-Ok-Yes.ensures _ _ _ words
    c.put_persons.ensures c.end_trials-in-Ok-Yes.ensures
