use mathlib.Core.Path.{◌≡◌, ap}
use mathlib.Core.List.{◌∷◌, ◌++◌}
use Rattle.std.proofs.Common.{arith}
use Rattle.std.proofs.lemmas.Grind.{common_steps}
use Rattle.sets.specs.Sets.{members}
use Rattle.sets.specs.Stored.{width, number}
use Rattle.telling.specs.Lines.{bytes}
use Rattle.telling.specs.Telling.{listed, trials, verdict_words, verdict_line}
use Rattle.telling.proofs.Sayings.{answer-line, shown-line}
use Rattle.telling.proofs.text_lines.put_verdict.Goals as goal

pub returns-in-Err : goal.returns-in-Err
unfolding verdict_line
returns-in-Err c =
    answer-line _ _ _ _ _ _ _ c.put-named.ensures c.put.ensures _ (ap verdict_words c.in-Err.is) c.end_refused.ensures

pub returns-in-Ok-Limit : goal.returns-in-Ok-Limit
unfolding verdict_line
returns-in-Ok-Limit c =
    let words : verdict_words c.args.answer ≡ bytes "limit" ∷ trials c.in-Ok-Limit.trials = grind (arith, common_steps) in
    answer-line _ _ _ _ _ _ _ c.put-named.ensures c.put-in-Ok-Limit.ensures _ words c.end_trials.ensures

pub returns-in-Ok-Yes : goal.returns-in-Ok-Yes
unfolding verdict_line
returns-in-Ok-Yes c =
    let words : verdict_words c.args.answer ≡ bytes "yes" ∷ trials c.in-Ok-Yes.trials = grind (arith, common_steps) in
    answer-line _ _ _ _ _ _ _ c.put-named.ensures c.put-in-Ok-Yes.ensures _ words c.end_trials-in-Ok-Yes.ensures

pub returns-in-Ok-No : goal.returns-in-Ok-No
unfolding verdict_line
returns-in-Ok-No c =
    let said = c.in-Ok-No in
    let words : verdict_words c.args.answer ≡ bytes "no" ∷ (listed (members width (number said.shown)) ++ trials said.trials) = grind (arith, common_steps) in
    shown-line _ _ _ _ _ _ _ c.put-named.ensures c.put-in-Ok-No.ensures _ _ _ words
    c.put_set.ensures c.end_trials-in-Ok-No.ensures
