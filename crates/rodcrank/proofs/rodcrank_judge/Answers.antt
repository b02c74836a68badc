use mathlib.Core.Path.{ap, ◌∙◌}
use Rattle.replies.specs.Replies.{says_yes, said_reply}
use Rattle.rodcrank.specs.Calls.{if_good, judge_file}
use Rattle.rodcrank.proofs.rodcrank_judge.Goals as goal

pub returns-in-Ok : goal.returns-in-Ok
unfolding judge_file
returns-in-Ok c = c.said.ensures ∙ ap (λ j. if_good j (said_reply says_yes 0)) c.in-Ok.ensures

pub returns-in-Err : goal.returns-in-Err
unfolding judge_file
returns-in-Err c = c.refused.ensures ∙ ap (λ j. if_good j (said_reply says_yes 0)) c.in-Err.ensures
