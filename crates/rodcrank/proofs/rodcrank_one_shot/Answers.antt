use Rattle.planner.specs.declared.Question.TheVariants.{OneShot}
use Rattle.rodcrank.specs.Calls.{one_shot_file}
use Rattle.rodcrank.proofs.Replying.{question-told}
use Rattle.rodcrank.proofs.rodcrank_one_shot.Goals as goal

pub returns : goal.returns
unfolding one_shot_file
returns c = question-told _ OneShot _ _ c.ask.ensures c.verdict_reply.ensures
