use Rattle.planner.specs.declared.Question.TheVariants.{Decremental}
use Rattle.rodcrank.specs.Calls.{decremental_file}
use Rattle.rodcrank.proofs.Replying.{question-told}
use Rattle.rodcrank.proofs.rodcrank_decremental.Goals as goal

pub returns : goal.returns
unfolding decremental_file
returns c = question-told _ Decremental _ _ c.ask.ensures c.verdict_reply.ensures
