use Rattle.planner.specs.declared.Question.TheVariants.{Dynamic}
use Rattle.rodcrank.specs.Calls.{dynamic_file}
use Rattle.rodcrank.proofs.Replying.{question-told}
use Rattle.rodcrank.proofs.rodcrank_dynamic.Goals as goal

pub returns : goal.returns
unfolding dynamic_file
returns c = question-told _ Dynamic _ _ c.ask.ensures c.verdict_reply.ensures
