use Rattle.planner.specs.declared.Question.TheVariants.{Static}
use Rattle.rodcrank.specs.Calls.{static_file}
use Rattle.rodcrank.proofs.Replying.{question-told}
use Rattle.rodcrank.proofs.rodcrank_static.Goals as goal

pub returns : goal.returns
unfolding static_file
returns c = question-told _ Static _ _ c.ask.ensures c.verdict_reply.ensures
