use mathlib.Core.Path.{refl}
use Rattle.planner.proofs.Answering.{question-walked}
use Rattle.planner.proofs.ask_ready.Goals as goal

pub returns : goal.returns
returns c =
    question-walked c.args.question c.args.ready.case c.args.t _ _ _ _ _ c.args.ready.ready c.laid.ensures.words c.laid.ensures.people
    refl c.ask_laid.ensures
