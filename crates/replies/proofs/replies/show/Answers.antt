use Rattle.planner.proofs.Answering.{at-start}
use Rattle.replies.proofs.replies.show.Goals as goal

pub returns : goal.returns
returns c = simp (c.reply.ensures, at-start c.start.ensures)
