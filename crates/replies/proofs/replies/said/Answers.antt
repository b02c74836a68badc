use Rattle.sets.proofs.Records.{number-none}
use Rattle.replies.proofs.replies.said.Goals as goal

pub returns : goal.returns
returns c = simp (c.show.ensures, c.none.ensures, number-none)
