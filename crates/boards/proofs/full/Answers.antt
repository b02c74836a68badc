use Rattle.boards.proofs.Halves.{full_is}
use Rattle.boards.proofs.full.Goals as goal

pub returns : goal.returns
returns c = full_is _ _ _ _ _ c.in_both.ensures c.with_step-filled.ensures
