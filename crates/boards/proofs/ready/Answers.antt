use Rattle.boards.proofs.Halves.{ready-is}
use Rattle.boards.proofs.ready.Goals as goal

pub returns : goal.returns
returns c = ready-is _ _ _ _ c.in_both.ensures c.less.ensures
