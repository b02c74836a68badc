use Rattle.boards.proofs.Looked.{agree_same}
use Rattle.boards.proofs.fits.Goals as goal

pub fitting-requires : goal.fitting-requires
fitting-requires c = tt

pub returns : goal.returns
returns c = c.fitting.ensures _ (agree_same _ _)
