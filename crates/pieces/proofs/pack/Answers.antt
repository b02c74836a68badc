use mathlib.Core.Path.{refl}
use Rattle.pieces.specs.Pieces.{packed}
use Rattle.pieces.proofs.pack.Goals as goal

pub returns : goal.returns
unfolding packed
returns c = refl
