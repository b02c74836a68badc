use mathlib.Core.Path.{refl}
use Rattle.telling.specs.Held.{held}
use Rattle.telling.proofs.text.Text.empty.Goals as goal

pub returns : goal.returns
unfolding held
returns c = refl
