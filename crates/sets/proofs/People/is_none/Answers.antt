use mathlib.Core.Path.{refl}
use Rattle.sets.specs.Stored.{number}
use Rattle.sets.proofs.People.is_none.Goals as goal

pub returns : goal.returns
unfolding number
returns c = refl
