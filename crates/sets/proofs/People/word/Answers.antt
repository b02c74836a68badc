use mathlib.Core.Path.{refl}
use Rattle.sets.specs.Stored.{number}
use Rattle.sets.proofs.People.word.Goals as goal

pub returns : goal.returns
unfolding number
returns c = refl
