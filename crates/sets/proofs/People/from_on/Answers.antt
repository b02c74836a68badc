use mathlib.Core.Path.{◌∙◌}
use Rattle.sets.specs.Stored.{width}
use Rattle.sets.proofs.Masks.{from-on-is}
use Rattle.sets.proofs.People.from_on.Goals as goal

pub returns : goal.returns
returns c = c.difference.ensures ∙ from-on-is width _ _ _ c.everybody.ensures
