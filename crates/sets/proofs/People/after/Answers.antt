use mathlib.Core.Path.{◌∙◌}
use Rattle.sets.specs.Stored.{width}
use Rattle.sets.proofs.Masks.{after_is}
use Rattle.sets.proofs.People.after.Goals as goal

pub returns : goal.returns
returns c = c.difference.ensures ∙ after_is width _ _ _ _ c.everybody.ensures c.with.ensures
