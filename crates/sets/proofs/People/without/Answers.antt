use mathlib.Core.Path.{ap, ◌∙◌}
use Rattle.sets.specs.Sets.{difference}
use Rattle.sets.specs.Stored.{width}
use Rattle.sets.proofs.Masks.{without_is}
use Rattle.sets.proofs.People.without.Goals as goal

pub returns : goal.returns
returns c = c.difference.ensures ∙ ap (difference width _) c.alone.ensures ∙ without_is width _ _
