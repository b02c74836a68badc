use mathlib.Core.Path.{ap, ◌∙◌}
use Rattle.sets.specs.Sets.{joined}
use Rattle.sets.specs.Stored.{width}
use Rattle.sets.proofs.Masks.{with-is}
use Rattle.sets.proofs.People.with.Goals as goal

pub returns : goal.returns
returns c = c.joined.ensures ∙ ap (joined width _) c.alone.ensures ∙ with-is width _ _
