use mathlib.Core.Path.{ap, ◌∙◌}
use Rattle.sets.specs.Sets.{lowest}
use Rattle.sets.specs.Stored.{width}
use Rattle.sets.proofs.Lists.{pick-lt, pick-ge}
use Rattle.sets.proofs.People.place.Goals as goal

pub returns-then-size-most : goal.returns-then-size-most
returns-then-size-most c = pick-lt _ _ _ _ (rw c.size.ensures at c.if-size-most.true)

pub returns-else-size-most : goal.returns-else-size-most
returns-else-size-most c = c.lowest.ensures ∙ ap (lowest width) c.difference.ensures ∙ pick-ge _ _ _ _ (rw c.size.ensures at c.if-size-most.false)
