use mathlib.Core.Path.{sym, ap, ◌∙◌}
use Rattle.sets.specs.Sets.{size}
use Rattle.sets.specs.Stored.{width}
use Rattle.sets.proofs.Counting.{size-empty}
use Rattle.sets.proofs.Masks.{before-is}
use borrow.Author.Tests.{eqb-true}
use Rattle.sets.proofs.People.before.Goals as goal

pub returns-then-is_none : goal.returns-then-is_none
returns-then-is_none c =
    sym (size-empty width)
    ∙ ap (size width) (sym (eqb-true _ _ (sym c.is_none.ensures ∙ c.if-is_none.true)))
    ∙ before-is width _ _ _ _ c.everybody.ensures c.common-earlier.ensures

pub returns : goal.returns
returns c = c.size.ensures ∙ before-is width _ _ _ _ c.everybody.ensures c.common-earlier.ensures
