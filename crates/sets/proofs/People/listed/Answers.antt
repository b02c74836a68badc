use mathlib.Core.Path.{sym, ◌∙◌}
use borrow.Author.Tests.{not-true, not-false}
use Rattle.sets.proofs.People.listed.Goals as goal

pub returns-then-not-within : goal.returns-then-not-within
returns-then-not-within c = simp (sym c.within.ensures ∙ not-true _ c.if-not-within.true-raw)

pub returns-then-not-within-2 : goal.returns-then-not-within-2
returns-then-not-within-2 c = simp (sym c.within.ensures ∙ not-false _ c.if-not-within.false-raw, sym c.within-2.ensures ∙ not-true _ c.if-not-within-2.true-raw)

pub returns : goal.returns
returns c = simp (sym c.within.ensures ∙ not-false _ c.if-not-within.false-raw, sym c.within-2.ensures ∙ not-false _ c.if-not-within-2.false-raw, c.size.ensures)
