-- Of some people those with whom every rule is kept that is due: one rule after the other, and the steps of those that were asked.
use borrow.Author.Tests.{eqb-true}
use mathlib.Core.Path.{sym, ap, ◌∙◌}
use native.Mathlib.Omega.{arith}
use Rattle.sets.specs.Sets.{joined}
use Rattle.sets.specs.Stored.{number}
use Rattle.cases.specs.Case.{most_steps}
use Rattle.boards.proofs.Looked.{agree_left}
use Rattle.boards.proofs.Over.{over-less, by-common, narrowed-start, narrowed-step, narrowed-end, narrowed_none}
use Rattle.boards.proofs.Pairs.{due-told, fits-due}
use Rattle.boards.proofs.narrowed.Goals as goal

pub loop-i-init : goal.loop-i-init
unfolding number
loop-i-init c = λ q a. narrowed-start _ _ _ (omega arith)

pub returns-then-is_none : goal.returns-then-is_none
returns-then-is_none c = λ q a.
    let was = c.loop-i.invariant q (agree_left _ _ c.joined_steps-looked.ensures a) in
    let keeps =
    due-told _ a _ _ _ c.loop-i.looked _
    (c.joined_steps-looked.ensures ∙ ap (joined most_steps c.loop-i.looked) c.steps_of.ensures)
    c.kept_by.ensures c.rule-asked.ensures in
    fits-due _ a _ _ _ _ c.requires
    (narrowed_none _ was (sym c.in-Some.ensures) c.common-kept.result (by-common _ _ _ _ keeps c.common-kept.ensures)
    (eqb-true _ _ (sym c.is_none.ensures ∙ c.if-is_none.true)))

pub loop-i-smaller : goal.loop-i-smaller
loop-i-smaller c =
    over-less _ _ (sym c.in-Some.ensures) _ c.without-left.ensures

pub loop-i-preserved : goal.loop-i-preserved
loop-i-preserved c = λ q a.
    let was = c.loop-i.invariant q (agree_left _ _ c.joined_steps-looked.ensures a) in
    let keeps =
    due-told _ a _ _ _ c.loop-i.looked _
    (c.joined_steps-looked.ensures ∙ ap (joined most_steps c.loop-i.looked) c.steps_of.ensures)
    c.kept_by.ensures c.rule-asked.ensures in
    narrowed-step _ was (sym c.in-Some.ensures) _ c.common-kept.result c.without-left.ensures
    (by-common _ _ _ _ keeps c.common-kept.ensures)

pub returns : goal.returns
returns c = λ q a. fits-due _ a _ _ _ _ c.requires (narrowed-end _ (c.loop-i.invariant q a) (sym c.in_default.ensures))
