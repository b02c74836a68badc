-- The people with whom every pair is in the relation: one pair after the other.
use mathlib.Core.Path.{sym, ◌∙◌}
use native.Mathlib.Omega.{arith}
use borrow.Author.Tests.{eqb-true}
use Rattle.sets.specs.Stored.{number}
use Rattle.boards.proofs.Over.{over-less, by-common, narrowed-start, narrowed-step, narrowed-end, narrowed_none}
use Rattle.boards.proofs.Pairs.{pair-here, every-pair}
use Rattle.boards.proofs.in_every_pair.Goals as goal

pub loop-x-init : goal.loop-x-init
unfolding number
loop-x-init c = narrowed-start _ _ _ (omega arith)

pub returns-then-is_none : goal.returns-then-is_none
returns-then-is_none c =
    every-pair _ _ _ _ (omega arith) _ c.everybody_if-every.ensures _
    (narrowed_none _ c.loop-x.invariant (sym c.in-Some.ensures) c.common-every.result (by-common _ _ _ _ (pair-here _ _ _ _ _ _ _ c.pair.ensures) c.common-every.ensures)
    (eqb-true _ _ (sym c.is_none.ensures ∙ c.if-is_none.true)))

pub loop-x-smaller : goal.loop-x-smaller
loop-x-smaller c =
    over-less _ _ (sym c.in-Some.ensures) _ c.without-left.ensures

pub loop-x-preserved : goal.loop-x-preserved
loop-x-preserved c =
    narrowed-step _ c.loop-x.invariant (sym c.in-Some.ensures) _ c.common-every.result c.without-left.ensures
    (by-common _ _ _ _ (pair-here _ _ _ _ _ _ _ c.pair.ensures) c.common-every.ensures)

pub returns : goal.returns
returns c = every-pair _ _ _ _ (omega arith) _ c.everybody_if-every.ensures _ (narrowed-end _ c.loop-x.invariant (sym c.in_default.ensures))
