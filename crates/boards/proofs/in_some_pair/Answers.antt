-- The people with whom some pair is in the relation: all but those with whom none is, one pair after the other.
use mathlib.Core.Path.{sym, ap, ◌∙◌}
use native.Mathlib.Omega.{arith}
use borrow.Author.Tests.{eqb-true}
use Prim.Native.Nat.{ℕ}
use Rattle.sets.specs.Sets.{difference}
use Rattle.sets.specs.Stored.{width, number}
use Rattle.boards.proofs.Over.{over-less, by_difference, narrowed-start, narrowed-step, narrowed-end, narrowed_none}
use Rattle.boards.proofs.Pairs.{pair-here, some_pair, some-pair-all}
use Rattle.boards.proofs.in_some_pair.Goals as goal

pub loop-x-init : goal.loop-x-init
unfolding number
loop-x-init c = narrowed-start _ _ _ (omega arith)

pub returns-then-is_none : goal.returns-then-is_none
returns-then-is_none c =
    let nobody = eqb-true _ _ (sym c.is_none.ensures ∙ c.if-is_none.true) in
    some-pair-all _ _ _ _ (omega arith) _ c.everybody_if-out.ensures _ _
    (narrowed_none _ c.loop-x.invariant (sym c.in-Some.ensures) c.difference-out.result
    (by_difference _ _ _ _ (pair-here _ _ _ _ _ _ _ c.pair.ensures) c.difference-out.ensures) nobody) nobody c.everybody_if.ensures

pub loop-x-smaller : goal.loop-x-smaller
loop-x-smaller c =
    over-less _ _ (sym c.in-Some.ensures) _ c.without-left.ensures

pub loop-x-preserved : goal.loop-x-preserved
loop-x-preserved c =
    narrowed-step _ c.loop-x.invariant (sym c.in-Some.ensures) _ c.difference-out.result c.without-left.ensures
    (by_difference _ _ _ _ (pair-here _ _ _ _ _ _ _ c.pair.ensures) c.difference-out.ensures)

pub returns : goal.returns
returns c =
    let all = c.everybody_if-out.ensures in
    some_pair _ _ _ _ (omega arith) _ all _ _ (narrowed-end _ c.loop-x.invariant (sym c.in_default.ensures))
    (c.difference.ensures ∙ ap (λ (z : ℕ). difference width z (number c.loop-x.out)) (c.everybody_if-2.ensures ∙ sym all))
