-- The plan walks without sets are summed by walking without the smallest, and then summing those without the sets that one person more joins: the room for
-- others falls.
use mathlib.Core.Path.{◌≡◌, sym, ap, ◌∙◌}
use mathlib.Core.Option.{none, some}
use native.Mathlib.Omega.{arith}
use Prim.Native.Nat.{ℕ}
use Rattle.sets.specs.Sets.{lowest}
use Rattle.sets.specs.Stored.{width, number, lowest_number}
use Rattle.leaps.proofs.Taken.{planned-within, planned-alone, taking-start, known, taken-fewer, taken-never, on_fits, on_room, on-small, taken-on, taking-end}
use Rattle.leaps.proofs.+all_planned_spread.Goals as goal
use Rattle.leaps.proofs.+all_planned_spread.Goals.{spread-In-Some}

-- the first who is still to be taken
low : {t : ℕ} (c : spread-In-Some t) → lowest width (number c.loop-v.rest) ≡ some c.in-Some.v
low c = sym c.in-Some.ensures

-- ---- those whom it met

pub spread-returns-then-sets-eq0 : goal.spread-returns-then-sets-eq0
spread-returns-then-sets-eq0 t c =
    let pre = c.requires in
    let within = planned-within pre.3 c.in-Yes.trials c.in-Yes.is (omega arith) pre.0 in
    planned-alone pre.3 c.in-Yes.trials c.in-Yes.is (omega arith) pre.0 _ _ (omega (arith, within, c.ranges.limit.fits)) c.if-sets-eq0.true

pub spread-loop-v-init : goal.spread-loop-v-init
spread-loop-v-init t c = taking-start _ _ _ _ _ c.args.walked.met _ c.difference-rest.ensures c.requires.2

pub spread-staying-stay-requires : goal.spread-staying-stay-requires
spread-staying-stay-requires t c = known c.loop-v.invariant _ (low (goal.at.spread-staying-stay-requires t c).In-Some)

pub spread-weight-requires : goal.spread-weight-requires
spread-weight-requires t c = known c.loop-v.invariant _ (low (goal.at.spread-weight-requires t c).In-Some)

pub spread-loop-v-smaller-then-weight-ne1 : goal.spread-loop-v-smaller-then-weight-ne1
spread-loop-v-smaller-then-weight-ne1 t c =
    taken-fewer c.loop-v.invariant _ (low (goal.at.spread-loop-v-smaller-then-weight-ne1 t c).In-Some) c.without-rest.result c.without-rest.ensures

pub spread-loop-v-preserved-then-weight-ne1 : goal.spread-loop-v-preserved-then-weight-ne1
spread-loop-v-preserved-then-weight-ne1 t c =
    taken-never c.loop-v.invariant _ (low (goal.at.spread-loop-v-preserved-then-weight-ne1 t c).In-Some) _ c.without-rest.ensures _ c.staying-stay.ensures _ c.weight.ensures c.if-weight-ne1.true

-- ---- the sets that they join

pub spread-all_planned-requires : goal.spread-all_planned-requires
spread-all_planned-requires t c =
    let pre = c.requires in
    let first = low (goal.at.spread-all_planned-requires t c).In-Some in
    let room = on_room c.loop-v.invariant _ first _ c.without-rest.ensures _ c.staying-stay.ensures (omega arith) pre.0 _ c.weight.ensures c.if-weight-ne1.false _ c.joined.ensures in (
      omega (arith, c.decreases, room),
      (
        on_fits c.loop-v.invariant _ first _ c.without-rest.ensures _ c.staying-stay.ensures (omega arith) pre.0 _ c.weight.ensures c.if-weight-ne1.false _ c.joined.ensures,
        omega (arith, pre.1, room),
        on-small c.loop-v.invariant _ first _ c.without-rest.ensures _ c.staying-stay.ensures (omega arith) pre.0 _ c.weight.ensures c.if-weight-ne1.false _ c.joined.ensures,
      ),
    )

pub spread-loop-v-smaller : goal.spread-loop-v-smaller
spread-loop-v-smaller t c =
    taken-fewer c.loop-v.invariant _ (low (goal.at.spread-loop-v-smaller t c).In-Some) c.without-rest.result c.without-rest.ensures

pub spread-loop-v-preserved : goal.spread-loop-v-preserved
spread-loop-v-preserved t c =
    let pre = c.requires in
    taken-on c.loop-v.invariant _ (low (goal.at.spread-loop-v-preserved t c).In-Some) _ c.without-rest.ensures _ c.staying-stay.ensures (omega arith) pre.0 _ c.weight.ensures c.if-weight-ne1.false _ c.joined.ensures
    c.in_ok-more.more.trials _ c.in_ok-more.ensures c.added-sum.ensures

-- ---- nobody is left

pub spread-returns : goal.spread-returns
spread-returns t c =
    let pre = c.requires in
    let nobody : lowest width (number c.loop-v.rest) ≡ none = sym c.lowest.ensures ∙ ap lowest_number c.in_default.is in
    taking-end c.in-Yes.trials c.loop-v.invariant nobody (omega arith) pre.0 pre.3 c.in-Yes.is c.difference-rest.ensures _ _ c.how_many.ensures c.added.ensures
