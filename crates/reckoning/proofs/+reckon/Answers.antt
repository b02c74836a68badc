-- What a turn of the loop rests on: the first who still fits is placed, those who stay are raised, what follows is told, and added.
use Rattle.std.proofs.Common.{◌≡◌, sym, arith, ℕ}
use mathlib.Core.Option.{some}
use Rattle.sets.specs.Sets.{lowest}
use Rattle.sets.specs.Stored.{width, number}
use Rattle.boards.proofs.Looked.{agree_same}
use Rattle.tries.proofs.Agreeing.{is-alone}
use Rattle.tries.proofs.Turns.{placed-is}
use Rattle.reckoning.proofs.Loop.{reckoning-start, reckoned-none, placed-known, stays-small, stays-room, up_small, up_fits, Turned, turned-never, turned-full, turned_on, turned-fewer}
use Rattle.reckoning.proofs.+reckon.Goals as goal
use Rattle.reckoning.proofs.+reckon.Goals.{In-Some, After-added-sum, then-w-eq0-via-then-w-eq0, then-w-eq0-via-else-w-eq0+then-away-eq0}

-- the first who still fits
low : {t : ℕ} (c : In-Some t) → lowest width (number c.loop-v.rest) ≡ some c.in-Some.v
low c = sym c.in-Some.ensures

-- the turn that was made
turned : {t : ℕ} (c : After-added-sum t)
    → Turned c.args.board.now.words c.args.board.now.people c.args.left c.args.p c.args.sets c.line_up.result.value.fit c.difference-missed.result c.loop-v.rest c.loop-v.away c.loop-v.sum c.loop-v.scale c.in-Some.v c.added-sum.result
turned {t} c = record {
  was = c.loop-v.invariant;
  low = low (goal.at.weight-w-requires t c).In-Some;
  st = c.staying-stay.result;
  stays = c.staying-stay.ensures;
  up = c.raised.result;
  raised = c.raised.ensures;
  q = c.placed.result;
  put = placed-is _ _ _ _ _ c.placed.ensures c.next_step-step.ensures;
  more = c.in_ok-more.more.trials;
  says = c.in_ok-more.ensures;
  here = c.trials_to.result;
  told = c.trials_to.ensures;
  adds = c.added-sum.ensures;
}

pub returns-then-left-eq0 : goal.returns-then-left-eq0
returns-then-left-eq0 t c = reckoned-none _ _ _ _ _ _ _ _ c.if-left-eq0.true

pub loop-v-init : goal.loop-v-init
loop-v-init t c =
    reckoning-start _ _ _ _ _ c.line_up.result.value.tried _ _ c.if-left-eq0.false (is-alone _ _ c.several.ensures c.if-several.false) (omega arith) c.requires.0
    (c.line_up.ensures _ (agree_same _ _)) c.difference-missed.ensures

pub staying-stay-requires : goal.staying-stay-requires
staying-stay-requires t c = placed-known c.loop-v.invariant _ (low (goal.at.staying-stay-requires t c).In-Some)

pub raised-requires : goal.raised-requires
raised-requires t c = stays-small c.loop-v.invariant _ (low (goal.at.raised-requires t c).In-Some) c.staying-stay.result c.staying-stay.ensures c.requires.1

pub reckon-requires : goal.reckon-requires
reckon-requires t c =
    let st = c.staying-stay in
    let up = c.raised in (
      omega (arith, c.if-left-eq0.false),
      (
        up_fits c.loop-v.invariant _ (low (goal.at.reckon-requires t c).In-Some) st.result st.ensures up.result up.ensures,
        up_small c.loop-v.invariant _ (low (goal.at.reckon-requires t c).In-Some) st.result st.ensures up.result up.ensures c.requires.1,
      ),
    )

pub trials_to-requires : goal.trials_to-requires
trials_to-requires t c =
    let st = c.staying-stay in (
      omega arith,
      omega (arith, stays-room c.loop-v.invariant _ (low (goal.at.trials_to-requires t c).In-Some) st.result st.ensures, c.if-sets-gt-ROOM.false),
      omega (arith, placed-known c.loop-v.invariant _ (low (goal.at.trials_to-requires t c).In-Some)),
    )

pub added-sum-requires : goal.added-sum-requires
added-sum-requires t c =
    let s = c.loop-v.invariant.going.summing in
    (s.told, s.scaled, omega (arith, c.trials_to.ensures), omega (arith, c.in_ok-more.ensures.sum))

pub weight-w-requires : goal.weight-w-requires
weight-w-requires t c = placed-known c.loop-v.invariant _ (low (goal.at.weight-w-requires t c).In-Some)

pub returns-then-w-eq0 : goal.returns-then-w-eq0
returns-then-w-eq0 t c =
    elim c.then-w-eq0.branch [
      | then-w-eq0-via-then-w-eq0 w ↦ turned-never (turned (goal.at.returns-then-w-eq0 t c).After-added-sum) _ c.weight-w.ensures w.if-w-eq0.true
      | then-w-eq0-via-else-w-eq0+then-away-eq0 w ↦ turned-full (turned (goal.at.returns-then-w-eq0 t c).After-added-sum) w.if-away-eq0.true
    ]

pub loop-v-smaller : goal.loop-v-smaller
loop-v-smaller t c = turned-fewer (turned (goal.at.loop-v-smaller t c).After-added-sum) c.without-rest.result c.without-rest.ensures

pub loop-v-preserved : goal.loop-v-preserved
loop-v-preserved t c = turned_on (turned (goal.at.loop-v-preserved t c).After-added-sum) _ c.joined-away.result c.without-rest.result _ c.weight-w.ensures c.joined-away.ensures c.without-rest.ensures c.product-scale.ensures
