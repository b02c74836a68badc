-- The sets that are summed, and the bound.
use mathlib.Core.Path.{refl, sym, subst}
use native.Mathlib.Omega.{arith}
use Rattle.sets.specs.Stored.{number}
use Rattle.sets.specs.declared.People.{People}
use Rattle.tries.specs.Outcomes.{PlanTold}
use Rattle.leaps.proofs.Bounds.{start_fits, start_small, leapt}
use Rattle.leaps.proofs.leap_from.Goals as goal

pub spread-requires : goal.spread-requires
spread-requires c = (
  start_fits (omega arith) c.requires.0 c.free_below-most.ensures c.open_below-below.ensures c.once_below.ensures,
  omega (arith, c.once_below.ensures.room, c.if-room-gt-ROOM.false),
  start_small (omega arith) c.requires.0 c.free_below-most.ensures c.open_below-below.ensures c.once_below.ensures,
  subst (λ (z : People). PlanTold c.args.board.now.words c.args.board.now.people (number z) c.args.left c.args.limit c.args.p c.args.walked) (sym c.once_below.ensures.held) c.requires.1,
)

pub returns : goal.returns
returns c =
    leapt (omega arith) c.requires.0 c.free_below-most.ensures c.open_below-below.ensures c.once_below.ensures _ _ _ _ _ _ c.size-size.ensures
    (omega (arith, c.if-t-size.false)) refl (omega (arith, c.open_below-below.ensures, c.if-below-lt-LEAST.false)) c.in_ok-tally.ensures
