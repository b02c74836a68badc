-- The room for others falls from a walk to those that its people join; at the same room the walk is made first.
use Prim.Native.Nat.{◌+◌, ◌*◌}
use Rattle.sets.specs.Sets.{size}
use Rattle.sets.specs.Stored.{width, number}
use Rattle.leaps.proofs.Taken.{Taking}
use Rattle.leaps.proofs.+all_planned_spread.Given as goal

abbrev pub decreases-all_planned : goal.decreases-all_planned
decreases-all_planned l = 2 * l.sets.room + 1

abbrev pub decreases-spread : goal.decreases-spread
decreases-spread l = 2 * l.sets.room

abbrev pub invariant-spread-loop-v : goal.invariant-spread-loop-v
invariant-spread-loop-v l = Taking l.board.words l.board.people l.left l.p l.initial.stay l.initial.rest l.rest l.stay l.sum

abbrev pub decreases-spread-loop-v : goal.decreases-spread-loop-v
decreases-spread-loop-v l = size width (number l.rest)
