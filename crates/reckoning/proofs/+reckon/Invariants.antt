-- Reckoning calls itself on the position one step longer: the number of steps left falls.
use Rattle.sets.specs.Sets.{size}
use Rattle.sets.specs.Stored.{width, number}
use Rattle.reckoning.proofs.Loop.{Reckoning}
use Rattle.reckoning.proofs.+reckon.Given as goal

abbrev pub decreases-reckon : goal.decreases-reckon
decreases-reckon l = l.left

abbrev pub invariant-loop-v : goal.invariant-loop-v
invariant-loop-v l = Reckoning l.board.words l.board.people l.left l.p l.initial.away l.initial.rest l.missed l.rest l.away l.sum l.scale

abbrev pub decreases-loop-v : goal.decreases-loop-v
decreases-loop-v l = size width (number l.rest)
