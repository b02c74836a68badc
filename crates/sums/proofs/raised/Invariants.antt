use Rattle.sums.proofs.Counts.{Raising}
use Rattle.sums.proofs.raised.Given as goal

abbrev pub invariant-loop-weight : goal.invariant-loop-weight
invariant-loop-weight l = Raising l.fn.sets.weights l.weight-index l.weight-items
