use Rattle.sums.proofs.Counts.{Trials}
use Rattle.sums.proofs.trials_to.Given as goal

abbrev pub invariant-loop-u : goal.invariant-loop-u
invariant-loop-u l = Trials l.sets l.people l.missed l.u l.sum
