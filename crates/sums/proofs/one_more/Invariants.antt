use Rattle.sums.specs.Arrays.{entry}
use Rattle.sums.proofs.Counts.{Joining}
use Rattle.sums.proofs.one_more.Given as goal

abbrev pub invariant-loop-j : goal.invariant-loop-j
invariant-loop-j l = Joining (entry l.fn.sums) l.w l.j l.out l.before
