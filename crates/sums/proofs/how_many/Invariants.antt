use Rattle.sets.specs.Stored.{number}
use Rattle.sums.specs.Arrays.{weight_of}
use Rattle.sums.proofs.Counts.{Counting}
use Rattle.sums.proofs.how_many.Given as goal

abbrev pub invariant-loop-u : goal.invariant-loop-u
invariant-loop-u l = Counting (weight_of l.sets) (number l.sets.held) l.sets.room l.u l.sums
