use Rattle.std.proofs.Common.{◌≡◌}
use Rattle.lines.specs.Passing.{passed}
use Rattle.lines.proofs.moves_between.Given as goal

abbrev pub invariant-loop-i : goal.invariant-loop-i
invariant-loop-i l = l.sum ≡ passed l.lines l.at l.to l.i
