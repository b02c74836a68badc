use Rattle.lines.specs.Passing.{NextFit}
use Rattle.lines.proofs.next_fit.Given as goal

abbrev pub invariant-loop-i : goal.invariant-loop-i
invariant-loop-i l = NextFit l.lines l.at l.i l.found
