-- The invariant: the entries before i are placed.
use Rattle.asking.proofs.Steps.{Placed}
use Rattle.asking.proofs.filled.Given as goal

abbrev pub invariant-loop-i : goal.invariant-loop-i
invariant-loop-i l = Placed l.p l.i l.q
