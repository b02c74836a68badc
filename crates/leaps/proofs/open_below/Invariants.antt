use Prim.Native.Nat.{◌≤◌}
use Rattle.leaps.proofs.open_below.Given as goal

abbrev pub invariant-loop-s : goal.invariant-loop-s
invariant-loop-s l = l.below ≤ l.most
