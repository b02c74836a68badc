use Rattle.replies.proofs.Entries.{Placed}
use Rattle.replies.proofs.pairs.position_of.Given as goal

abbrev pub invariant-loop-i : goal.invariant-loop-i
invariant-loop-i l = Placed l.bytes l.i l.p
